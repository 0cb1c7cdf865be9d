pub mod Accounts
pub mod Kinds
pub mod Postings
