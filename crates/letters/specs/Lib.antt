pub mod Choosing
pub mod Letters
pub mod Sums
