pub mod Choosing
pub mod Rows
