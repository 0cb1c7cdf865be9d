pub mod Codes
pub mod Exposure
