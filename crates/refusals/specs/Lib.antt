pub mod Codes
pub mod Conditions
pub mod Ranges
pub mod Refusals
