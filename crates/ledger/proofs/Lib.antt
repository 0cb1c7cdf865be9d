pub mod Limits
pub mod Lodging
pub mod Products
pub mod Settling
