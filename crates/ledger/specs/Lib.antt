pub mod Colours
pub mod Limits
pub mod Lodge
pub mod Opening
pub mod Outcomes
pub mod Parties
