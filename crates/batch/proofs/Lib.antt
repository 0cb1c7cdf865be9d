pub mod Order
pub mod Running
