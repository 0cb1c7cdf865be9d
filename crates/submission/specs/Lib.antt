pub mod Submitted
