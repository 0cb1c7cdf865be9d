pub mod Faults
pub mod Fields
pub mod Kinds
pub mod Readers
pub mod Records
