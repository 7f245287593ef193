pub mod Reached
pub mod Feeding
