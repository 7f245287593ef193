pub mod State
pub mod Methods
pub mod Front
pub mod Reached
pub mod Inner
