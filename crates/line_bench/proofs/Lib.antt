pub mod Weights
pub mod Summing
pub mod Examples
pub mod Determined
