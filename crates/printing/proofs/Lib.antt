pub mod ByTest
pub mod HeldSound
pub mod AllReports
pub mod Outputs
pub mod Onward
pub mod Feeding
pub mod Example
