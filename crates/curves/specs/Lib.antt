pub mod Area
pub mod Rounds
pub mod Adding
pub mod Clearing
pub mod History
pub mod Inner
