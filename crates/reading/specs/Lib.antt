pub mod Place
pub mod Stretch
pub mod Line
pub mod Moves
pub mod Demand3
pub mod Run
pub mod Figure
pub mod Echo
