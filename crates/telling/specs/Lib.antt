pub mod Memory
pub mod Told
pub mod Lines
pub mod Events
pub mod Inner
