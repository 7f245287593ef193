pub mod State
pub mod Lines
pub mod Events
pub mod Steps
pub mod Inner
pub mod Output
