pub mod Course
pub mod Lines
pub mod Steps
pub mod Link
