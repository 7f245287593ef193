pub mod Printing
pub mod Bounds
pub mod Telling
pub mod Determined
pub mod Unasked
