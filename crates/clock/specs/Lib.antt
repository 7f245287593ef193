pub mod Calendar
pub mod Existing
pub mod Passing
pub mod Digits
pub mod Shown
pub mod Counting
