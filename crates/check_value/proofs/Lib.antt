pub mod Xor
pub mod Steps
pub mod Linear
pub mod Formula
pub mod ReadingOn
pub mod Examples
pub mod Determined
