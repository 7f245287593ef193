pub mod OneWord
pub mod Carried
pub mod Loops
pub mod Written
pub mod Determined
