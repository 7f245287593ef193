pub mod Answers
pub mod KindBytes
pub mod Gathering
pub mod Determined
