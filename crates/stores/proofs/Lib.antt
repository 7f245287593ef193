-- the laws of the definitions
pub mod Differences
pub mod Placed
pub mod Fenced
pub mod Roundings
pub mod Slid
pub mod Kept
pub mod Sheets
pub mod Examples
-- the laws that the functions' proofs cite
pub mod SliderAnswers
pub mod Determined
