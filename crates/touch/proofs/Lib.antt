-- the laws of the definitions
pub mod Tables
pub mod GoodFields
pub mod Points
pub mod Rounding
pub mod Acts
pub mod Scale
pub mod ScaleInstances
-- the laws that the functions' proofs cite
pub mod TableAnswers
pub mod Determined
pub mod Said
