pub mod Setup
pub mod Rounding
pub mod Record
pub mod Table
pub mod Judge
pub mod Find
pub mod Act
pub mod Scale
