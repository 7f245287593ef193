pub mod Table
pub mod Run
pub mod Touched
pub mod Clocked
