pub mod Going
pub mod Passes
pub mod Whole
pub mod WholeExample
