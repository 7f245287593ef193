pub mod CheckValue
pub mod Formula
