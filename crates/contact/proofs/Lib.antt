pub mod Determined
pub mod Named
pub mod Soundness
