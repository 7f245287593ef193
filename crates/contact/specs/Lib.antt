pub mod Contact
pub mod Sound
