pub mod Looks
pub mod Bullets
