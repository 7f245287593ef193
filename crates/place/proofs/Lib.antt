pub mod Places
pub mod Stops
pub mod Said
pub mod Determined
