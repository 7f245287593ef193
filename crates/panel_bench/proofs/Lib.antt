pub mod Asks
pub mod Streaming
pub mod Determined
