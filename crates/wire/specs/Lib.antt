pub mod Bytes
pub mod ByteOrder
pub mod Room
pub mod Addresses
pub mod Numbers
pub mod OneAnswer
