pub mod Frame
pub mod Acknowledgement
pub mod Writer
