pub mod Lengths
pub mod Laying
pub mod Examples
pub mod Determined
