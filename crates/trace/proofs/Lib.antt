pub mod Items
pub mod Events
pub mod Taking
pub mod Runs
pub mod Steps
pub mod Said
pub mod Ending
pub mod Determined
