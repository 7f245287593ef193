pub mod Watched
pub mod Judge
pub mod Noting
pub mod Sending
