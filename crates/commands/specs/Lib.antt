pub mod Lent
pub mod Outcome
pub mod Reply
pub mod Effect
pub mod Perform
pub mod Listed
pub mod Inner
