pub mod Items
pub mod KindBytes
pub mod Stages
pub mod Records
pub mod Runs
