pub mod Truths
pub mod EachBelow
pub mod PastEnd
pub mod Parts
pub mod Over
pub mod LaidAt
pub mod Below
pub mod Determined
