-- the laws of the definitions
pub mod Computed
pub mod TwoDigits
pub mod Days
pub mod Seconds
pub mod Leap
pub mod Weekdays
pub mod Shows
pub mod ClockInstances
-- the laws that the functions' proofs cite
pub mod Answers
pub mod Determined
