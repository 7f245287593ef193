pub mod Store
pub mod Step
pub mod Slider
pub mod Sheets
