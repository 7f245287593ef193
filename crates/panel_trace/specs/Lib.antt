pub mod Inner
pub mod Program
