pub mod Program
pub mod Config
pub mod Access
pub mod Step
pub mod State
