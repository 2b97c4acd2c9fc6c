pub mod Draws
pub mod Places
pub mod Given
pub mod Priorities
pub mod Spinning
pub mod Runs
