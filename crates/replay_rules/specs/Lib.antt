pub mod Logs
pub mod Walk
pub mod Theorems
pub mod Recorded
pub mod Telling
pub mod Ranges
