pub mod Acts
pub mod Turning
pub mod Theorems
