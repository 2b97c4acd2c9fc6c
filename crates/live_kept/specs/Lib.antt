pub mod Cleared
pub mod Clearing
pub mod Walkers
