pub mod Resumed
pub mod Woken
