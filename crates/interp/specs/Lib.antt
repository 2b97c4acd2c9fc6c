pub mod Kept
pub mod Places
pub mod Room
pub mod Came
pub mod Shown
pub mod Starts
pub mod Threads
pub mod Tries
