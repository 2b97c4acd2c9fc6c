pub mod Threads
pub mod Runs
