pub mod Typed
pub mod Steps
pub mod Threads
