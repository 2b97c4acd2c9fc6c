pub mod Threads
pub mod Asking
