pub mod Shared
pub mod Threads
pub mod Seeing
