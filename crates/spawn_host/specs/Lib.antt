pub mod Entries
pub mod Requests
pub mod Faults
pub mod Threads
pub mod Runs
pub mod Gates
pub mod RunEnds
