pub mod System
pub mod ThreadRun
pub mod Scheduled
pub mod Histories
pub mod Tries
pub mod Schedules
pub mod Machine
pub mod Theorems
