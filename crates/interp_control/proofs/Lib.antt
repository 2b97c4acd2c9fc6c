pub mod Values
pub mod Slots
pub mod Exits
pub mod Numbers
pub mod Keeping
pub mod Follow
pub mod Branching
pub mod Computing
