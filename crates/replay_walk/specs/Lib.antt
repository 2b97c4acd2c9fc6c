pub mod Standing
pub mod Walked
pub mod Seen
