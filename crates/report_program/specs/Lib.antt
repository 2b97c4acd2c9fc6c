pub mod Closing
pub mod Coloring
pub mod Details
pub mod Messages
pub mod Room
