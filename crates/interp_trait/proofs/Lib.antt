pub mod Pausing
pub mod Coming
pub mod Trying
pub mod Pauses
pub mod Entering
