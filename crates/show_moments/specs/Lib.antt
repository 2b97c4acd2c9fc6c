pub mod Lines
pub mod Moments
pub mod Opened
pub mod Scenes
pub mod Texts
pub mod Values
