pub mod Seen
pub mod Walked
mod Listed
mod Nexts
mod Scenes
mod Telling
