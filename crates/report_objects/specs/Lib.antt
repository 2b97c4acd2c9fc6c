pub mod Ends
pub mod RaceObjects
pub mod Scenes
