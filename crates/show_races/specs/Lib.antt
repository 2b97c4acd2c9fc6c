pub mod Sites
pub mod Races
pub mod Rows
pub mod Told
pub mod Releases
