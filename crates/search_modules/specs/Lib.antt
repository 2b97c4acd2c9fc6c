pub mod Searching
pub mod Moved
pub mod Endings
pub mod Returned
pub mod Liveness
pub mod Ways
pub mod Races
