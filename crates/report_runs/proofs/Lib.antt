pub mod NewSeats
pub mod Whole
pub mod Leaving
pub mod Recorded
pub mod Fronts
