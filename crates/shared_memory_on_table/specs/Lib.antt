pub mod Callers
pub mod Moves
pub mod Seating
pub mod Names
pub mod Rule
