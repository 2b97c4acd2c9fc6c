pub mod Complete
pub mod DrawnRaces
pub mod Early
pub mod Endless
pub mod Found
pub mod Racing
pub mod Sought
