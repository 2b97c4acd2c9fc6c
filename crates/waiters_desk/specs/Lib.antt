pub mod Calls
pub mod Locks
pub mod Freedom
pub mod Seats
