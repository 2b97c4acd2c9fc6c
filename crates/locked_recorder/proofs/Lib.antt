pub mod Queue
pub mod Room
pub mod Moves
pub mod Access
