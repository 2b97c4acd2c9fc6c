pub mod Moving
pub mod Racing
pub mod Overwriting
pub mod Quiet
pub mod Turning
pub mod Striking
pub mod Touching
pub mod Wanting
pub mod Eventing
pub mod Meeting
pub mod Going
pub mod Continuing
pub mod Resting
pub mod Reducing
pub mod Following
pub mod Beginning
mod Held
mod Missing
pub mod Timing
mod Keeping
mod Pieces
pub mod Crossing
mod Knowing
mod Rowing
