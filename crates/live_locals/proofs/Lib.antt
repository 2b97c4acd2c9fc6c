mod Sound
pub mod Marks
pub mod Other
pub mod Going
pub mod States
pub mod Both
pub mod Placed
pub mod Dead
