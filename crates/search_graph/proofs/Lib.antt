pub mod Having
pub mod Marks
pub mod Reaching
pub mod Checked
pub mod Fairness
pub mod Around
pub mod Shadow
pub mod Rounds
