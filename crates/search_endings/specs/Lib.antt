pub mod Endings
pub mod Outcomes
pub mod Equal
pub mod Ends
