pub mod Json
pub mod Sent
pub mod Unwritten
pub mod Places
pub mod Outcomes
pub mod Rows
pub mod Functions
pub mod Moments
