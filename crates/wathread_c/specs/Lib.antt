pub mod Answers
pub mod Calls
pub mod Given
pub mod Handles
pub mod Kept
pub mod Lines
pub mod Refused
