pub mod Added
pub mod Lines
pub mod Objects
pub mod Reasons
