pub mod Lines
pub mod Endings
pub mod Complete
pub mod Drawn
pub mod Found
