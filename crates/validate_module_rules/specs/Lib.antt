pub mod Spaces
pub mod Faults
pub mod Exported
