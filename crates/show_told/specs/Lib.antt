pub mod Functions
pub mod Values
