pub mod Imported
pub mod Calling
pub mod Requested
pub mod Together
pub mod Gating
