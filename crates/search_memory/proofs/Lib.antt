mod Windows
pub mod Differing
pub mod Forms
pub mod Putting
