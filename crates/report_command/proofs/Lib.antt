pub mod Zipped
pub mod Spelled
