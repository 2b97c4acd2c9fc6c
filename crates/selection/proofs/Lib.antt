pub mod Cutting
pub mod Search
