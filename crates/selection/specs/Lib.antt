pub mod Choices
pub mod Spans
pub mod Ways
