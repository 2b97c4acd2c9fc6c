pub mod Equal
pub mod Nested
pub mod Found
