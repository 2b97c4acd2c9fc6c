pub mod Values
pub mod Outcomes
pub mod Widths
pub mod Equal
pub mod Nesting
pub mod Within
pub mod Modules
pub mod Tests
