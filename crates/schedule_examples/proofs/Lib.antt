pub mod Worked
pub mod Together
