pub mod Branching
pub mod Numbers
