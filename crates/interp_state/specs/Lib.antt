pub mod Words
pub mod Stands
pub mod Steps
pub mod Branches
