pub mod Changes
pub mod Rows
pub mod Words
pub mod Answers
pub mod Rule
