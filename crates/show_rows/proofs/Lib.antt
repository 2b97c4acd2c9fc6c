pub mod Chosen
mod Read
pub mod Saying
pub mod Texts
pub mod Words
pub mod Zipped
