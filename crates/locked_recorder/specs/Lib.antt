pub mod Room
pub mod Rule
pub mod Promises
