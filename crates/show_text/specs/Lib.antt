pub mod Contexts
pub mod Numbers
pub mod Plain
pub mod Rows
pub mod Woken
pub mod Words
