pub mod Numbers
pub mod Reads
pub mod Sections
pub mod Strings
