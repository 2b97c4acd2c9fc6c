pub mod Same
pub mod Orderly
pub mod Tame
pub mod Ending
pub mod Bytes
pub mod Plain
pub mod Accessing
pub mod Within
