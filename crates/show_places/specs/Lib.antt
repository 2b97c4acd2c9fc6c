pub mod Bodies
pub mod Places
pub mod Sections
pub mod Names
pub mod Short
