mod Folded
mod Listed
mod Saying
pub mod Places
