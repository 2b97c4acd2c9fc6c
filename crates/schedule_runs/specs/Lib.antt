pub mod Runs
pub mod Theorem
pub mod Beginnings
pub mod Places
