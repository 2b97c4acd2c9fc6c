pub mod Each
pub mod Entries
pub mod Hearing
pub mod Lasts
