pub mod Jobs
pub mod Rest
pub mod Searched
pub mod Searches
pub mod Silent
pub mod Told
