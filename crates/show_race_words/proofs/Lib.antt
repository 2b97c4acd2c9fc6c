pub mod Giving
pub mod Stacking
pub mod Starting
pub mod Telling
