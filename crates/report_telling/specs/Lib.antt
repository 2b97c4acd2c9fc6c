pub mod Complete
pub mod Drawn
pub mod Found
pub mod NoneFound
pub mod Racing
pub mod SearchObjects
pub mod Telling
pub mod Troubles
