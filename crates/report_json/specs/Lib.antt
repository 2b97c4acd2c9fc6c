pub mod Raced
pub mod Said
pub mod Ends
pub mod Refusals
pub mod Found
pub mod Drawn
pub mod Complete
