pub mod Keeping
pub mod Unmetering
pub mod Turns
pub mod Budgeting
pub mod Laws
