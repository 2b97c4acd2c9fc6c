pub mod Filling
pub mod Machines
