pub mod Blocks
pub mod Spots
pub mod Stacks
pub mod Starts
pub mod Written
