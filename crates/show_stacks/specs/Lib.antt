pub mod Seen
pub mod Stacks
pub mod Texts
