pub mod Scope
pub mod Kinds
pub mod Blocks
