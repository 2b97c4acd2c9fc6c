pub mod Counts
pub mod Grammar
pub mod Kinds
pub mod Reading
