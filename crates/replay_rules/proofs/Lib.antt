pub mod Making
pub mod Leading
pub mod Walking
pub mod Free
pub mod Recording
pub mod Replies
pub mod Ranges
