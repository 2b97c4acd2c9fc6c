pub mod Opening
pub mod Functions
pub mod Calls
pub mod Replied
pub mod TableCalls
