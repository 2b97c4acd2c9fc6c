pub mod Passes
pub mod Ends
pub mod Onward
pub mod Refused
pub mod Reached
pub mod Forth
pub mod Going
