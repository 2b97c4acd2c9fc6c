pub mod Cuts
pub mod Replied
pub mod Loading
pub mod Storing
pub mod Paging
pub mod Rest
pub mod Taken
pub mod Turns
