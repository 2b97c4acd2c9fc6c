pub mod Done
pub mod Requests
pub mod Replies
pub mod Wanted
