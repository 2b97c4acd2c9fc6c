pub mod Chained
pub mod Cycling
pub mod Owned
pub mod Standing
pub mod Telling
pub mod Waiting
