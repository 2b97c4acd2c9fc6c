pub mod Around
pub mod Inlined
pub mod Spots
