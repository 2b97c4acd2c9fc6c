pub mod Hosts
pub mod Well
