pub mod Exchanges
pub mod Laws
pub mod Example
