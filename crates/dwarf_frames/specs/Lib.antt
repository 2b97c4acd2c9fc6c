pub mod Chains
pub mod Scopes
