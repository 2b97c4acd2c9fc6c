pub mod Find
pub mod Order
pub mod Search
