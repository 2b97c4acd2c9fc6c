pub mod Bits
pub mod Integers
pub mod Results
pub mod Laws
