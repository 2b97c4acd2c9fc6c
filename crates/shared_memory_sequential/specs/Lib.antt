pub mod Faults
pub mod Opening
pub mod Words
pub mod Ranges
