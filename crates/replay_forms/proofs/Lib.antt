pub mod Laws
pub mod Repeated
pub mod Lines
pub mod Hex
pub mod Written
