pub mod Sections
pub mod Ports
pub mod Factor
pub mod Lines
pub mod Said
pub mod Hears
pub mod Last
