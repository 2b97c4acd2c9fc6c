pub mod Laws
pub mod Loop
pub mod Table
pub mod Nesting
