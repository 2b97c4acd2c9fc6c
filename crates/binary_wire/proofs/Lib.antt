pub mod Laws
pub mod Loop
pub mod Text
pub mod Tops
