pub mod First
pub mod Laws
pub mod Printed
