pub mod Called
pub mod Accesses
pub mod Ends
pub mod Theorems
