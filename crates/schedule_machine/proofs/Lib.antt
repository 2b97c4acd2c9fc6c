pub mod Turning
pub mod Orderly
pub mod Asked
pub mod Accesses
pub mod Beginning
pub mod Starting
pub mod Questions
pub mod Asking
