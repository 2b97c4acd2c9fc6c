pub mod First
pub mod Little
