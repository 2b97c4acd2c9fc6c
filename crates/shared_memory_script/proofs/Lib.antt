pub mod Dealing
pub mod Beginning
