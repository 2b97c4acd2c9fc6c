pub mod Stood
pub mod Heard
pub mod Alike
