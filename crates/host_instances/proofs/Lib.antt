pub mod Begins
pub mod Blank
pub mod First
pub mod Left
pub mod Sizes
pub mod Typed
