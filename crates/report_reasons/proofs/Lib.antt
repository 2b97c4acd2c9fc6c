mod Explaining
pub mod LineTexts
pub mod Shown
