pub mod Folds
pub mod Names
pub mod Rows
pub mod Lasts
pub mod LastTexts
