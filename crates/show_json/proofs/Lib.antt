pub mod Sent
pub mod RowTexts
