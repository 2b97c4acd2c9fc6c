pub mod Gathered
pub mod Names
pub mod Order
pub mod Rules
pub mod ExportLaws
pub mod WholeLaws
pub mod Spared
