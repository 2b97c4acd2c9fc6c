pub mod Beside
pub mod CycleTexts
pub mod Cycles
pub mod Stands
pub mod Waits
