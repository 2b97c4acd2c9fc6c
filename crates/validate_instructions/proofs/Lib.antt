pub mod Moves
pub mod Fitting
pub mod Labels
pub mod Spared
