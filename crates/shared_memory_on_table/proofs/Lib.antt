pub mod Totals
pub mod GoingOn
pub mod Seating
pub mod Moves
