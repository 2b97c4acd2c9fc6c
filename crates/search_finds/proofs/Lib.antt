mod EndsSo
mod InRow
mod Led
mod Pieces
pub mod Noting
mod Smaller
