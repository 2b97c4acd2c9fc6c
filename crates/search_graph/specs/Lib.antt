pub mod Paths
pub mod Graph
pub mod Worlds
pub mod Runs
pub mod Round
pub mod Ranks
pub mod Marking
pub mod Groups
