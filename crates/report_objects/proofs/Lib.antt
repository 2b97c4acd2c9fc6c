mod ObjectRows
mod ObjectParts
pub mod RacePairs
