pub mod Alike
pub mod Behind
pub mod FirstNames
pub mod Front
