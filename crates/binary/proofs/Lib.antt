pub mod Laws
pub mod Loops
pub mod Modules
pub mod Nested
pub mod SectionLaws
pub mod Whole
