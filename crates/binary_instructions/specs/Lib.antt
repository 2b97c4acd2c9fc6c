pub mod Grammar
pub mod Instructions
pub mod Opcodes
pub mod Reading
