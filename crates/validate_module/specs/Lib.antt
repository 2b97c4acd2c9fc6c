pub mod Own
pub mod Pages
