pub mod Keeping
pub mod Distinct
pub mod Cut
pub mod Numbers
