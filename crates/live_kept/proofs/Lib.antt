mod Words
mod Opened
mod Standing
pub mod Walking
