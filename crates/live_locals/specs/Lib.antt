pub mod Live
pub mod Lives
pub mod Alike
pub mod Dead
pub mod Laws
