pub mod Alike
pub mod Firsts
pub mod Laws
pub mod Pulled
pub mod Releases
pub mod Told
