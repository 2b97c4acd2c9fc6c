pub mod Headers
pub mod SpareThreads
pub mod Settled
pub mod Courses
pub mod Led
pub mod Faults
pub mod Nowhere
pub mod Heard
