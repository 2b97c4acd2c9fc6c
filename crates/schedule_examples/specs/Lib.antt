pub mod WorkedRun
pub mod TwoThreads
pub mod Functions
