pub mod FaultNumbers
pub mod Called
pub mod Headers
pub mod Logs
pub mod RunFaults
