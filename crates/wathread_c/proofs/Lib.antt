pub mod Held
pub mod InstanceValues
pub mod LooseValues
pub mod ModuleValues
pub mod Told
