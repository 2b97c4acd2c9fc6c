pub mod Alternating
pub mod Awake
pub mod Notified
pub mod Timeouts
pub mod Settled
pub mod Worked
pub mod OpenQuestions
