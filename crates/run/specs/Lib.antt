pub mod Run
pub mod SafeRun
