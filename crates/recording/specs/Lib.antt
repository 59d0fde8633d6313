pub mod Rows
pub mod Lines
pub mod Faults
pub mod Replay
pub mod Recorded
pub mod Replayed
pub mod Refusal
