pub mod State
pub mod Choice
pub mod Press
pub mod Pressed
pub mod Benched
pub mod Refusal
