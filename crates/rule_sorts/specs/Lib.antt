pub mod Uses
pub mod Walk
