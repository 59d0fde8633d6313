pub mod Offends
