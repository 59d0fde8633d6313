pub mod Set
