pub mod Writing
pub mod ReadBack
pub mod Quoting
