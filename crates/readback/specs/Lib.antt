pub mod Renaming
pub mod ReadBack
