pub mod Shown
pub mod Numbered
pub mod Pieces
pub mod Lines
pub mod ReadsBack
