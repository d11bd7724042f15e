pub mod Kept
pub mod Lines
pub mod Refusals
pub mod Checked
