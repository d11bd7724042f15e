pub mod Rings
pub mod Rows
pub mod Linked
pub mod Views
