pub mod Reading
pub mod Playing
pub mod Table
