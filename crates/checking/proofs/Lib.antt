pub mod LinesProperties
pub mod CheckedProperties
