pub mod TableProperties
pub mod ListedProperties
pub mod ViewProperties
pub mod InternedProperties
pub mod KnownProperties
