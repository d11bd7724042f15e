pub mod DigitProperties
pub mod PlaceProperties
pub mod NameProperties
pub mod NumberingProperties
pub mod NestingProperties
pub mod ReadBackProperties
pub mod RenamingProperties
mod ReadBackExamples
