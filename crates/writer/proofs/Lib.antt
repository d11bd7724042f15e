pub mod PutProperties
pub mod ShownProperties
pub mod NumberedProperties
pub mod PiecesProperties
pub mod RunProperties
pub mod NodeProperties
pub mod ReadsBackProperties
pub mod ShownExamples
