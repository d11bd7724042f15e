pub mod FittingProperties
pub mod RowsProperties
pub mod RowViewsProperties
pub mod GoalsProperties
pub mod TablesProperties
pub mod BuiltInsProperties
mod Every
mod CopiesProperties
mod Parts
