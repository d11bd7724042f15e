pub mod MeaningProperties
pub mod LawsProperties
mod WalkProperties
pub mod EntriesProperties
pub mod TablesProperties
