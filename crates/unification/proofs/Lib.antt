pub mod VariablesProperties
pub mod InstProperties
pub mod BindingsProperties
pub mod OccursProperties
pub mod ChainProperties
pub mod SolvedProperties
pub mod UnifyingProperties
pub mod CountProperties
pub mod UnderProperties
pub mod KeptProperties
pub mod OlderProperties
pub mod SeenProperties
pub mod CopiesProperties
mod IntegersProperties
mod UnificationExamples
