pub mod RangeProperties
pub mod RemainderProperties
pub mod LawsProperties
pub mod IntegersExamples
