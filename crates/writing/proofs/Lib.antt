pub mod WholeTokens
pub mod WrittenTokens
pub mod BehindTerms
pub mod ReadBackProperties
pub mod Spelling
pub mod QuotingProperties
mod WritingExamples
