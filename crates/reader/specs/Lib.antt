pub mod Faults
pub mod Ops
pub mod Reading
pub mod Along
pub mod Sentence
pub mod Parts
pub mod Cursors
