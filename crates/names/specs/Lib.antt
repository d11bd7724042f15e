pub mod Table
pub mod Listed
pub mod Interned
pub mod View
pub mod Faults
