pub mod Written
pub mod Grammar
pub mod Machine
pub mod Laws
pub mod Sentences
pub mod Faults
pub mod Theorem
pub mod Places
