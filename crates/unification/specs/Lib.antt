pub mod Substitution
pub mod Unifying
pub mod Under
pub mod Chain
pub mod Copies
pub mod Theorem
