pub mod Integers
pub mod Faults
pub mod Worked
pub mod Laws
