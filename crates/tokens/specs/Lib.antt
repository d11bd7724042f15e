pub mod Bytes
pub mod Token
pub mod Scanning
pub mod Faults
