pub mod Digests
pub mod Faults
