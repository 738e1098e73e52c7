pub mod Faults
pub mod Lanes
pub mod Laws
pub mod Sha256
