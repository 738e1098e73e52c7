pub mod Absorbing
pub mod Endings
pub mod Laws
pub mod Rounds
pub mod Rows
