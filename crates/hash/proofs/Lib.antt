pub mod Arrays
pub mod Inverse
pub mod Parts
