pub mod Names
pub mod Order
pub mod Utf8
