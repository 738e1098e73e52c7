pub mod Composing
pub mod Digesting
pub mod Judging
pub mod Lasts
pub mod Nesting
pub mod Parts
