pub mod Fieldings
pub mod Filling
pub mod Finding
pub mod Forms
pub mod Groups
pub mod Placing
