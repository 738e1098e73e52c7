pub mod Held
pub mod Fetching
pub mod Sizes
pub mod Verified
