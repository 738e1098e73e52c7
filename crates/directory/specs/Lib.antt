pub mod Canonical
pub mod Directories
pub mod Items
pub mod Regions
pub mod Sections
pub mod Steps
