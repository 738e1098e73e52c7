pub mod Digests
pub mod Endings
pub mod Kinds
pub mod Names
pub mod Nodes
pub mod Values
pub mod Laws
