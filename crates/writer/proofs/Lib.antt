pub mod Adding
pub mod Growth
pub mod OneMore
pub mod Rounds
pub mod Saying
pub mod Stepping
