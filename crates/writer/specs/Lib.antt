pub mod Faults
pub mod Growing
pub mod Judging
pub mod Marks
pub mod Runs
pub mod States
pub mod Views
