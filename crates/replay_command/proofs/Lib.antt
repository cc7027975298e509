pub mod ReplayImages
pub mod ReplayOutcome
