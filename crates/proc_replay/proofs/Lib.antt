pub mod JudgeTests
pub mod NextEntry
pub mod OneTurn
pub mod TurnAfterTurn
pub mod AcceptedSizes
