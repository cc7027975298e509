pub mod MemoryRanges
pub mod AnswerRoom
pub mod ComparedRanges
