pub mod WholeLines
pub mod PrintedSoFar
pub mod SessionBytes
pub mod InputPieces
pub mod WholeSessions
pub mod SessionEnds
