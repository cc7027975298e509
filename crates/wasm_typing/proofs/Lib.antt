pub mod Heights
pub mod LocalRuns
pub mod TreeStacks
pub mod UnknownOperands
