pub mod SilentLines
pub mod Commands
pub mod TokenForms
pub mod OuterBlanks
pub mod CommandParts
pub mod ProgramFaults
pub mod ViableTokens
pub mod WatchForms
