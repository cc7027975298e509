pub mod Clashes
pub mod FoundFiles
pub mod CommandEnds
pub mod ModuleFaults
pub mod KeptModules
pub mod MadeFiles
pub mod ReadModules
