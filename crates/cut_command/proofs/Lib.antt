pub mod KeptLengths
pub mod MadeFiles
pub mod CutOutcome
