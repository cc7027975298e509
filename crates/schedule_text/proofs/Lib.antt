pub mod DrillLemmas
pub mod FieldLemmas
pub mod ItemLemmas
pub mod LineLemmas
pub mod OutcomeLemmas
pub mod StepLemmas
pub mod TextLemmas
pub mod WordLemmas
