pub mod LittleEndian
pub mod TagLemmas
pub mod CutLemmas
pub mod BackLemmas
