-- The codes by which the values of a state are told apart, for crates whose types have a process in them.
pub use Rattle.coop_threads.specs.Crew.{crew_code}
pub use Rattle.wasm_types.specs.Coding.{trees_code}
