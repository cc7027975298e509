-- What a check says of the rule that it tests.
use Rattle.std.specs.Prelude.{Result, Ok, Err}
use Rattle.wasm_typing.specs.declared.refusal.TypingError.{TypingError}
use Rattle.wasm_typing.specs.declared.refusal.TypingError.TheVariants.{Invalid, OutOfMemory}

-- it accepts only where the rule holds, and refuses only where it does not
abbrev pub JudgesCode : Type 0 → Result (Unit {0}) TypingError → Type 0
JudgesCode Rule (Ok _) = Rule
JudgesCode Rule (Err Invalid) = ¬ Rule
JudgesCode Rule (Err OutOfMemory) = Unit {0}
