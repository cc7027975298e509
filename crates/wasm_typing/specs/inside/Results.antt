-- What the functions give that type an instruction.
use Rattle.std.specs.Prelude.{◌≡◌, Option, Some, None, Result, Ok, Err}
use Rattle.wasm_types.specs.Stack.{BlockStack}
use Rattle.wasm_typing.specs.declared.refusal.TypingError.{TypingError}
use Rattle.wasm_typing.specs.declared.refusal.TypingError.TheVariants.{Invalid, OutOfMemory}
use Rattle.wasm_typing.specs.inside.Operands.{Blocks}

-- The step ends where the rule's does, and leaves the blocks around alone; it refuses where the rule has
-- no end.
abbrev pub FollowsTyping : Option BlockStack → Blocks → Blocks → Result (Unit {0}) TypingError → Type 0
FollowsTyping after old new (Ok _) = (after ≡ Some new.current) × (new.outer ≡ old.outer)
FollowsTyping after old new (Err Invalid) = after ≡ None
FollowsTyping after old new (Err OutOfMemory) = Unit {0}

-- the value that the rule has, or a refusal where it has none
abbrev pub FindsType : {A : Type 0} → Option A → Result A TypingError → Type 0
FindsType found (Ok x) = found ≡ Some x
FindsType found (Err Invalid) = found ≡ None
FindsType found (Err OutOfMemory) = Unit {0}
