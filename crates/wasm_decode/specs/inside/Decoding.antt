-- What the readers of the program give, in the words of the readers of the definitions.
use Rattle.std.specs.Prelude.{◌≡◌, ℕ, List, [], ◌∷◌, ◌++◌, Option, Some, None, Result, Ok, Err}
use Rattle.fri_bytes.specs.Reading.{CursorState}
use Rattle.wasm_types.specs.declared.code.Instr.{Instr}
use Rattle.wasm_types.specs.Code.{Tree, tree}
use Rattle.wasm_decode.specs.declared.error.DecodeError.{DecodeError}
use Rattle.wasm_decode.specs.declared.error.DecodeError.TheVariants as errors

-- Malformed comes where reading gives nothing, and NoMemory at any time.
abbrev pub IsErrorOf : {Y : Type 0} → DecodeError → Option Y → Type 0
IsErrorOf errors.Malformed read = read ≡ None
IsErrorOf errors.NoMemory read = Unit {0}

-- What a function returned, seen by `view`, and the bytes that it left are what reading gives.
abbrev pub DecodesTo : {X Y : Type 0} → (X → Y) → Result X DecodeError → CursorState → Option (Y × List ℕ) → Type 0
DecodesTo view (Ok x) new read = read ≡ Some (view x, new.left)
DecodesTo view (Err e) new read = IsErrorOf e read

-- the same for a function that reads all of its bytes
abbrev pub DecodesAll : {X Y : Type 0} → (X → Y) → Result X DecodeError → Option Y → Type 0
DecodesAll view (Ok x) read = read ≡ Some (view x)
DecodesAll view (Err e) read = IsErrorOf e read

-- the same for a function that passes over bytes
abbrev pub PassesOver : Result (Unit {0}) DecodeError → CursorState → Option (List ℕ) → Type 0
PassesOver (Ok x) new read = read ≡ Some new.left
PassesOver (Err e) new read = IsErrorOf e read

-- An instruction stands behind others, and is what reading gives with the bytes that are left.
abbrev pub DecodesOnto : List Instr → List Instr → Result (Unit {0}) DecodeError → CursorState → Option (Tree × List ℕ) → Type 0
DecodesOnto before after (Ok x) new read = (i : Instr) × (after ≡ before ++ i ∷ []) × (read ≡ Some (tree i, new.left))
DecodesOnto before after (Err e) new read = IsErrorOf e read

-- A given instruction stands behind others, or memory ran out.
abbrev pub Pushes : List Instr → List Instr → Instr → Result (Unit {0}) DecodeError → Type 0
Pushes before after i (Ok x) = after ≡ before ++ i ∷ []
Pushes before after i (Err e) = e ≡ errors.NoMemory
