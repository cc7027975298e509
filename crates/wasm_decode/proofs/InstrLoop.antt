-- Reading instructions one after the other, as a loop does, and the instructions that the program makes.
use Rattle.std.proofs.Common.{◌≡◌, ℕ, zero, suc, ◌-◌, ◌<◌, true, false, nat_eq, List, [], ◌∷◌, ◌++◌, length, Option, Some, None, Result, Ok, Err, refl, sym, ap, ◌∙◌, arith, length-append}
use Rattle.std.specs.Global.{Vec}
use Rattle.fri_bytes.specs.Laws.{ExactReaders}
use Rattle.fri_bytes.specs.Reading.{CursorState, byte_at}
use Rattle.wasm_types.specs.declared.code.ValType.{ValType}
use Rattle.wasm_types.specs.declared.code.Instr.{Instr}
use Rattle.wasm_types.specs.declared.code.Instr.TheVariants as instr
use Rattle.wasm_types.specs.Code.{Tree, Trees, Then, If, tree, trees, instructions_before}
use Rattle.wasm_types.specs.CodeLaws.{tree-block, tree-loop, tree-if, before-append}
use Rattle.wasm_decode.specs.declared.error.DecodeError.{DecodeError}
use Rattle.wasm_decode.specs.declared.error.DecodeError.TheVariants as errors
use Rattle.wasm_decode.specs.inside.Decoding.{IsErrorOf, DecodesOnto, Pushes}
use Rattle.wasm_decode.specs.Values.{Reader, ◌>>=◌, result_type_at}
use Rattle.wasm_decode.specs.Instrs.{EndedInstructions, whole_at, block_at, if_at, instr_at, is_end_opcode, sequence_at, levels_at}
use Rattle.wasm_decode.proofs.ReaderSteps.{byte_takes}
use Rattle.wasm_decode.proofs.InstrLemmas.{instr_takes, levels_read}

-- ---- instructions that the program makes

pub block_made : (inner : Reader EndedInstructions) (opcode : ℕ) (bytes between rest : List ℕ) (result : Option ValType) (body : Vec Instr) → opcode ≡ 0x02 → result_type_at bytes ≡ Some (result, between) → whole_at inner between ≡ Some (trees body.items, rest)
    → instr_at inner opcode bytes ≡ Some (tree (instr.Block result body), rest)
unfolding instr_at block_at
block_made inner opcode bytes between rest result body is type inside = rw (is, type, inside) (ap (λ (t : Tree). Some (t, rest)) (sym (tree-block result body)))

pub loop_made : (inner : Reader EndedInstructions) (opcode : ℕ) (bytes between rest : List ℕ) (result : Option ValType) (body : Vec Instr) → opcode ≡ 0x03 → result_type_at bytes ≡ Some (result, between) → whole_at inner between ≡ Some (trees body.items, rest)
    → instr_at inner opcode bytes ≡ Some (tree (instr.Loop result body), rest)
unfolding instr_at block_at
loop_made inner opcode bytes between rest result body is type inside = rw (is, type, inside) (ap (λ (t : Tree). Some (t, rest)) (sym (tree-loop result body)))

-- an `if` with one branch
pub if_made_one : (inner : Reader EndedInstructions) (opcode : ℕ) (bytes between rest : List ℕ) (result : Option ValType) (a b : Vec Instr) (last : ℕ) → opcode ≡ 0x04 → result_type_at bytes ≡ Some (result, between) → inner between ≡ Some ((trees a.items, last), rest) → last ≡ 0x0b → b.items ≡ []
    → instr_at inner opcode bytes ≡ Some (tree (instr.If result a b), rest)
unfolding instr_at if_at
if_made_one inner opcode bytes between rest result a b last is type inside ends nothing =
    rw (is, type, inside, ends) (ap (λ (t : Tree). Some (t, rest)) (ap (λ (v : List Instr). If result (trees a.items) (trees v)) (sym nothing) ∙ sym (tree-if result a b)))

-- an `if` with two branches
pub if_made_two : (inner : Reader EndedInstructions) (opcode : ℕ) (bytes between middle rest : List ℕ) (result : Option ValType) (a b : Vec Instr) (last : ℕ) → opcode ≡ 0x04 → result_type_at bytes ≡ Some (result, between) → inner between ≡ Some ((trees a.items, last), middle) → nat_eq last 0x0b ≡ false → whole_at inner middle ≡ Some (trees b.items, rest)
    → instr_at inner opcode bytes ≡ Some (tree (instr.If result a b), rest)
unfolding instr_at if_at
if_made_two inner opcode bytes between middle rest result a b last is type inside goes_on second =
    rw (is, type, inside, goes_on, second) (ap (λ (t : Tree). Some (t, rest)) (sym (tree-if result a b)))

-- what was made stands behind the instructions before
pub pushed : (before after : List Instr) (i : Instr) (result : Result (Unit {0}) DecodeError) (new : CursorState) (read : Option (Tree × List ℕ)) → Pushes before after i result → read ≡ Some (tree i, new.left) → DecodesOnto before after result new read
pushed before after i (Ok x) new read there made = (i, there, made)
pushed before after i (Err errors.NoMemory) new read none made = tt
pushed before after i (Err errors.Malformed) new read none made = absurd cc

-- ---- the loop

-- what was read before, and what is still read
abbrev pub with_front : List Instr → Option (EndedInstructions × List ℕ) → Option (EndedInstructions × List ℕ)
with_front front read = read >>= λ x. Some ((instructions_before front x.0.0, x.0.1), x.1)

front_nothing : (read : Option (EndedInstructions × List ℕ)) → with_front [] read ≡ read
front_nothing None = refl
front_nothing (Some x) = refl

pub starts : (levels : ℕ) (bytes : List ℕ) → (levels ≡ 0 → ⊥) → with_front [] (sequence_at (levels_at (levels - 1)) (length bytes - 0) bytes) ≡ levels_at levels bytes
unfolding levels_at
starts zero bytes some = absurd (some refl)
starts (suc less) bytes some =
    let one : suc less - 1 ≡ less = omega arith in
    let all : length bytes - 0 ≡ length bytes = omega arith in
    rw (one, all) (front_nothing (sequence_at (levels_at less) (length bytes) bytes))

pub no_levels : (levels : ℕ) (bytes : List ℕ) → levels ≡ 0 → levels_at levels bytes ≡ None
unfolding levels_at
no_levels levels bytes nothing = rw nothing refl

-- no byte is left
pub no_byte : (e : DecodeError) (n count : ℕ) (front : List Instr) (bytes : List ℕ) (total : Option (EndedInstructions × List ℕ)) → IsErrorOf e (byte_at bytes) → with_front front (sequence_at (levels_at n) count bytes) ≡ total → IsErrorOf e total
unfolding sequence_at
no_byte errors.NoMemory n count front bytes total none so_far = tt
no_byte errors.Malformed n zero front bytes total none so_far = sym so_far
no_byte errors.Malformed n (suc count) front bytes total none so_far =
    let nothing : with_front front (sequence_at (levels_at n) (suc count) bytes) ≡ None = rw none refl in
    sym so_far ∙ nothing

-- the byte that ends the instructions
pub ended : (n count : ℕ) (front : List Instr) (bytes : List ℕ) (b : ℕ) (rest : List ℕ) (total : Option (EndedInstructions × List ℕ)) → 0 < count → byte_at bytes ≡ Some (b, rest) → is_end_opcode b ≡ true → with_front front (sequence_at (levels_at n) count bytes) ≡ total → total ≡ Some ((trees front, b), rest)
unfolding sequence_at
ended n zero front bytes b rest total room byte ends so_far = absurd (omega arith)
ended n (suc count) front bytes b rest total room byte ends so_far =
    let one : with_front front (sequence_at (levels_at n) (suc count) bytes) ≡ Some ((trees front, b), rest) = rw (byte, ends) refl in
    sym so_far ∙ one

-- no instruction is there
pub no_instr : (e : DecodeError) (n count : ℕ) (front : List Instr) (bytes : List ℕ) (b : ℕ) (between : List ℕ) (total : Option (EndedInstructions × List ℕ)) → byte_at bytes ≡ Some (b, between) → is_end_opcode b ≡ false → IsErrorOf e (instr_at (levels_at n) b between) → with_front front (sequence_at (levels_at n) count bytes) ≡ total → IsErrorOf e total
unfolding sequence_at
no_instr errors.NoMemory n count front bytes b between total byte goes_on none so_far = tt
no_instr errors.Malformed n zero front bytes b between total byte goes_on none so_far = sym so_far
no_instr errors.Malformed n (suc count) front bytes b between total byte goes_on none so_far =
    let nothing : with_front front (sequence_at (levels_at n) (suc count) bytes) ≡ None = rw (byte, goes_on, none) refl in
    sym so_far ∙ nothing

-- one more instruction goes to those that were read before
regroup : (front : List Instr) (i : Instr) (read : Option (EndedInstructions × List ℕ)) → with_front front (read >>= λ others. Some ((Then (tree i) others.0.0, others.0.1), others.1)) ≡ with_front (front ++ i ∷ []) read
regroup front i None = refl
regroup front i (Some x) = ap (λ (ts : Trees). Some ((ts, x.0.1), x.1)) (sym (before-append front (i ∷ []) x.0.0))

pub more : (n count : ℕ) (front : List Instr) (bytes : List ℕ) (b : ℕ) (between : List ℕ) (i : Instr) (after : List ℕ) (total : Option (EndedInstructions × List ℕ)) → 0 < count → byte_at bytes ≡ Some (b, between) → is_end_opcode b ≡ false → instr_at (levels_at n) b between ≡ Some (tree i, after)
    → with_front front (sequence_at (levels_at n) count bytes) ≡ total → with_front (front ++ i ∷ []) (sequence_at (levels_at n) (count - 1) after) ≡ total
unfolding sequence_at
more n zero front bytes b between i after total room byte goes_on one so_far = absurd (omega arith)
more n (suc count) front bytes b between i after total room byte goes_on one so_far =
    let less : suc count - 1 ≡ count = omega arith in
    let step : with_front front (sequence_at (levels_at n) (suc count) bytes) ≡ with_front (front ++ i ∷ []) (sequence_at (levels_at n) count after) = rw (byte, goes_on, one) (regroup front i (sequence_at (levels_at n) count after)) in
    rw less (sym step ∙ so_far)

module _ (readers : ExactReaders) where
  -- an instruction takes a byte at least
  pub shorter : (n : ℕ) (bytes : List ℕ) (b : ℕ) (between : List ℕ) (t : Tree) (after : List ℕ) → byte_at bytes ≡ Some (b, between) → instr_at (levels_at n) b between ≡ Some (t, after) → length after < length bytes
  shorter n bytes b between t after byte one =
      let behind = instr_takes readers n (levels_read readers n) b between t after one in
      omega (arith, ap length (byte_takes bytes b between byte), ap length behind.1, length-append behind.0 after)
