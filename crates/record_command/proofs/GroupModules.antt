-- The modules of a group, in the order of its processes, and how the processes begin with them.
use Rattle.std.proofs.Common.{◌≡◌, ◌⊎◌, ◌<◌, ◌+◌, ℕ, zero, suc, List, [], ◌∷◌, ◌++◌, length, drop, Option, Some, None, Result, Ok, Err, refl, sym, ap, subst, ◌∙◌, inl, inr, arith, append_assoc, append-nil, map}
use Rattle.std.specs.Prelude.{All}
use Rattle.std.proofs.lemmas.List.{length-append}
use Rattle.fri_outside.specs.Outside.{Folder, WhenTold}
use Rattle.wasm_types.specs.Modules.{Module}
use Rattle.guest_module.specs.Valid.{IsValid}
use Rattle.guest_process.specs.Start.{start}
use Rattle.guest_process.specs.State.{State}
use Rattle.schedule_text.specs.declared.process.ProcessLine.{ProcessLine}
use Rattle.group_record.specs.Answer.{first_states_from, with_first_state}
use Rattle.command_run.specs.declared.refusal.StopCause.{StopCause}
use Rattle.command_run.specs.Call.{StopsAsCause}
use Rattle.record_command.specs.Expected.{modules_of}
use Rattle.command_run.specs.declared.kept.ModuleFiles.{ModuleFiles}
use Rattle.command_run.specs.Asked.{first_named, kept_names, unless_named}
use Rattle.command_run.specs.Inputs.{module_in}
use Rattle.command_run.specs.Laws.{ReadsModules}
use Rattle.command_run.specs.Outcome.{CommandStop, and_then}
use Rattle.command_run.specs.OutcomeLaws.{result_follows, stops_before_next, ok_value_or}

-- ---- all modules

-- a module for each process, and each is valid
pub record AreModules (lines : List ProcessLine) (ms : List Module) : Type 0 where
  pub count : length ms ≡ length lines
  pub valid : All IsValid ms

valid_too : (m : Module) (ms : List Module) → IsValid m → All IsValid ms → All IsValid (m ∷ ms)
valid_too m ms valid rest zero d below = valid
valid_too m ms valid rest (suc k) d below = rest k d (omega (arith, below))

no_module : All IsValid []
no_module k d below = absurd (omega (arith, below))

pub modules_valid : ReadsModules → (folder : Folder) (lines : List ProcessLine) (ms : List Module) → modules_of folder lines ≡ Ok ms → AreModules lines ms
modules_valid reads folder [] ms is = subst (AreModules []) (ap (ok_value_or []) is) (record { count = refl; valid = no_module })
modules_valid reads folder (line ∷ lines) ms is =
    let first = result_follows (module_in folder line.«module») _ ms is in
    let rest = result_follows (modules_of folder lines) _ ms first.comes in
    let known = modules_valid reads folder lines rest.given rest.is_given in
    subst (AreModules (line ∷ lines)) (ap (ok_value_or []) rest.comes) (record {
      count = ap suc known.count;
      valid = valid_too first.given rest.given (reads.valid folder line.«module» first.given first.is_given) known.valid;
    })

-- ---- how they begin

abbrev number_or : {A : Type 0} → ℕ → Result A ℕ → ℕ
number_or default (Ok value) = default
number_or default (Err p) = p

fails_with : (o : Option State) (q p : ℕ) (rest : Result (List State) ℕ) → with_first_state o q rest ≡ Err p → (q ≡ p) ⊎ (rest ≡ Err p)
fails_with None q p rest is = inl (ap (number_or q) is)
fails_with (Some S) q p (Ok states) is = cc
fails_with (Some S) q p (Err r) is = inr (ap (λ (n : ℕ). Err n) (ap (number_or r) is))

-- the process that does not begin is one of these
pub fails_within : (count q p : ℕ) (ms : List Module) → first_states_from count q ms ≡ Err p → p < q + length ms
fails_within count q p [] is = cc
fails_within count q p (m ∷ ms) is = within (fails_within count (suc q) p ms) (fails_with (start m q count) q p (first_states_from count (suc q) ms) is) where
  within : (first_states_from count (suc q) ms ≡ Err p → p < suc q + length ms) → (q ≡ p) ⊎ (first_states_from count (suc q) ms ≡ Err p) → p < q + length (m ∷ ms)
  within rest (inl same) = omega (arith, same)
  within rest (inr later) = omega (arith, rest later)

-- ---- the modules so far, and those that are still to come

abbrev pub prefixed : List Module → Result (List Module) CommandStop → Result (List Module) CommandStop
prefixed ms rest = and_then rest (λ later. Ok (ms ++ later))

pub none_before : (rest : Result (List Module) CommandStop) → rest ≡ prefixed [] rest
none_before (Ok later) = refl
none_before (Err stop) = refl

with_one : (ms : List Module) (m : Module) (rest : Result (List Module) CommandStop) → prefixed ms (and_then rest (λ later. Ok (m ∷ later))) ≡ prefixed (ms ++ m ∷ []) rest
with_one ms m (Ok later) = ap (λ (all : List Module). Ok all) (sym (append_assoc ms (m ∷ []) later))
with_one ms m (Err stop) = refl

-- one module more
pub one_further : (folder : Folder) (ms : List Module) (line : ProcessLine) (lines : List ProcessLine) (m : Module) → module_in folder line.«module» ≡ Ok m
    → prefixed ms (modules_of folder (line ∷ lines)) ≡ prefixed (ms ++ m ∷ []) (modules_of folder lines)
one_further folder ms line lines m is =
    ap (λ (r : Result Module CommandStop). prefixed ms (and_then r (λ m. and_then (modules_of folder lines) (λ later. Ok (m ∷ later))))) is
    ∙ with_one ms m (modules_of folder lines)

-- a module at which there is a stop
pub one_stops : (folder : Folder) (ms : List Module) (line : ProcessLine) (lines : List ProcessLine) (e : StopCause) → StopsAsCause (module_in folder line.«module») e → StopsAsCause (prefixed ms (modules_of folder (line ∷ lines))) e
one_stops folder ms line lines e stops = stops_before_next (modules_of folder (line ∷ lines)) _ e (stops_before_next (module_in folder line.«module») _ e stops)

-- so many of the modules were taken
pub record AreTaken (told : Option Folder) (lines : List ProcessLine) (index : ℕ) (ms : List Module) : Type 0 where
  pub count : length ms ≡ index
  pub so_far : WhenTold told (λ folder. modules_of folder lines ≡ prefixed ms (modules_of folder (drop index lines)))

pub none_taken : (told : Option Folder) (lines : List ProcessLine) → AreTaken told lines 0 []
none_taken told lines = record { count = refl; so_far = λ folder is. none_before (modules_of folder lines) }

pub one_taken : (told : Option Folder) (lines : List ProcessLine) (index : ℕ) (ms : List Module) (line : ProcessLine) (m : Module) → AreTaken told lines index ms → drop index lines ≡ line ∷ drop (index + 1) lines
    → WhenTold told (λ folder. module_in folder line.«module» ≡ Ok m) → AreTaken told lines (index + 1) (ms ++ m ∷ [])
one_taken told lines index ms line m taken next found = record {
  count = length-append ms (m ∷ []) ∙ ap (λ (n : ℕ). n + 1) taken.count;
  so_far = λ folder is.
      taken.so_far folder is ∙ ap (λ (rest : List ProcessLine). prefixed ms (modules_of folder rest)) next
      ∙ one_further folder ms line (drop (index + 1) lines) m (found folder is);
}

pub taking_stops : (told : Option Folder) (lines : List ProcessLine) (index : ℕ) (ms : List Module) (line : ProcessLine) (e : StopCause) → AreTaken told lines index ms → drop index lines ≡ line ∷ drop (index + 1) lines
    → WhenTold told (λ folder. StopsAsCause (module_in folder line.«module») e) → WhenTold told (λ folder. StopsAsCause (modules_of folder lines) e)
taking_stops told lines index ms line e taken next stops folder is =
    subst (λ (r : Result (List Module) CommandStop). StopsAsCause r e) (sym (taken.so_far folder is ∙ ap (λ (rest : List ProcessLine). prefixed ms (modules_of folder rest)) next))
    (one_stops folder ms line (drop (index + 1) lines) e (stops folder is))

pub all_taken : (told : Option Folder) (lines : List ProcessLine) (index : ℕ) (ms : List Module) → AreTaken told lines index ms → drop index lines ≡ [] → WhenTold told (λ folder. modules_of folder lines ≡ Ok ms)
all_taken told lines index ms taken none folder is =
    taken.so_far folder is ∙ ap (λ (rest : List ProcessLine). prefixed ms (modules_of folder rest)) none ∙ ap (λ (all : List Module). Ok all) (append-nil ms)

-- the file of a process is asked for, unless it was before, and then those of the processes behind it
pub asking_module : (old new : ModuleFiles) (lines : List ProcessLine) (i : ℕ) (line : ProcessLine) → drop i lines ≡ line ∷ drop (i + 1) lines → kept_names new ≡ kept_names old ++ unless_named (kept_names old) line.«module»
    → first_named (kept_names old) (map (λ (line : ProcessLine). line.«module») (drop i lines)) ≡ unless_named (kept_names old) line.«module» ++ first_named (kept_names new) (map (λ (line : ProcessLine). line.«module») (drop (i + 1) lines))
asking_module old new lines i line next named =
    ap (λ (rest : List ProcessLine). first_named (kept_names old) (map (λ (line : ProcessLine). line.«module») rest)) next
    ∙ ap (λ (kept : List (List ℕ)). unless_named (kept_names old) line.«module» ++ first_named kept (map (λ (line : ProcessLine). line.«module») (drop (i + 1) lines))) (sym named)
