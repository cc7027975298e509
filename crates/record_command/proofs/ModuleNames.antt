-- Names are text, and which module's name stands where.
use Rattle.std.proofs.Common.{◌≡◌, ◌∙◌, ap, subst, ℕ, zero, suc, ◌<◌, Bool, true, List, [], ◌∷◌, length, slice_index_or, sym, arith}
use Rattle.std.specs.Prelude.{IsTrue, IsUtf8}
use Rattle.std.specs.List.{list_all}
use Rattle.std.specs.Str.{IsAscii}
use Rattle.std.proofs.lemmas.Str.{IsUtf8-from_ascii}
use Rattle.std.proofs.lemmas.Bool.{and_parts}
use Rattle.std.proofs.lemmas.List.{get_or-map}
use Rattle.std.proofs.lemmas.Bool.Decides.{nat_tests}
use Rattle.schedule_text.specs.declared.process.ProcessLine.{ProcessLine}
use Rattle.schedule_text.specs.Schedule.{IsSchedule, Schedule, is_module_name, is_visible}
use Rattle.record_command.specs.Expected.{module_name}

all_small : (p : ℕ → Bool) → ((b : ℕ) → p b ≡ true → b < 128) → (bytes : List ℕ) → list_all p bytes ≡ true → IsAscii bytes
all_small p small [] h i = omega arith
all_small p small (b ∷ bytes) h zero = small b (and_parts _ _ h).0
all_small p small (b ∷ bytes) h (suc i) = all_small p small bytes (and_parts _ _ h).1 i

visible_small : (b : ℕ) → is_visible b ≡ true → b < 128
visible_small b h = grind (arith, nat_tests)

-- the file of a module is named by text
pub module_utf8 : (name : List ℕ) → IsTrue (is_module_name name) → IsUtf8 name
module_utf8 name h =
    IsUtf8-from_ascii name (all_small is_visible visible_small name
    (and_parts _ _ (and_parts _ _ (and_parts _ _ (and_parts _ _ h).0).0).0).1)

-- the module of process p has this name, which is text
pub named_by : (schedule : Schedule) (p : ℕ) (lines : List ProcessLine) (d : ProcessLine) (bytes file : List ℕ) → IsSchedule schedule → p < length schedule.processes → lines ≡ schedule.processes
    → bytes ≡ (slice_index_or lines p d).«module» → (IsUtf8 bytes → file ≡ bytes) → file ≡ module_name schedule p
named_by schedule p lines d bytes file valid below whole is spelled =
    let named : bytes ≡ (slice_index_or schedule.processes p d).«module» = is ∙ ap (λ (ls : List ProcessLine). (slice_index_or ls p d).«module») whole in
    let text : IsUtf8 bytes = subst IsUtf8 (sym named) (module_utf8 (slice_index_or schedule.processes p d).«module» (valid.formed.lines p d below).file) in
    spelled text ∙ named ∙ sym (get_or-map (λ (l : ProcessLine). l.«module») schedule.processes p d [] below)
