-- The group of a schedule whose processes have begun.
use Rattle.std.proofs.Common.{◌≡◌, ℕ, zero, suc, ◌+◌, List, [], ◌∷◌, length, Option, Some, None, Result, Ok, Err, refl, ap, sym, subst, ◌∙◌, arith}
use Rattle.std.specs.Prelude.{All, IsTrue, slice_get}
use Rattle.std.proofs.lemmas.List.{length-map}
use Rattle.std.proofs.lemmas.List.Elements.{All-get_or, All-map, All-weaker}
use Rattle.std.proofs.lemmas.Option.{get_or_from_slice_get, slice_get_within}
use Rattle.fri_text.specs.Name.{is_name}
use Rattle.schedule_text.specs.declared.process.ProcessLine.{ProcessLine}
use Rattle.schedule_text.specs.Schedule.{IsInRange, IsProcess}
use Rattle.wasm_types.specs.Modules.{Module}
use Rattle.guest_module.specs.Valid.{IsValid}
use Rattle.guest_process.specs.Start.{start}
use Rattle.guest_process.specs.State.{State}
use Rattle.group_record.specs.Run.{processes_in_group}
use Rattle.group_record.specs.Answer.{first_states_from, group_of, with_first_state}
use Rattle.group_record.specs.Laws.{Beginning, IsBegun}

-- the module with which a process began
record BeganOf (count p : ℕ) (ms : List Module) (place : ℕ) (S : State) : Type 0 where
  «module» : Module
  found : slice_get ms place ≡ Some «module»
  starts : start «module» (p + place) count ≡ Some S

-- from process p on, a state for each module
record Begun (count p : ℕ) (ms : List Module) (first : List State) : Type 0 where
  many : length first ≡ length ms
  each : (place : ℕ) (S : State) → slice_get first place ≡ Some S → BeganOf count p ms place S

none_begun : (count p : ℕ) → Begun count p [] []
none_begun count p = record { many = refl; each = λ place S at. cc }

more_begun : (count p : ℕ) (m : Module) (ms : List Module) (S : State) (states : List State) → start m p count ≡ Some S → Begun count (suc p) ms states → Begun count p (m ∷ ms) (S ∷ states)
more_begun count p m ms S states starts rest = record { many = ap suc rest.many; each = each } where
  each : (place : ℕ) (T : State) → slice_get (S ∷ states) place ≡ Some T → BeganOf count p (m ∷ ms) place T
  each zero T at = record { «module» = m; found = refl; starts = ap (λ (n : ℕ). start m n count) (omega arith) ∙ (starts ∙ at) }
  each (suc place) T at =
      let from = rest.each place T at in
      record { «module» = from.«module»; found = from.found; starts = ap (λ (n : ℕ). start from.«module» n count) (omega arith) ∙ from.starts }

-- apart from how a module starts, over which `cc` would look for long
not_begun : {P : Type 0} (made : Result (List State) ℕ) (p : ℕ) (first : List State) → made ≡ Err p → made ≡ Ok first → P
not_begun made p first fails is = cc

same_begun : (made : Result (List State) ℕ) (states first : List State) → made ≡ Ok states → made ≡ Ok first → states ≡ first
same_begun made states first begins is = cc

each_begun : (count p : ℕ) (ms : List Module) (first : List State) → first_states_from count p ms ≡ Ok first → Begun count p ms first
each_begun count p [] first is =
    let same : [] ≡ first = cc in
    subst (λ (states : List State). Begun count p [] states) same (none_begun count p)
each_begun count p (m ∷ ms) first is = by_start (start m p count) refl (first_states_from count (suc p) ms) refl (λ states rest_is. each_begun count (suc p) ms states rest_is) is where
  by_start : (o : Option State) → start m p count ≡ o → (rest : Result (List State) ℕ) → first_states_from count (suc p) ms ≡ rest
      → ((states : List State) → first_states_from count (suc p) ms ≡ Ok states → Begun count (suc p) ms states) → with_first_state o p rest ≡ Ok first → Begun count p (m ∷ ms) first
  by_start None starts rest rest_is more comes = not_begun _ p first refl comes
  by_start (Some S) starts (Err q) rest_is more comes = not_begun _ q first refl comes
  by_start (Some S) starts (Ok states) rest_is more comes =
      subst (λ (states : List State). Begun count p (m ∷ ms) states) (same_begun _ (S ∷ states) first refl comes) (more_begun count p m ms S states starts (more states rest_is))

valid_at : (ms : List Module) (place : ℕ) (m : Module) → slice_get ms place ≡ Some m → All IsValid ms → IsValid m
valid_at ms place m found all = subst IsValid (get_or_from_slice_get ms place m m found) (All-get_or IsValid ms place m (slice_get_within ms place m found) all)

pub begins : Beginning
begins schedule modules first formed one_each valid is =
    let sized : processes_in_group (group_of schedule first) ≡ length schedule.processes = length-map schedule.processes (λ (line : ProcessLine). line.name) in
    let all : Begun (length schedule.processes) 0 modules first = each_begun (length schedule.processes) 0 modules first is in
    let begun : IsBegun (group_of schedule first) = record {
      some = omega (arith, sized, formed.some);
      few = omega (arith, sized, formed.most);
      first = all.many ∙ one_each ∙ sym sized;
      names = All-map (λ name. IsTrue (is_name name)) (λ (line : ProcessLine). line.name) schedule.processes
          (All-weaker IsProcess (λ line. IsTrue (is_name line.name)) (λ line h. h.name) schedule.processes formed.lines);
      starts = λ p S at.
          let from = all.each p S at in (
            from.«module»,
            valid_at modules p from.«module» from.found valid,
            ap (λ (n : ℕ). start from.«module» p n) sized ∙ (ap (λ (n : ℕ). start from.«module» n (length schedule.processes)) (omega arith) ∙ from.starts),
          );
    } in
    (begun, subst (λ (n : ℕ). All (IsInRange n) schedule.items) (sym sized) formed.items)
