-- The processes of a group as they begin, one after the other.
use Rattle.std.proofs.Common.{◌≡◌, ℕ, zero, suc, ◌+◌, ◌<◌, ◌≤◌, ◌++◌, List, [], ◌∷◌, length, map, drop, drop-cons, slice_get, slice_index_or, Some, None, refl, ap, sym, subst, ◌∙◌, append_assoc, append-nil, length-append, arith, add-one}
use Rattle.std.specs.Prelude.{Result, Ok, Err}
use Rattle.std.proofs.lemmas.List.{drop_all}
use Rattle.std.proofs.lemmas.Option.{same_Some}
use Rattle.schedule_text.specs.declared.process.ProcessLine.{ProcessLine}
use Rattle.wasm_types.specs.Modules.{Module}
use Rattle.guest_process.specs.Start.{start}
use Rattle.guest_process.specs.State.{State}
use Rattle.group_record.specs.declared.member.Member.{Member}
use Rattle.group_record.specs.Answer.{first_states_from, with_first_state}
use Rattle.group_record.specs.declared.error.RecordError.{RecordError}
use Rattle.group_record.specs.declared.error.RecordError.TheVariants as errors
use Rattle.group_record.specs.inside.Begun.{AreStarted, BeginsAll}
use Rattle.group_record.specs.inside.Members.{IsFreshMember, StartsMember}

-- these states and then what comes after them
abbrev pub ahead : List State → Result (List State) ℕ → Result (List State) ℕ
ahead first (Ok states) = Ok (first ++ states)
ahead first (Err p) = Err p

ahead_one : (first : List State) (S : State) (p : ℕ) (rest : Result (List State) ℕ) → ahead first (with_first_state (Some S) p rest) ≡ ahead (first ++ S ∷ []) rest
ahead_one first S p (Ok states) = ap Ok (sym (append_assoc first (S ∷ []) states))
ahead_one first S p (Err q) = refl

ahead_none : (rest : Result (List State) ℕ) → ahead [] rest ≡ rest
ahead_none (Ok states) = refl
ahead_none (Err p) = refl

-- the first members have begun
pub record HaveStarted (names : List (List ℕ)) (modules : List Module) (p : ℕ) (members : List Member) : Type 0 where
  pub first : List State
  pub many : length members ≡ p
  pub states : length first ≡ p
  pub rest : first_states_from (length names) 0 modules ≡ ahead first (first_states_from (length names) p (drop p modules))
  pub each : (q : ℕ) (m : Member) → slice_get members q ≡ Some m
      → (state : State) × (slice_get first q ≡ Some state) × IsFreshMember state (slice_index_or names q []) q (length names) m

pub none_started : (names : List (List ℕ)) (modules : List Module) → HaveStarted names modules 0 []
none_started names modules = record {
  first = [];
  many = refl;
  states = refl;
  rest = sym (ahead_none (first_states_from (length names) 0 modules));
  each = λ q m at. cc;
}

pushed : (P : ℕ → Member → State → Type 0) (members : List Member) (first : List State) (m : Member) (S : State) → length members ≡ length first
    → ((q : ℕ) (n : Member) → slice_get members q ≡ Some n → (T : State) × (slice_get first q ≡ Some T) × P q n T) → P (length members) m S
    → (q : ℕ) (n : Member) → slice_get (members ++ m ∷ []) q ≡ Some n → (T : State) × (slice_get (first ++ S ∷ []) q ≡ Some T) × P q n T
pushed P [] [] m S same old own zero n at = (S, refl, subst (λ n. P 0 n S) (same_Some _ _ at) own)
pushed P [] [] m S same old own (suc q) n at = cc
pushed P [] (T ∷ first) m S same old own q n at = absurd (omega (arith, same))
pushed P (x ∷ members) [] m S same old own q n at = absurd (omega (arith, same))
pushed P (x ∷ members) (T ∷ first) m S same old own zero n at = old zero n at
pushed P (x ∷ members) (T ∷ first) m S same old own (suc q) n at =
    pushed (λ q. P (suc q)) members first m S (omega (arith, same)) (λ q n at. old (suc q) n at) own q n at

next_begun : (count p : ℕ) (modules : List Module) (d : Module) → p < length modules
    → first_states_from count p (drop p modules) ≡ with_first_state (start (slice_index_or modules p d) p count) p (first_states_from count (p + 1) (drop (p + 1) modules))
next_begun count p modules d inside =
    ap (first_states_from count p) (drop-cons modules p d inside)
    ∙ ap (λ n. with_first_state (start (slice_index_or modules p d) p count) p (first_states_from count n (drop n modules))) (sym (add-one p))

-- one more has begun
pub one_started : (names : List (List ℕ)) (modules : List Module) (p : ℕ) (members : List Member) (m : Member) (here : Module) (name : List ℕ) (S : State) → HaveStarted names modules p members → p < length modules
    → here ≡ slice_index_or modules p here → name ≡ slice_index_or names p [] → start here p (length names) ≡ Some S → IsFreshMember S name p (length names) m → HaveStarted names modules (p + 1) (members ++ m ∷ [])
one_started names modules p members m here name S h inside at named begins is = record {
  first = h.first ++ S ∷ [];
  many = length-append members (m ∷ []) ∙ ap (λ n. n + 1) h.many;
  states = length-append h.first (S ∷ []) ∙ ap (λ n. n + 1) h.states;
  rest = h.rest ∙ ap (ahead h.first)
      (next_begun (length names) p modules here inside
      ∙ ap (λ o. with_first_state o p (first_states_from (length names) (p + 1) (drop (p + 1) modules))) (ap (λ x. start x p (length names)) (sym at) ∙ begins))
      ∙ ahead_one h.first S p (first_states_from (length names) (p + 1) (drop (p + 1) modules));
  each = pushed (λ q n T. IsFreshMember T (slice_index_or names q []) q (length names) n) members h.first m S (h.many ∙ sym h.states) h.each
      (subst (λ n. IsFreshMember S (slice_index_or names n []) n (length names) m) (sym h.many) (subst (λ name. IsFreshMember S name p (length names) m) named is));
}

-- one has not
pub one_bad : (names : List (List ℕ)) (modules : List Module) (p : ℕ) (members : List Member) (here : Module) → HaveStarted names modules p members → p < length modules
    → here ≡ slice_index_or modules p here → start here p (length names) ≡ None → first_states_from (length names) 0 modules ≡ Err p
one_bad names modules p members here h inside at bad =
    h.rest ∙ ap (ahead h.first)
    (next_begun (length names) p modules here inside
    ∙ ap (λ o. with_first_state o p (first_states_from (length names) (p + 1) (drop (p + 1) modules))) (ap (λ x. start x p (length names)) (sym at) ∙ bad))

-- all have begun
pub all_started : (names : List (List ℕ)) (modules : List Module) (p : ℕ) (members : List Member) → HaveStarted names modules p members → length modules ≤ p → length names ≡ p
    → (first : List State) × (first_states_from (length names) 0 modules ≡ Ok first) × AreStarted names first members
all_started names modules p members h past all = (
  h.first,
  h.rest ∙ ap (λ ms. ahead h.first (first_states_from (length names) p ms)) (drop_all p modules past) ∙ ap Ok (append-nil h.first),
  record { count = h.many ∙ sym all; states = h.states ∙ sym all; each = h.each },
)

-- ---- as the code reaches it

pub next_started : (names : List (List ℕ)) (modules : List Module) (p count : ℕ) (members : List Member) (m : Member) (here : Module) (name : List ℕ) → count ≡ length names → HaveStarted names modules p members → p < length modules
    → here ≡ slice_index_or modules p here → name ≡ slice_index_or names p [] → StartsMember (start here p count) name p count (Ok m) → HaveStarted names modules (p + 1) (members ++ m ∷ [])
next_started names modules p count members m here name all h inside at named starts =
    let s : StartsMember (start here p (length names)) name p (length names) (Ok m) = subst (λ n. StartsMember (start here p n) name p n (Ok m)) all starts in
    one_started names modules p members m here name s.0 h inside at named s.1 s.2

pub member_fails : {T : Type 0} (items : T → List Member) (names : List (List ℕ)) (modules : List Module) (p count : ℕ) (members : List Member) (here : Module) (name : List ℕ) (error : RecordError) → count ≡ length names → HaveStarted names modules p members → p < length modules
    → here ≡ slice_index_or modules p here → StartsMember (start here p count) name p count (Err error) → BeginsAll items names (first_states_from count 0 modules) (Err error)
member_fails items names modules p count members here name (errors.BadSegment q) all h inside at starts =
    subst (λ n. first_states_from n 0 modules ≡ Err q) (sym all) (one_bad names modules p members here h inside at (subst (λ n. start here p n ≡ None) all starts.1) ∙ ap Err (sym starts.0))
member_fails items names modules p count members here name (errors.LogFull q) all h inside at starts = starts
member_fails items names modules p count members here name errors.WriteFault all h inside at starts = starts
member_fails items names modules p count members here name errors.NoMemory all h inside at starts = tt

pub all_begun : (names : List (List ℕ)) (modules : List Module) (p count : ℕ) (members : List Member) → count ≡ length names → HaveStarted names modules p members → length modules ≤ p → length names ≡ p
    → (first : List State) × (first_states_from count 0 modules ≡ Ok first) × AreStarted names first members
all_begun names modules p count members same h past all =
    let x = all_started names modules p members h past all in
    (x.0, ap (λ n. first_states_from n 0 modules) same ∙ x.1, x.2)

-- the names of lines
pub name_at : (lines : List ProcessLine) (i : ℕ) (line : ProcessLine) (d : List ℕ) → slice_get lines i ≡ Some line → slice_index_or (map (λ line. line.name) lines) i d ≡ line.name
name_at [] i line d at = cc
name_at (x ∷ lines) zero line d at = ap (λ (line : ProcessLine). line.name) (same_Some _ _ at)
name_at (x ∷ lines) (suc i) line d at = name_at lines i line d at
