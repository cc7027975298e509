-- A log that goes with the pairs before it is of their group, of another process and of another name.
use Rattle.std.proofs.Common.{◌≡◌, ◌≢◌, ◌⊎◌, ◌∙◌, inl, inr, ℕ, Bool, true, false, not, cond, eqb, nat_eq, ◌||◌, List, [], ◌∷◌, ◌++◌, Option, Some, None, ap, refl, sym}
use Rattle.std.specs.Prelude.{bytes_eq}
use Rattle.std.specs.List.{AllByRecursion, list_any}
use Rattle.std.proofs.lemmas.Bool.{eqb-false, false≢true}
use Rattle.std.proofs.lemmas.Bool.Decides.{eqb_tells}
use Rattle.std.proofs.lemmas.Slice.Eq.{bytes_eq-Decides}
use Rattle.call_log.specs.Head.{Head}
use Rattle.call_log.specs.Log.{Log}
use Rattle.log_pairs.specs.declared.pairs.Loaded.{Loaded as LoadedFiles}
use Rattle.command_run.specs.declared.refusal.Reason.{Reason}
use Rattle.command_run.specs.declared.refusal.Reason.TheVariants as reason
use Rattle.log_pairs.specs.Pairs.{Loaded, clash_of_logs, has_name, has_process, is_other_group}
use Rattle.log_pairs.specs.Meanings.{AreLoadedPairs, AreOneGroup, IsApartPair, IsLoadedPair}

-- ---- all of a list

pub all_so : {X : Type 0} (P Q : X → Type 0) (xs : List X) → ((x : X) → P x → Q x) → AllByRecursion P xs → AllByRecursion Q xs
all_so P Q [] so all = tt
all_so P Q (x ∷ xs) so all = (so x all.0, all_so P Q xs so all.1)

all_push : {X : Type 0} (P : X → Type 0) (xs : List X) (x : X) → AllByRecursion P xs → P x → AllByRecursion P (xs ++ x ∷ [])
all_push P [] x all one = (one, tt)
all_push P (y ∷ xs) x all one = (all.0, all_push P xs x all.1 one)

-- ---- the same tests of what was read and of what it holds

pub count_is : (x : LoadedFiles) (l : Loaded) → IsLoadedPair x l → x.log.head.count ≡ l.head.count
count_is x l one = ap (λ (log : Log). log.head.count) one.log

pub process_is : (x : LoadedFiles) (l : Loaded) → IsLoadedPair x l → x.log.head.process ≡ l.head.process
process_is x l one = ap (λ (log : Log). log.head.process) one.log

name_is : (x : LoadedFiles) (l : Loaded) → IsLoadedPair x l → x.log.head.name ≡ l.head.name
name_is x l one = ap (λ (log : Log). log.head.name) one.log

pub processes_are : (xs : List LoadedFiles) (ls : List Loaded) (process : ℕ) → AreLoadedPairs xs ls → list_any (λ x. nat_eq x.log.head.process process) xs ≡ has_process ls process
processes_are [] [] process all = refl
processes_are (x ∷ xs) (l ∷ ls) process all =
    ap (λ (p : ℕ). nat_eq p process || list_any (λ x. nat_eq x.log.head.process process) xs) (process_is x l all.0)
    ∙ ap (λ (b : Bool). nat_eq l.head.process process || b) (processes_are xs ls process all.1)
processes_are [] (l ∷ ls) process all = absurd all
processes_are (x ∷ xs) [] process all = absurd all

pub names_are : (xs : List LoadedFiles) (ls : List Loaded) (name : List ℕ) → AreLoadedPairs xs ls → list_any (λ x. bytes_eq x.log.head.name name) xs ≡ has_name ls name
names_are [] [] name all = refl
names_are (x ∷ xs) (l ∷ ls) name all =
    ap (λ (n : List ℕ). bytes_eq n name || list_any (λ x. bytes_eq x.log.head.name name) xs) (name_is x l all.0)
    ∙ ap (λ (b : Bool). bytes_eq l.head.name name || b) (names_are xs ls name all.1)
names_are [] (l ∷ ls) name all = absurd all
names_are (x ∷ xs) [] name all = absurd all

-- ---- no clash

-- a head passes each test
record Passes (ls : List Loaded) (head : Head) : Type 0 where
  group : is_other_group ls head.count ≡ false
  process : has_process ls head.process ≡ false
  name : has_name ls head.name ≡ false

abbrev pub first_reason : Bool → Bool → Bool → Option Reason
first_reason a b c = cond a (Some reason.OtherGroup) (cond b (Some reason.SameProcess) (cond c (Some reason.SameName) None))

no_reason : (a b c : Bool) → first_reason a b c ≡ None → (a ≡ false) × (b ≡ false) × (c ≡ false)
no_reason true b c none = cc
no_reason false true c none = cc
no_reason false false true none = cc
no_reason false false false none = (refl, refl, refl)

passes : (ls : List Loaded) (head : Head) → clash_of_logs ls head ≡ None → Passes ls head
passes ls head none =
    let h = no_reason (is_other_group ls head.count) (has_process ls head.process) (has_name ls head.name) none in
    record { group = h.0; process = h.1; name = h.2 }

not_first : (a b : Bool) → (a || b) ≡ false → (a ≡ false) × (b ≡ false)
not_first true b none = cc
not_first false b none = (refl, none)

not_equal : (a b : ℕ) → not (eqb a b) ≡ false → a ≡ b
not_equal a b none = tells (eqb_tells a b) where
  tells : ((eqb a b ≡ true) × (a ≡ b)) ⊎ ((eqb a b ≡ false) × (a ≢ b)) → a ≡ b
  tells (inl h) = h.1
  tells (inr h) = absurd (false≢true (sym none ∙ ap not h.0))

other_name : (a b : List ℕ) → bytes_eq a b ≡ false → a ≢ b
other_name a b none same = false≢true (sym none ∙ (bytes_eq-Decides a b).1 same)

-- all are of as many processes as a further one
counts_same : (xs : List LoadedFiles) (ls : List Loaded) (x : LoadedFiles) (l : Loaded) → AreLoadedPairs xs ls → IsLoadedPair x l → AreOneGroup xs → is_other_group ls l.head.count ≡ false → AllByRecursion (λ y. y.log.head.count ≡ x.log.head.count) xs
counts_same [] [] x l all one apart same = tt
counts_same (y ∷ xs) (k ∷ ls) x l all one apart same =
    let first : y.log.head.count ≡ x.log.head.count = count_is y k all.0 ∙ not_equal k.head.count l.head.count same ∙ sym (count_is x l one) in
    (first, all_so (IsApartPair y) (λ z. z.log.head.count ≡ x.log.head.count) xs (λ z h. sym h.count ∙ first) apart.0)
counts_same [] (k ∷ ls) x l all one apart same = absurd all
counts_same (y ∷ xs) [] x l all one apart same = absurd all

apart_from : (xs : List LoadedFiles) (ls : List Loaded) (x : LoadedFiles) (l : Loaded) → AreLoadedPairs xs ls → IsLoadedPair x l → AllByRecursion (λ y. y.log.head.count ≡ x.log.head.count) xs → has_process ls l.head.process ≡ false → has_name ls l.head.name ≡ false
    → AllByRecursion (λ y. IsApartPair y x) xs
apart_from [] [] x l all one counts process name = tt
apart_from (y ∷ xs) (k ∷ ls) x l all one counts process name =
    let p = not_first (nat_eq k.head.process l.head.process) (has_process ls l.head.process) process in
    let n = not_first (bytes_eq k.head.name l.head.name) (has_name ls l.head.name) name in (
      record {
        count = counts.0;
        process = λ same. eqb-false k.head.process l.head.process p.0 (sym (process_is y k all.0) ∙ same ∙ process_is x l one);
        name = λ same. other_name k.head.name l.head.name n.0 (sym (name_is y k all.0) ∙ same ∙ name_is x l one);
      },
      apart_from xs ls x l all.1 one counts.1 p.1 n.1,
    )
apart_from [] (k ∷ ls) x l all one counts process name = absurd all
apart_from (y ∷ xs) [] x l all one counts process name = absurd all

apart_push : (xs : List LoadedFiles) (x : LoadedFiles) → AreOneGroup xs → AllByRecursion (λ y. IsApartPair y x) xs → AreOneGroup (xs ++ x ∷ [])
apart_push [] x apart each = (tt, tt)
apart_push (y ∷ xs) x apart each = (all_push (IsApartPair y) xs x apart.0 each.0, apart_push xs x apart.1 each.1)

-- one pair more, whose log does not clash
pub apart_more : (xs : List LoadedFiles) (ls : List Loaded) (x : LoadedFiles) (l : Loaded) → AreLoadedPairs xs ls → IsLoadedPair x l → AreOneGroup xs → clash_of_logs ls l.head ≡ None → AreOneGroup (xs ++ x ∷ [])
apart_more xs ls x l all one apart none =
    let h = passes ls l.head none in
    apart_push xs x apart (apart_from xs ls x l all one (counts_same xs ls x l all one apart h.group) h.process h.name)
