-- What was read of the pairs of a group: of each pair a module and a log, and no two logs of one process or one name.
use Rattle.std.proofs.Common.{◌≡◌, ◌≢◌, ◌∙◌, ◌||◌, ℕ, zero, suc, Bool, true, false, cond, List, [], ◌∷◌, ◌++◌, Option, Some, None, Ok, ap, append_assoc, refl, sym, subst}
use Rattle.std.specs.Prelude.{◌==◌, bytes_eq, slice_get}
use Rattle.std.specs.List.{AllByRecursion, list_any}
use Rattle.std.proofs.lemmas.Bool.{eqb-false}
use Rattle.std.proofs.lemmas.Option.{same_Some}
use Rattle.std.proofs.lemmas.Slice.Eq.{bytes_eq-Decides}
use Rattle.fri_outside.specs.Outside.{Folder}
use Rattle.guest_process.specs.Start.{start}
use Rattle.guest_process.specs.State.{State}
use Rattle.proc_replay.specs.Replaying.{Replaying}
use Rattle.command_run.specs.declared.refusal.Reason.{Reason}
use Rattle.command_run.specs.declared.refusal.Reason.TheVariants as reason
use Rattle.command_run.specs.Inputs.{first_state_of, module_in}
use Rattle.command_run.specs.OutcomeLaws.{result_follows, same_Ok_value}
use Rattle.command_run.specs.Logs.{log_in}
use Rattle.command_run.specs.Outcome.{some_or_refused, unless_refused}
use Rattle.log_pairs.specs.Pairs.{Loaded, Pair, clash_of_logs, has_name, has_process, is_other_group, loaded_pair, loaded_pairs, replay_of_log, replays_of}

-- ---- one pair

pub record IsRead (folder : Folder) (pair : Pair) (l : Loaded) : Type 0 where
  pub name : l.module_name ≡ pair.module_name
  pub «module» : module_in folder pair.module_name ≡ Ok l.«module»
  pub log : log_in folder pair.log_name ≡ Ok (l.head, l.left)

-- two logs are of two processes, with two names
pub record Differ (l other : Loaded) : Type 0 where
  pub process : l.head.process ≢ other.head.process
  pub name : l.head.name ≢ other.head.name

abbrev pub AllApart : List Loaded → Type 0
AllApart [] = Unit {0}
AllApart (l ∷ ls) = AllByRecursion (Differ l) ls × AllApart ls

abbrev pub AreRead : Folder → List Pair → List Loaded → Type 0
AreRead folder [] [] = Unit {0}
AreRead folder (pair ∷ pairs) (l ∷ ls) = IsRead folder pair l × AreRead folder pairs ls
AreRead folder [] (l ∷ ls) = ⊥
AreRead folder (pair ∷ pairs) [] = ⊥

-- ---- no clash

abbrev first_reason : Bool → Bool → Bool → Option Reason
first_reason group process name = cond group (Some reason.OtherGroup) (cond process (Some reason.SameProcess) (cond name (Some reason.SameName) None))

no_reason : (group process name : Bool) → first_reason group process name ≡ None → (process ≡ false) × (name ≡ false)
no_reason true process name is = absurd (cc)
no_reason false true name is = absurd (cc)
no_reason false false true is = absurd (cc)
no_reason false false false is = (refl, refl)

neither : (a b : Bool) → (a || b) ≡ false → (a ≡ false) × (b ≡ false)
neither true b is = absurd (cc)
neither false b is = (refl, is)

differ_from : (earlier : List Loaded) (l : Loaded) → has_process earlier l.head.process ≡ false → has_name earlier l.head.name ≡ false → AllByRecursion (λ e. Differ e l) earlier
differ_from [] l process name = tt
differ_from (e ∷ earlier) l process name =
    let p = neither (e.head.process == l.head.process) (list_any (λ x. x.head.process == l.head.process) earlier) process in
    let n = neither (bytes_eq e.head.name l.head.name) (list_any (λ x. bytes_eq x.head.name l.head.name) earlier) name in
    (record { process = eqb-false e.head.process l.head.process p.0; name = λ same. differs ((bytes_eq-Decides e.head.name l.head.name).1 same) n.0 }, differ_from earlier l p.1 n.1) where
      differs : {b : Bool} → b ≡ true → b ≡ false → ⊥
      differs is other = cc

-- ---- all pairs

not_clashing : (name : List ℕ) (l given : Loaded) (why : Option Reason) → unless_refused name l why ≡ Ok given → (why ≡ None) × (given ≡ l)
not_clashing name l given None is = (refl, same_Ok_value (Ok l) given l is refl)
not_clashing name l given (Some why) is = absurd (cc)

pub record ReadPair (folder : Folder) (earlier : List Loaded) (pair : Pair) (l : Loaded) : Type 0 where
  pub read : IsRead folder pair l
  pub apart : AllByRecursion (λ e. Differ e l) earlier

read_pair : (folder : Folder) (earlier : List Loaded) (pair : Pair) (l : Loaded) → loaded_pair folder earlier pair ≡ Ok l → ReadPair folder earlier pair l
read_pair folder earlier pair l is =
    let m = result_follows (module_in folder pair.module_name) _ l is in
    let log = result_follows (log_in folder pair.log_name) _ l m.comes in
    let made : Loaded = record { module_name = pair.module_name; «module» = m.given; head = log.given.0; left = log.given.1 } in
    let none = not_clashing pair.log_name made l (clash_of_logs earlier log.given.0) log.comes in
    let free = no_reason (is_other_group earlier log.given.0.count) (has_process earlier log.given.0.process) (has_name earlier log.given.0.name) none.0 in
    subst (ReadPair folder earlier pair) (sym none.1) (record {
      read = record { name = refl; «module» = m.is_given; log = log.is_given };
      apart = differ_from earlier made free.0 free.1;
    })

pub record Reads (folder : Folder) (earlier : List Loaded) (pairs : List Pair) (all : List Loaded) : Type 0 where
  pub new : List Loaded
  pub split : all ≡ earlier ++ new
  pub read : AreRead folder pairs new
  pub from_earlier : AllByRecursion (λ l. AllByRecursion (λ e. Differ e l) earlier) new
  pub apart : AllApart new

parted : (P : Loaded → Type 0) (xs ys : List Loaded) → AllByRecursion P (xs ++ ys) → AllByRecursion P xs × AllByRecursion P ys
parted P [] ys all = (tt, all)
parted P (x ∷ xs) ys all = let rest = parted P xs ys all.1 in ((all.0, rest.0), rest.1)

-- what differs from the earlier ones and from one more
from_more : (earlier : List Loaded) (l : Loaded) (new : List Loaded) → AllByRecursion (λ m. AllByRecursion (λ e. Differ e m) (earlier ++ l ∷ [])) new
    → AllByRecursion (λ m. AllByRecursion (λ e. Differ e m) earlier) new × AllByRecursion (Differ l) new
from_more earlier l [] all = (tt, tt)
from_more earlier l (m ∷ new) all =
    let here = parted (λ e. Differ e m) earlier (l ∷ []) all.0 in
    let rest = from_more earlier l new all.1 in
    ((here.0, rest.0), (here.1.0, rest.1))

pub all_read : (folder : Folder) (earlier : List Loaded) (pairs : List Pair) (all : List Loaded) → loaded_pairs folder earlier pairs ≡ Ok all → Reads folder earlier pairs all
all_read folder earlier [] all is = record { new = []; split = same_Ok_value (Ok earlier) all earlier is refl ∙ sym (no_more earlier); read = tt; from_earlier = tt; apart = tt } where
  no_more : (xs : List Loaded) → xs ++ [] ≡ xs
  no_more [] = refl
  no_more (x ∷ xs) = ap (λ l. x ∷ l) (no_more xs)
all_read folder earlier (pair ∷ pairs) all is =
    let f = result_follows (loaded_pair folder earlier pair) (λ l. loaded_pairs folder (earlier ++ l ∷ []) pairs) all is in
    let l = f.given in
    let one = read_pair folder earlier pair l f.is_given in
    let rest = all_read folder (earlier ++ l ∷ []) pairs all f.comes in
    let parts = from_more earlier l rest.new rest.from_earlier in
    record {
      new = l ∷ rest.new;
      split = rest.split ∙ append_assoc earlier (l ∷ []) rest.new;
      read = (one.read, rest.read);
      from_earlier = (one.apart, parts.0);
      apart = (parts.1, rest.apart);
    }

-- ---- the replays

-- a replay of a log that was read, before its first event
pub record Begins (l : Loaded) (r : Replaying) : Type 0 where
  pub head : r.head ≡ l.head
  pub left : r.left ≡ l.left
  pub state : start l.«module» l.head.process l.head.count ≡ Some r.state

abbrev pub AllBegin : List Loaded → List Replaying → Type 0
AllBegin [] [] = Unit {0}
AllBegin (l ∷ ls) (r ∷ rs) = Begins l r × AllBegin ls rs
AllBegin [] (r ∷ rs) = ⊥
AllBegin (l ∷ ls) [] = ⊥

begun_state : (name : List ℕ) (o : Option State) (S : State) → some_or_refused name reason.BadSegment o ≡ Ok S → o ≡ Some S
begun_state name None S is = absurd (cc)
begun_state name (Some T) S is = ap Some (same_Ok_value (Ok T) T S refl is)

begins : (l : Loaded) (r : Replaying) → replay_of_log l ≡ Ok r → Begins l r
begins l r is =
    let f = result_follows (first_state_of l.module_name l.«module» l.head.process l.head.count) _ r is in
    let made : Replaying = record { head = l.head; state = f.given; left = l.left } in
    subst (Begins l) (same_Ok_value (Ok made) made r refl f.comes) (record { head = refl; left = refl; state = begun_state l.module_name (start l.«module» l.head.process l.head.count) f.given f.is_given })

pub all_begin : (ls : List Loaded) (rs : List Replaying) → replays_of ls ≡ Ok rs → AllBegin ls rs
all_begin [] [] is = tt
all_begin [] (r ∷ rs) is = absurd (wrong (same_Ok_value (Ok []) [] (r ∷ rs) refl is)) where
  wrong : (let none : List Replaying = [] in none ≡ r ∷ rs) → ⊥
  wrong same = cc
all_begin (l ∷ ls) rs is =
    let one = result_follows (replay_of_log l) _ rs is in
    let rest = result_follows (replays_of ls) _ rs one.comes in
    subst (AllBegin (l ∷ ls)) (same_Ok_value (Ok (one.given ∷ rest.given)) (one.given ∷ rest.given) rs refl rest.comes) (begins l one.given one.is_given, all_begin ls rest.given rest.is_given)

-- ---- place by place

pub record PairAt (folder : Folder) (pairs : List Pair) (ls : List Loaded) (r : Replaying) (i : ℕ) : Type 0 where
  pub pair : Pair
  pub loaded : Loaded
  pub pair_at : slice_get pairs i ≡ Some pair
  pub loaded_at : slice_get ls i ≡ Some loaded
  pub read : IsRead folder pair loaded
  pub begins : Begins loaded r

-- the pair of a replay
pub pair_of_replay : (folder : Folder) (pairs : List Pair) (ls : List Loaded) (rs : List Replaying) → AreRead folder pairs ls → AllBegin ls rs → (i : ℕ) (r : Replaying) → slice_get rs i ≡ Some r
    → PairAt folder pairs ls r i
pair_of_replay folder [] [] [] read begin i r at = cc
pair_of_replay folder (pair ∷ pairs) (l ∷ ls) (s ∷ rs) read begin zero r at =
    record { pair = pair; loaded = l; pair_at = refl; loaded_at = refl; read = read.0; begins = subst (Begins l) (same_Some s r at) begin.0 }
pair_of_replay folder (pair ∷ pairs) (l ∷ ls) (s ∷ rs) read begin (suc i) r at =
    let rest = pair_of_replay folder pairs ls rs read.1 begin.1 i r at in
    record { pair = rest.pair; loaded = rest.loaded; pair_at = rest.pair_at; loaded_at = rest.loaded_at; read = rest.read; begins = rest.begins }
pair_of_replay folder [] (l ∷ ls) rs read begin i r at = absurd read
pair_of_replay folder (pair ∷ pairs) [] rs read begin i r at = absurd read
pair_of_replay folder [] [] (s ∷ rs) read begin i r at = absurd begin
pair_of_replay folder (pair ∷ pairs) (l ∷ ls) [] read begin i r at = absurd begin

-- the replay of a pair
pub replay_of_pair : (folder : Folder) (pairs : List Pair) (ls : List Loaded) (rs : List Replaying) → AreRead folder pairs ls → AllBegin ls rs → (i : ℕ) (pair : Pair) → slice_get pairs i ≡ Some pair
    → (r : Replaying) × (slice_get rs i ≡ Some r)
replay_of_pair folder [] [] [] read begin i pair at = cc
replay_of_pair folder (p ∷ pairs) (l ∷ ls) (s ∷ rs) read begin zero pair at = (s, refl)
replay_of_pair folder (p ∷ pairs) (l ∷ ls) (s ∷ rs) read begin (suc i) pair at = replay_of_pair folder pairs ls rs read.1 begin.1 i pair at
replay_of_pair folder [] (l ∷ ls) rs read begin i pair at = absurd read
replay_of_pair folder (p ∷ pairs) [] rs read begin i pair at = absurd read
replay_of_pair folder [] [] (s ∷ rs) read begin i pair at = absurd begin
replay_of_pair folder (p ∷ pairs) (l ∷ ls) [] read begin i pair at = absurd begin

at_place : (P : Loaded → Type 0) (ls : List Loaded) → AllByRecursion P ls → (i : ℕ) (l : Loaded) → slice_get ls i ≡ Some l → P l
at_place P [] all i l at = cc
at_place P (m ∷ ls) all zero l at = subst P (same_Some m l at) all.0
at_place P (m ∷ ls) all (suc i) l at = at_place P ls all.1 i l at

-- two logs of one process are one, and so are two of one name
pub one_process : (ls : List Loaded) → AllApart ls → (i j : ℕ) (l m : Loaded) → slice_get ls i ≡ Some l → slice_get ls j ≡ Some m → l.head.process ≡ m.head.process → i ≡ j
one_process [] apart i j l m at_i at_j same = cc
one_process (x ∷ ls) apart zero zero l m at_i at_j same = refl
one_process (x ∷ ls) apart zero (suc j) l m at_i at_j same = absurd ((at_place (Differ x) ls apart.0 j m at_j).process (ap (λ (y : Loaded). y.head.process) (same_Some x l at_i) ∙ same))
one_process (x ∷ ls) apart (suc i) zero l m at_i at_j same = absurd ((at_place (Differ x) ls apart.0 i l at_i).process (ap (λ (y : Loaded). y.head.process) (same_Some x m at_j) ∙ sym same))
one_process (x ∷ ls) apart (suc i) (suc j) l m at_i at_j same = ap suc (one_process ls apart.1 i j l m at_i at_j same)

pub one_name : (ls : List Loaded) → AllApart ls → (i j : ℕ) (l m : Loaded) → slice_get ls i ≡ Some l → slice_get ls j ≡ Some m → l.head.name ≡ m.head.name → i ≡ j
one_name [] apart i j l m at_i at_j same = cc
one_name (x ∷ ls) apart zero zero l m at_i at_j same = refl
one_name (x ∷ ls) apart zero (suc j) l m at_i at_j same = absurd ((at_place (Differ x) ls apart.0 j m at_j).name (ap (λ (y : Loaded). y.head.name) (same_Some x l at_i) ∙ same))
one_name (x ∷ ls) apart (suc i) zero l m at_i at_j same = absurd ((at_place (Differ x) ls apart.0 i l at_i).name (ap (λ (y : Loaded). y.head.name) (same_Some x m at_j) ∙ sym same))
one_name (x ∷ ls) apart (suc i) (suc j) l m at_i at_j same = ap suc (one_name ls apart.1 i j l m at_i at_j same)
