-- The pairs of some processes of a recording are read, and their replays begin.
use Rattle.std.proofs.Common.{◌≡◌, ◌≢◌, ◌⊎◌, ◌∙◌, ◌≤◌, ◌||◌, ℕ, Bool, true, false, cond, not, eqb, List, [], ◌∷◌, ◌++◌, length, Option, Some, None, Result, Ok, inl, inr, ap, append_assoc, append-nil, refl, sym}
use Rattle.std.specs.Prelude.{bytes_eq}
use Rattle.std.specs.List.{AllByRecursion}
use Rattle.std.specs.FinMap.{get}
use Rattle.std.proofs.lemmas.Bool.{ne_eqb}
use Rattle.std.proofs.lemmas.Bool.Decides.{eqb_tells}
use Rattle.std.proofs.lemmas.Slice.Eq.{bytes_eq-Decides}
use Rattle.fri_outside.specs.Outside.{Folder}
use Rattle.wasm_types.specs.Modules.{Module}
use Rattle.call_log.specs.Head.{Head}
use Rattle.call_log.specs.Limits.{most_log}
use Rattle.call_log.specs.Log.{Unread, head_at}
use Rattle.guest_process.specs.Start.{start}
use Rattle.guest_process.specs.State.{State}
use Rattle.proc_replay.specs.Replaying.{Replaying}
use Rattle.command_run.specs.declared.refusal.Reason.{Reason}
use Rattle.command_run.specs.declared.refusal.Reason.TheVariants as reason
use Rattle.command_run.specs.Inputs.{module_in}
use Rattle.command_run.specs.Laws.{ReadsModules}
use Rattle.command_run.specs.Outcome.{CommandStop, and_then, some_or_refused, unless_refused}
use Rattle.command_run.specs.Logs.{log_in}
use Rattle.log_pairs.specs.Pairs.{Loaded, Pair, clash_of_logs, has_name, has_process, is_other_group, loaded_pair, loaded_pairs, replay_of_log, replays_of}
use Rattle.log_pairs.specs.Valid.{AreOfOneGroup}

-- ---- a log that clashes with none before it

same_number : (a b : ℕ) → a ≡ b → eqb a b ≡ true
same_number a b same = tells (eqb_tells a b) where
  tells : ((eqb a b ≡ true) × (a ≡ b)) ⊎ ((eqb a b ≡ false) × (a ≢ b)) → eqb a b ≡ true
  tells (inl h) = h.0
  tells (inr h) = absurd (h.1 same)

never : (b : Bool) → (b ≡ true → ⊥) → b ≡ false
never true wrong = absurd (wrong refl)
never false wrong = refl

abbrev GoWith : List Loaded → Head → Type 0
GoWith ls h = AllByRecursion (λ l. AreOfOneGroup l.head h) ls

same_group : (ls : List Loaded) (h : Head) → GoWith ls h → is_other_group ls h.count ≡ false
same_group [] h all = refl
same_group (l ∷ ls) h all = ap not (same_number l.head.count h.count all.0.count)

no_process : (ls : List Loaded) (h : Head) → GoWith ls h → has_process ls h.process ≡ false
no_process [] h all = refl
no_process (l ∷ ls) h all = ap (λ (b : Bool). b || has_process ls h.process) (ne_eqb l.head.process h.process all.0.process) ∙ no_process ls h all.1

no_name : (ls : List Loaded) (h : Head) → GoWith ls h → has_name ls h.name ≡ false
no_name [] h all = refl
no_name (l ∷ ls) h all =
    ap (λ (b : Bool). b || has_name ls h.name) (never (bytes_eq l.head.name h.name) (λ e. all.0.name ((bytes_eq-Decides l.head.name h.name).0 e))) ∙ no_name ls h all.1

abbrev first_reason : Bool → Bool → Bool → Option Reason
first_reason group process name = cond group (Some reason.OtherGroup) (cond process (Some reason.SameProcess) (cond name (Some reason.SameName) None))

clashes_not : (ls : List Loaded) (h : Head) → GoWith ls h → clash_of_logs ls h ≡ None
clashes_not ls h all =
    ap (λ (b : Bool). first_reason b (has_process ls h.process) (has_name ls h.name)) (same_group ls h all)
    ∙ ap (λ (b : Bool). first_reason false b (has_name ls h.name)) (no_process ls h all)
    ∙ ap (first_reason false false) (no_name ls h all)

-- ---- one pair

-- of a process: its module is there and begins so, and its log is there and has this head
pub record PairStands (folder : Folder) (pair : Pair) (r : Replaying) : Type 0 where
  pub «module» : Module
  pub reads : module_in folder pair.module_name ≡ Ok «module»
  pub begins : start «module» r.head.process r.head.count ≡ Some r.state
  pub log : log_in folder pair.log_name ≡ Ok (r.head, r.left)

abbrev pub loaded_of : {folder : Folder} {pair : Pair} {r : Replaying} → PairStands folder pair r → Loaded
loaded_of {pair = pair} {r = r} s = record { module_name = pair.module_name; «module» = s.«module»; head = r.head; left = r.left }

loads : (folder : Folder) (earlier : List Loaded) (pair : Pair) (r : Replaying) → (s : PairStands folder pair r) → GoWith earlier r.head → loaded_pair folder earlier pair ≡ Ok (loaded_of s)
loads folder earlier pair r s goes =
    ap (λ (m : Result Module CommandStop). and_then m (λ m. and_then (log_in folder pair.log_name) (λ log.
    unless_refused pair.log_name (record { module_name = pair.module_name; «module» = m; head = log.0; left = log.1 }) (clash_of_logs earlier log.0)))) s.reads
    ∙ ap (λ (log : Result (Head × Unread) CommandStop). and_then log (λ log.
    unless_refused pair.log_name (record { module_name = pair.module_name; «module» = s.«module»; head = log.0; left = log.1 }) (clash_of_logs earlier log.0))) s.log
    ∙ ap (unless_refused pair.log_name (loaded_of s)) (clashes_not earlier r.head goes)

begins : (folder : Folder) (pair : Pair) (r : Replaying) → (s : PairStands folder pair r) → replay_of_log (loaded_of s) ≡ Ok r
begins folder pair r s =
    ap (λ (o : Option State). and_then (some_or_refused pair.module_name reason.BadSegment o) (λ begun. Ok (record { head = r.head; state = begun; left = r.left }))) s.begins

-- ---- all pairs

abbrev pub AllStand : Folder → List Pair → List Replaying → Type 0
AllStand folder [] [] = Unit {0}
AllStand folder (pair ∷ pairs) (r ∷ rs) = PairStands folder pair r × AllStand folder pairs rs
AllStand folder [] (r ∷ rs) = ⊥
AllStand folder (pair ∷ pairs) [] = ⊥

-- the heads go together, each with all after it
abbrev pub AllTogether : List Replaying → Type 0
AllTogether [] = Unit {0}
AllTogether (r ∷ rs) = AllByRecursion (λ s. AreOfOneGroup r.head s.head) rs × AllTogether rs

abbrev GoBehind : List Loaded → List Replaying → Type 0
GoBehind earlier rs = AllByRecursion (λ r. GoWith earlier r.head) rs

one_more : (earlier : List Loaded) (l : Loaded) (h : Head) → GoWith earlier h → AreOfOneGroup l.head h → GoWith (earlier ++ l ∷ []) h
one_more [] l h all one = (one, tt)
one_more (x ∷ earlier) l h all one = (all.0, one_more earlier l h all.1 one)

behind_more : (earlier : List Loaded) (l : Loaded) (rs : List Replaying) → GoBehind earlier rs → AllByRecursion (λ s. AreOfOneGroup l.head s.head) rs → GoBehind (earlier ++ l ∷ []) rs
behind_more earlier l [] all goes = tt
behind_more earlier l (r ∷ rs) all goes = (one_more earlier l r.head all.0 goes.0, behind_more earlier l rs all.1 goes.1)

pub record Opened (folder : Folder) (earlier : List Loaded) (pairs : List Pair) (rs : List Replaying) : Type 0 where
  pub held : List Loaded
  pub loaded : loaded_pairs folder earlier pairs ≡ Ok (earlier ++ held)
  pub begun : replays_of held ≡ Ok rs

opened_from : (folder : Folder) (earlier : List Loaded) (pairs : List Pair) (rs : List Replaying) → AllStand folder pairs rs → AllTogether rs → GoBehind earlier rs → Opened folder earlier pairs rs
opened_from folder earlier [] [] stand together goes = record { held = []; loaded = ap (λ (ls : List Loaded). Ok ls) (sym (append-nil earlier)); begun = refl }
opened_from folder earlier (pair ∷ pairs) (r ∷ rs) stand together goes =
    let l = loaded_of stand.0 in
    let rest = opened_from folder (earlier ++ l ∷ []) pairs rs stand.1 together.1 (behind_more earlier l rs goes.1 together.0) in
    record {
      held = l ∷ rest.held;
      loaded =
          ap (λ (o : Result Loaded CommandStop). and_then o (λ l. loaded_pairs folder (earlier ++ l ∷ []) pairs)) (loads folder earlier pair r stand.0 goes.0)
          ∙ rest.loaded ∙ ap (λ (ls : List Loaded). Ok ls) (append_assoc earlier (l ∷ []) rest.held);
      begun =
          ap (λ (o : Result Replaying CommandStop). and_then o (λ r. and_then (replays_of rest.held) (λ rs. Ok (r ∷ rs)))) (begins folder pair r stand.0)
          ∙ ap (λ (o : Result (List Replaying) CommandStop). and_then o (λ rs. Ok (r ∷ rs))) rest.begun;
    }
opened_from folder earlier [] (r ∷ rs) stand together goes = absurd stand
opened_from folder earlier (pair ∷ pairs) [] stand together goes = absurd stand

nothing_before : (rs : List Replaying) → GoBehind [] rs
nothing_before [] = tt
nothing_before (r ∷ rs) = (tt, nothing_before rs)

pub opened : (folder : Folder) (pairs : List Pair) (rs : List Replaying) → AllStand folder pairs rs → AllTogether rs → Opened folder [] pairs rs
opened folder pairs rs stand together = opened_from folder [] pairs rs stand together (nothing_before rs)

-- ---- a log that is there

pub log_stands : ReadsModules → (folder : Folder) (name bytes : List ℕ) (head : Head) (left : Unread) → get folder name ≡ Some bytes → length bytes ≤ most_log → head_at bytes ≡ Some (head, left)
    → log_in folder name ≡ Ok (head, left)
log_stands reads folder name bytes head left held within is =
    ap (λ (r : Result (List ℕ) CommandStop). and_then r (λ bytes. some_or_refused name reason.BadHead (head_at bytes))) (reads.files folder name most_log bytes (record { held = held; within = within }))
    ∙ ap (some_or_refused name reason.BadHead) is
