-- The pairs that were read, and those that are still to come.
use Rattle.std.proofs.Common.{◌≡◌, ◌∙◌, ◌≤◌, ℕ, List, [], ◌∷◌, ◌++◌, length, length-append, Option, Some, None, Result, Ok, ap, arith, map, refl, subst, sym}
use Rattle.fri_outside.specs.Outside.{Folder, WhenTold}
use Rattle.wasm_types.specs.Modules.{Module, module_of as shown}
use Rattle.call_log.specs.Head.{Head, head_bytes}
use Rattle.call_log.specs.Laws.{ExactLogs}
use Rattle.call_log.specs.Limits.{most_log}
use Rattle.call_log.specs.Log.{Unread, head_at}
use Rattle.log_pairs.specs.declared.pairs.Pair.{Pair as PairOfWords}
use Rattle.log_pairs.specs.declared.pairs.Loaded.{Loaded as LoadedFiles}
use Rattle.command_run.specs.declared.refusal.Reason.TheVariants as reason
use Rattle.command_run.specs.declared.refusal.StopCause.{StopCause}
use Rattle.command_run.specs.Call.{StopsAsCause}
use Rattle.log_pairs.specs.Pairs.{Pair, Loaded, clash_of_logs, loaded_pair, loaded_pairs}
use Rattle.command_run.specs.Logs.{log_in}
use Rattle.command_run.specs.Inputs.{module_in}
use Rattle.command_run.specs.Outcome.{CommandStop, and_then, file_of, some_or_refused, unless_refused}
use Rattle.log_pairs.specs.Meanings.{AreLoadedPairs, AreOneGroup, IsLoadedPair, pair_of}
use Rattle.log_pairs.proofs.LogClashes.{apart_more}
use Rattle.command_run.specs.OutcomeLaws.{stops_before_next}

-- ---- one pair

-- what the files of a pair hold
abbrev pub read_as : Pair → Module → Head × Unread → Loaded
read_as pair m log = record { module_name = pair.module_name; «module» = m; head = log.0; left = log.1 }

head_found : (name bytes : List ℕ) (log : Head × Unread) → some_or_refused name reason.BadHead (head_at bytes) ≡ Ok log → head_at bytes ≡ Some log
head_found name bytes log is = found (head_at bytes) is where
  found : (o : Option (Head × Unread)) → some_or_refused name reason.BadHead o ≡ Ok log → o ≡ Some log
  found None is = cc
  found (Some l) is = cc

-- a pair with a log of these bytes holds that
pub is_loaded : ExactLogs → (x : LoadedFiles) (pair : Pair) (bytes : List ℕ) → x.module_file.now ≡ pair.module_name → bytes ≡ head_bytes x.log.head ++ x.log.left.bytes
    → some_or_refused pair.log_name reason.BadHead (head_at bytes) ≡ Ok (x.log.head, x.log.left) → length bytes ≤ most_log → IsLoadedPair x (read_as pair (shown x.«module») (x.log.head, x.log.left))
is_loaded exact x pair bytes named spelled found few =
    let log = (exact.heads bytes x.log.head x.log.left).0 (head_found pair.log_name bytes (x.log.head, x.log.left) found) in
    record {
      name = named;
      «module» = refl;
      log = refl;
      head = log.0;
      left = log.1.1;
      whole = omega (arith, few, ap length spelled, length-append (head_bytes x.log.head) x.log.left.bytes);
    }

-- from the module on
module_read : (folder : Folder) (ls : List Loaded) (pair : Pair) (m : Module) → module_in folder pair.module_name ≡ Ok m
    → loaded_pair folder ls pair ≡ and_then (log_in folder pair.log_name) (λ log. unless_refused pair.log_name (read_as pair m log) (clash_of_logs ls log.0))
module_read folder ls pair m is =
    ap (λ (r : Result Module CommandStop). and_then r (λ m. and_then (log_in folder pair.log_name) (λ log. unless_refused pair.log_name (read_as pair m log) (clash_of_logs ls log.0)))) is

log_is : (folder : Folder) (name bytes : List ℕ) (log : Head × Unread) → file_of folder name most_log ≡ Ok bytes → some_or_refused name reason.BadHead (head_at bytes) ≡ Ok log → log_in folder name ≡ Ok log
log_is folder name bytes log read head = ap (λ (r : Result (List ℕ) CommandStop). and_then r (λ bytes. some_or_refused name reason.BadHead (head_at bytes))) read ∙ head

-- a pair whose files stand, and whose log does not clash
pub pair_stands : (folder : Folder) (ls : List Loaded) (pair : Pair) (m : Module) (log : Head × Unread) → module_in folder pair.module_name ≡ Ok m → log_in folder pair.log_name ≡ Ok log → clash_of_logs ls log.0 ≡ None
    → loaded_pair folder ls pair ≡ Ok (read_as pair m log)
pair_stands folder ls pair m log is stands none =
    module_read folder ls pair m is
    ∙ ap (λ (r : Result (Head × Unread) CommandStop). and_then r (λ log. unless_refused pair.log_name (read_as pair m log) (clash_of_logs ls log.0))) stands
    ∙ ap (unless_refused pair.log_name (read_as pair m log)) none

pub pair_read : (folder : Folder) (ls : List Loaded) (pair : Pair) (m : Module) (bytes : List ℕ) (log : Head × Unread) → module_in folder pair.module_name ≡ Ok m → file_of folder pair.log_name most_log ≡ Ok bytes
    → some_or_refused pair.log_name reason.BadHead (head_at bytes) ≡ Ok log → clash_of_logs ls log.0 ≡ None → loaded_pair folder ls pair ≡ Ok (read_as pair m log)
pair_read folder ls pair m bytes log is read head none = pair_stands folder ls pair m log is (log_is folder pair.log_name bytes log read head) none

-- ---- pair after pair

loaded_more : (xs : List LoadedFiles) (ls : List Loaded) (x : LoadedFiles) (l : Loaded) → AreLoadedPairs xs ls → IsLoadedPair x l → AreLoadedPairs (xs ++ x ∷ []) (ls ++ l ∷ [])
loaded_more [] [] x l all one = (one, tt)
loaded_more (y ∷ xs) (k ∷ ls) x l all one = (all.0, loaded_more xs ls x l all.1 one)
loaded_more [] (k ∷ ls) x l all one = absurd all
loaded_more (y ∷ xs) [] x l all one = absurd all

-- some pairs hold this, and what is wanted of all is what comes of the others after them
pub record SoFar (folder : Folder) (pairs left : List PairOfWords) (xs : List LoadedFiles) : Type 0 where
  pub held : List Loaded
  pub are : AreLoadedPairs xs held
  pub wanted : loaded_pairs folder [] (map pair_of pairs) ≡ loaded_pairs folder held (map pair_of left)

-- the pairs before some others were read
pub record AreRead (told : Option Folder) (pairs left : List PairOfWords) (xs : List LoadedFiles) : Type 0 where
  pub so_far : WhenTold told (λ folder. SoFar folder pairs left xs)
  pub held : List Loaded
  pub are : AreLoadedPairs xs held
  pub apart : AreOneGroup xs

pub none_read : (told : Option Folder) (pairs : List PairOfWords) → AreRead told pairs pairs []
none_read told pairs = record {
  so_far = λ folder is. record { held = []; are = tt; wanted = refl };
  held = [];
  are = tt;
  apart = tt;
}

-- what reading a further pair gives
abbrev pub Reads : Folder → PairOfWords → List LoadedFiles → LoadedFiles → Type 0
Reads folder pair xs x = (ls : List Loaded) → AreLoadedPairs xs ls → (is : Loaded) × ((loaded_pair folder ls (pair_of pair) ≡ Ok is) × IsLoadedPair x is)

abbrev pub FitsBehind : List LoadedFiles → LoadedFiles → Type 0
FitsBehind xs x = (ls : List Loaded) → AreLoadedPairs xs ls → (is : Loaded) × (IsLoadedPair x is × (clash_of_logs ls is.head ≡ None))

so_far_more : (folder : Folder) (pairs left : List PairOfWords) (pair : PairOfWords) (xs : List LoadedFiles) (x : LoadedFiles) → SoFar folder pairs (pair ∷ left) xs → Reads folder pair xs x → SoFar folder pairs left (xs ++ x ∷ [])
so_far_more folder pairs left pair xs x so reads =
    let one = reads so.held so.are in
    record {
      held = so.held ++ one.0 ∷ [];
      are = loaded_more xs so.held x one.0 so.are one.1.1;
      wanted = so.wanted ∙ ap (λ (r : Result Loaded CommandStop). and_then r (λ l. loaded_pairs folder (so.held ++ l ∷ []) (map pair_of left))) one.1.0;
    }

pub one_read : (told : Option Folder) (pairs before left : List PairOfWords) (pair : PairOfWords) (xs after : List LoadedFiles) (x : LoadedFiles) → AreRead told pairs before xs → before ≡ pair ∷ left
    → WhenTold told (λ folder. Reads folder pair xs x) → FitsBehind xs x → after ≡ xs ++ x ∷ [] → AreRead told pairs left after
one_read told pairs before left pair xs after x read next reads fits pushed =
    let one = fits read.held read.are in
    subst (AreRead told pairs left) (sym pushed) (record {
      so_far = λ folder is. so_far_more folder pairs left pair xs x (subst (λ (ps : List PairOfWords). SoFar folder pairs ps xs) next (read.so_far folder is)) (reads folder is);
      held = read.held ++ one.0 ∷ [];
      are = loaded_more xs read.held x one.0 read.are one.1.0;
      apart = apart_more xs read.held x one.0 read.are one.1.0 read.apart one.1.1;
    })

-- a pair was refused
pub reading_stops : (told : Option Folder) (pairs before left : List PairOfWords) (pair : PairOfWords) (xs : List LoadedFiles) (e : StopCause) → AreRead told pairs before xs → before ≡ pair ∷ left
    → WhenTold told (λ folder. (ls : List Loaded) → AreLoadedPairs xs ls → StopsAsCause (loaded_pair folder ls (pair_of pair)) e) → WhenTold told (λ folder. StopsAsCause (loaded_pairs folder [] (map pair_of pairs)) e)
reading_stops told pairs before left pair xs e read next stops folder is =
    let so = read.so_far folder is in
    subst (λ (r : Result (List Loaded) CommandStop). StopsAsCause r e) (sym (so.wanted ∙ ap (λ (ps : List PairOfWords). loaded_pairs folder so.held (map pair_of ps)) next))
    (stops_before_next (loaded_pair folder so.held (pair_of pair)) _ e (stops folder is so.held so.are))

pub all_read : (told : Option Folder) (pairs left : List PairOfWords) (xs : List LoadedFiles) → AreRead told pairs left xs → left ≡ []
    → WhenTold told (λ folder. (ls : List Loaded) × ((loaded_pairs folder [] (map pair_of pairs) ≡ Ok ls) × AreLoadedPairs xs ls))
all_read told pairs left xs read none folder is =
    let so = read.so_far folder is in
    (so.held, (so.wanted ∙ ap (λ (ps : List PairOfWords). loaded_pairs folder so.held (map pair_of ps)) none, so.are))
