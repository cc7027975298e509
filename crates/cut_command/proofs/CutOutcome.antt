-- The outcome of a cut, from what was read and made.
use Rattle.std.proofs.Common.{◌≡◌, ◌∙◌, ◌≤◌, ◌<◌, ℕ, zero, suc, Bool, cond, List, [], ◌∷◌, arith, length, map, Option, Some, None, option_map, Result, Ok, Err, ap, refl, subst, sym}
use Rattle.std.specs.Prelude.{⊤, Contains, MatchResult, slice_index_or}
use Rattle.std.proofs.lemmas.Bool.{le-leb}
use Rattle.std.proofs.lemmas.Option.{get_or_from_slice_get, slice_get-map}
use Rattle.fri_outside.specs.Outside.{Folder, WhenTold}
use Rattle.proc_replay.specs.Course.{entries_ahead}
use Rattle.proc_replay.specs.Replaying.{Replaying}
use Rattle.causal_cut.specs.Past.{Lengths, accepted_counts, least_past}
use Rattle.command_run.specs.declared.refusal.WorkText.{WorkText}
use Rattle.command_run.specs.declared.refusal.WorkText.TheVariants as answered
use Rattle.command_run.specs.declared.refusal.StopCause.{StopCause}
use Rattle.command_run.specs.declared.refusal.StopCause.TheVariants as refusal
use Rattle.command_run.specs.Call.{MakesWholeFiles, MakesAllFiles, StopsAsCause, TellsOutcome}
use Rattle.command_run.specs.Outcome.{CommandOutcome, CommandStop, and_then, writes_of}
use Rattle.command_run.specs.ApartLaws.{apart_goes_on, apart_works}
use Rattle.command_run.specs.OutcomeLaws.{result_follows, outcome_when_told, same_Ok_value}
use Rattle.log_pairs.specs.declared.pairs.Loaded.{Loaded as LoadedFiles}
use Rattle.log_pairs.specs.Finding.{log_file}
use Rattle.log_pairs.specs.Laws.{OpensGroups}
use Rattle.log_pairs.specs.Pairs.{Loaded, RefusesPairs, Pair, OpensReplays, loaded_pairs, names_of_pairs, replays_of, replays_of_pairs, sort_replays}
use Rattle.log_pairs.specs.Meanings.{AreLoadedPairs, LoadsFiles}
use Rattle.cut_command.specs.declared.fronts.Front.{Front}
use Rattle.cut_command.specs.declared.past.Past.{Past}
use Rattle.cut_command.specs.Cut.{cut_files, cut_name, cut_of_pairs, cut_of_replays, cut_outcome, cut_work, unless_few_events, unless_other_process}
use Rattle.cut_command.specs.Laws.{CutsToPast, CutsWork, IsCutLog}
use Rattle.cut_command.specs.inside.Meanings.{front_file, work_of_past}

-- ---- what was read decides

-- the outcome of pairs that were read to these replays is what is made of these
opened : (process event : ℕ) (folder : Folder) (pairs : List Pair) (ls : List Loaded) (start : List Replaying) → loaded_pairs folder [] pairs ≡ Ok ls → replays_of_pairs folder pairs ≡ Ok start
    → cut_outcome process event pairs folder ≡ cut_of_pairs pairs ls process event start
opened process event folder pairs ls start loaded is =
    let after : and_then (replays_of ls) (λ rs. Ok (sort_replays [] rs)) ≡ Ok start =
    ap (λ (r : Result (List Loaded) CommandStop). and_then r (λ ls. and_then (replays_of ls) (λ rs. Ok (sort_replays [] rs)))) (sym loaded) ∙ is in
    let f = result_follows (replays_of ls) (λ rs. Ok (sort_replays [] rs)) start after in
    ap (λ (r : Result (List Loaded) CommandStop). and_then r (λ ls. and_then (replays_of ls) (λ rs. cut_of_pairs pairs ls process event (sort_replays [] rs)))) loaded
    ∙ ap (λ (r : Result (List Replaying) CommandStop). and_then r (λ rs. cut_of_pairs pairs ls process event (sort_replays [] rs))) f.is_given
    ∙ ap (cut_of_pairs pairs ls process event) (same_Ok_value (Ok (sort_replays [] f.given)) (sort_replays [] f.given) start refl f.comes)

stop_or : {A : Type 0} → CommandStop → Result A CommandStop → CommandStop
stop_or default (Ok value) = default
stop_or default (Err stop) = stop

abbrev Stopped : (A : Type 0) → CommandStop → Result A CommandStop
Stopped A s = Err s

same_stop : {A B : Type 0} (s stop : CommandStop) → Stopped A s ≡ Stopped A stop → Stopped B s ≡ Stopped B stop
unfolding stop_or
same_stop s stop is = ap (λ (s : CommandStop). Err s) (ap (stop_or s) is)

stop_too : (process event : ℕ) (pairs : List Pair) (a : Result (List Loaded) CommandStop) (stop : CommandStop) → and_then a (λ ls. and_then (replays_of ls) (λ rs. Ok (sort_replays [] rs))) ≡ Err stop
    → and_then a (λ ls. and_then (replays_of ls) (λ rs. cut_of_pairs pairs ls process event (sort_replays [] rs))) ≡ Err stop
stop_too process event pairs (Err s) stop is = same_stop s stop is
stop_too process event pairs (Ok ls) stop is = by_replays (replays_of ls) is where
  by_replays : (b : Result (List Replaying) CommandStop) → and_then b (λ rs. Ok (sort_replays [] rs)) ≡ Err stop → and_then b (λ rs. cut_of_pairs pairs ls process event (sort_replays [] rs)) ≡ Err stop
  by_replays (Ok rs) is = absurd (cc)
  by_replays (Err s) is = same_stop s stop is

stops_too : (process event : ℕ) (folder : Folder) (pairs : List Pair) (e : StopCause) → StopsAsCause (replays_of_pairs folder pairs) e → StopsAsCause (cut_outcome process event pairs folder) e
stops_too process event folder pairs (refusal.Refused file why) is = stop_too process event pairs (loaded_pairs folder [] pairs) _ is
stops_too process event folder pairs (refusal.Absent file) is = stop_too process event pairs (loaded_pairs folder [] pairs) _ is
stops_too process event folder pairs refusal.ReadFault is = tt
stops_too process event folder pairs refusal.WriteFault is = tt
stops_too process event folder pairs refusal.NoMemory is = tt

-- pairs that could not be read stop the cut
pub opening_stops : (process event : ℕ) (pairs : List Pair) (told : Option Folder) (e : StopCause) → RefusesPairs pairs told e → WhenTold told (λ folder. StopsAsCause (cut_outcome process event pairs folder) e)
opening_stops process event pairs told e none folder is = stops_too process event folder pairs e (none folder is)

-- the outcome of the replays
pub found_past : (process event : ℕ) (pairs : List Pair) (told : Option Folder) (all : List LoadedFiles) (start : List Replaying) (found : Result Past StopCause) → LoadsFiles pairs told all → OpensReplays pairs told start
    → ((ls : List Loaded) → AreLoadedPairs all ls → MatchResult found (λ past. cut_of_pairs pairs ls process event start ≡ Ok (work_of_past past)) (StopsAsCause (cut_of_pairs pairs ls process event start)))
    → WhenTold told (λ folder. MatchResult found (λ past. cut_outcome process event pairs folder ≡ Ok (work_of_past past)) (StopsAsCause (cut_outcome process event pairs folder)))
found_past process event pairs told all start found loaded begun answer folder is =
    let l = loaded folder is in
    subst (λ (o : CommandOutcome). MatchResult found (λ past. o ≡ Ok (work_of_past past)) (StopsAsCause o)) (sym (opened process event folder pairs l.0 start l.1.0 (begun folder is))) (answer l.0 l.1.1)

-- ---- what was made

-- the files of these logs, over the folder that was read
pub files_made : (result : Result ⊤ StopCause) (fronts items : List Front) (before told after : Option Folder) → fronts ≡ items → before ≡ told → MakesAllFiles result (map front_file fronts) before after
    → MakesAllFiles result (map front_file items) told after
files_made result fronts items before told after same read made =
    subst (λ (fronts : List Front). MakesAllFiles result (map front_file fronts) told after) same (subst (λ (t : Option Folder). MakesAllFiles result (map front_file fronts) t after) read made)

-- the outcome is this work, where the folder is told
abbrev pub IsWork : ℕ → ℕ → List Pair → Option Folder → Past → Type 0
IsWork process event pairs told past = WhenTold told (λ folder. cut_outcome process event pairs folder ≡ Ok (work_of_past past))

module _ (process event : ℕ) (pairs : List Pair) (told : Option Folder) (past : Past) (works : IsWork process event pairs told past) where
  work_is : (o : CommandOutcome) → option_map (cut_outcome process event pairs) told ≡ Some o → o ≡ Ok (work_of_past past)
  work_is o here = let h = outcome_when_told (cut_outcome process event pairs) told o here in h.2 ∙ works h.0 h.1

  pub work_makes : (after : Option Folder) (result : Result WorkText StopCause) → MakesWholeFiles result (map front_file past.fronts.items) told after
      → (o : CommandOutcome) → option_map (cut_outcome process event pairs) told ≡ Some o → MakesWholeFiles result (writes_of o) told after
  work_makes after result makes o here = subst (λ (o : CommandOutcome). MakesWholeFiles result (writes_of o) told after) (sym (work_is o here)) makes

  pub work_tells : (o : CommandOutcome) → option_map (cut_outcome process event pairs) told ≡ Some o → TellsOutcome o (Ok (answered.Done past.text))
  work_tells o here = (work_of_past past, work_is o here, refl, refl)

  pub work_cuts : (start : List Replaying) → OpensReplays pairs told start → IsCutLog process event start (work_of_past past) → WhenTold told (CutsToPast process event pairs)
  work_cuts start begun is_cut folder is = record { start = start; opened = begun folder is; work = work_of_past past; is = works folder is; cut = is_cut }

-- ---- the files of a group whose process has the event

-- what is made has the name of the file of a log that is cut
named_later : (first name : List ℕ) (names : List (List ℕ)) → Contains names name → Contains (first ∷ names) name
named_later first name names (k, below, at) = (suc k, omega (arith, below), at)

made_of_log : (start : List Replaying) (kept : List ℕ) (name : List ℕ) → Contains (map (λ file. file.0) (cut_files start kept)) name → Contains (map (λ r. cut_name r.head.name) start) name
made_of_log [] kept name (k, below, at) = absurd (omega (arith, below))
made_of_log (r ∷ start) [] name (k, below, at) = absurd (omega (arith, below))
made_of_log (r ∷ start) (n ∷ kept) name (zero, below, at) = (0, omega arith, at)
made_of_log (r ∷ start) (n ∷ kept) name (suc k, below, at) =
    named_later (cut_name r.head.name) name (map (λ r. cut_name r.head.name) start) (made_of_log start kept name (k, omega (arith, below), at))

pub cuts_work : OpensGroups → CutsWork
cuts_work opens process event pairs folder h =
    let group = opens folder pairs h.group in
    let start = group.0 in
    let ls_of = result_follows (loaded_pairs folder [] pairs) (λ ls. and_then (replays_of ls) (λ rs. Ok (sort_replays [] rs))) start group.1 in
    let ls = ls_of.given in
    let has = h.event_is start group.1 in
    let lengths : Lengths = record { kept = least_past start has.node event; accepted = accepted_counts start } in
    let count : slice_index_or (accepted_counts start) has.node 0 ≡ length (entries_ahead has.replay) =
    get_or_from_slice_get (accepted_counts start) has.node (length (entries_ahead has.replay)) 0 (slice_get-map (λ r. length (entries_ahead r)) start has.node ∙ ap (option_map (λ r. length (entries_ahead r))) has.is) in
    let within : event ≤ slice_index_or (accepted_counts start) has.node 0 = subst (λ (n : ℕ). event ≤ n) (sym count) has.within in
    let found : cut_of_replays pairs ls process event start ≡ Ok (cut_work start lengths) =
    ap (unless_other_process pairs ls process event start) has.at
    ∙ ap (λ (b : Bool). unless_few_events (log_file pairs ls process) start (cond b (Some lengths) None)) (le-leb event (slice_index_or (accepted_counts start) has.node 0) within) in
    let kept = apart_goes_on (names_of_pairs pairs) (map (λ file. file.0) (cut_files start lengths.kept)) (λ name here there. h.apart start group.1 name here (made_of_log start lengths.kept name there)) in (
      cut_work start lengths,
      opened process event folder pairs ls start ls_of.is_given group.1 ∙ apart_works (names_of_pairs pairs) (cut_of_replays pairs ls process event start) (cut_work start lengths) found kept,
    )
