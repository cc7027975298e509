-- The files of a whole group have an outcome that is work.
use Rattle.std.proofs.Common.{◌≡◌, ◌∙◌, ◌+◌, ◌≤◌, ℕ, Bool, true, false, not, cond, List, [], ◌∷◌, length, map, Some, None, Ok, Err, ap, refl, sym, subst}
use Rattle.std.specs.Prelude.{IsTrue, nat_le, position}
use Rattle.std.specs.List.{AllByRecursion, position_from}
use Rattle.std.proofs.lemmas.Bool.{le-leb}
use Rattle.std.proofs.lemmas.Iterator.Adapters.{position_from-zero}
use Rattle.std.proofs.lemmas.List.Elements.{recursion_from_All}
use Rattle.fri_outside.specs.Outside.{Folder}
use Rattle.proc_replay.specs.Replaying.{Replaying}
use Rattle.schedule_text.specs.Limits.{most_runs, most_schedule}
use Rattle.schedule_text.specs.Schedule.{is_module_name}
use Rattle.schedule_text.specs.Text.{text_of}
use Rattle.schedule_text.specs.declared.process.ProcessLine.{ProcessLine}
use Rattle.guest_process.specs.declared.verdict.Verdict.{Verdict}
use Rattle.guest_process.specs.declared.verdict.Verdict.TheVariants.{Whole}
use Rattle.group_state.specs.Place.{events_of_replays}
use Rattle.group_state.specs.Report.{verdict_on}
use Rattle.schedule_back.specs.Back.{back}
use Rattle.schedule_back.specs.Outcome.{BadModuleName, NotWhole, TooLong, TooManyEvents, first_bad_name, first_not_whole, is_whole, refuse_where, text_or_refusal, text_within}
use Rattle.command_run.specs.Outcome.{and_then, refuses_at_once}
use Rattle.command_run.specs.OutcomeLaws.{result_follows}
use Rattle.command_run.specs.declared.refusal.Reason.TheVariants as reason
use Rattle.log_pairs.specs.Laws.{OpensGroups}
use Rattle.log_pairs.specs.Pairs.{Loaded, Pair, loaded_pairs, replays_of, sort_replays}
use Rattle.schedule_command.specs.Laws.{SchedulesWork}
use Rattle.log_pairs.specs.Finding.{first_log}
use Rattle.schedule_command.specs.Schedule.{lines_of_replays, outcome_of_text, prints_text}
use Rattle.schedule_command.proofs.WholeGroup.{HasPair, module_file_is}
use Rattle.schedule_command.proofs.NoFileMade.{opened}
use Rattle.schedule_command.proofs.ReadPairs.{AllApart, AreRead, all_begin, all_read, pair_of_replay}
use Rattle.schedule_command.proofs.RecordedAgain.{all_by_place, at_place}
use Rattle.schedule_command.proofs.SortedReplays.{sort_keeps}

-- ---- none is found that fails

none_from : {A : Type 0} (p : A → Bool) (i : ℕ) (xs : List A) → AllByRecursion (λ x. p x ≡ false) xs → position_from p i xs ≡ None
none_from p i [] all = refl
none_from p i (x ∷ xs) all = ap (λ b. cond b (Some i) (position_from p (i + 1) xs)) all.0 ∙ none_from p (i + 1) xs all.1

none_found : {A : Type 0} (p : A → Bool) (xs : List A) → AllByRecursion (λ x. p x ≡ false) xs → position p xs ≡ None
none_found p xs all = position_from-zero p xs ∙ none_from p 0 xs all

whole_verdicts : (start : List Replaying) → AllByRecursion (λ (r : Replaying). verdict_on r ≡ Whole) start → AllByRecursion (λ (v : Verdict). not (is_whole v) ≡ false) (map verdict_on start)
whole_verdicts [] all = tt
whole_verdicts (r ∷ rs) all = (ap (λ (v : Verdict). not (is_whole v)) all.0, whole_verdicts rs all.1)

-- ---- the names

named : (folder : Folder) (pairs : List Pair) (ls : List Loaded) → AllApart ls → AllByRecursion (λ (pair : Pair). IsTrue (is_module_name pair.module_name)) pairs
    → (rs : List Replaying) → AllByRecursion (HasPair folder pairs ls) rs → AllByRecursion (λ (line : ProcessLine). not (is_module_name line.«module») ≡ false) (lines_of_replays pairs ls rs)
named folder pairs ls apart names [] ofs = tt
named folder pairs ls apart names (r ∷ rs) ofs =
    let at = ofs.0.1 in
    let good : is_module_name at.pair.module_name ≡ true = at_place (λ (pair : Pair). IsTrue (is_module_name pair.module_name)) pairs names ofs.0.0 at.pair at.pair_at in
    (ap (λ name. not (is_module_name name)) (module_file_is folder pairs ls r ofs.0.0 apart at) ∙ ap not good, named folder pairs ls apart names rs ofs.1)

-- ---- the text

text_is : (lines : List ProcessLine) (start : List Replaying) → first_not_whole start ≡ None → first_bad_name lines ≡ None → length (events_of_replays start) ≤ most_runs → length (text_of (back lines start)) ≤ most_schedule
    → text_or_refusal lines start ≡ Ok (text_of (back lines start))
text_is lines start whole names few short =
    let text = text_of (back lines start) in
    let counted = cond (nat_le (length (events_of_replays start)) most_runs) (text_within text) (Err TooManyEvents) in
    ap (λ o. refuse_where NotWhole o (refuse_where BadModuleName (first_bad_name lines) counted)) whole
    ∙ ap (λ o. refuse_where BadModuleName o counted) names
    ∙ ap (λ b. cond b (text_within text) (Err TooManyEvents)) (le-leb (length (events_of_replays start)) most_runs few)
    ∙ ap (λ b. cond b (Ok text) (Err TooLong)) (le-leb (length text) most_schedule short)

pub schedules_work : OpensGroups → SchedulesWork
schedules_work opens pairs folder h =
    let open_group = opens folder pairs h.group in
    let start = open_group.0 in
    let ls_of = result_follows (loaded_pairs folder [] pairs) (λ ls. and_then (replays_of ls) (λ rs. Ok (sort_replays [] rs))) start open_group.1 in
    let ls = ls_of.given in
    let o = opened folder pairs ls start ls_of.is_given open_group.1 in
    let are = h.whole ls start ls_of.is_given open_group.1 in
    let read = all_read folder [] pairs ls ls_of.is_given in
    let are_read : AreRead folder pairs ls = subst (AreRead folder pairs) (sym read.split) read.read in
    let apart : AllApart ls = subst AllApart (sym read.split) read.apart in
    let begin = all_begin ls o.rs o.begun in
    let ofs : AllByRecursion (HasPair folder pairs ls) start = subst (AllByRecursion (HasPair folder pairs ls)) o.sorted
    (sort_keeps (HasPair folder pairs ls) [] o.rs tt (all_by_place (HasPair folder pairs ls) o.rs (λ i r at. (i, pair_of_replay folder pairs ls o.rs are_read begin i r at)))) in
    let lines = lines_of_replays pairs ls start in
    let text = text_of (back lines start) in
    let whole = none_found (λ v. not (is_whole v)) (map verdict_on start) (whole_verdicts start (recursion_from_All (λ (r : Replaying). verdict_on r ≡ Whole) start are.whole)) in
    let names = none_found (λ line. not (is_module_name line.«module»)) lines (named folder pairs ls apart (recursion_from_All (λ (pair : Pair). IsTrue (is_module_name pair.module_name)) pairs h.names) start ofs) in (
      prints_text text,
      o.outcome
          ∙ ap (λ b. cond b (outcome_of_text pairs ls (text_or_refusal lines start)) (Err (refuses_at_once (first_log pairs) reason.Incomplete))) are.complete
          ∙ ap (outcome_of_text pairs ls) (text_is lines start whole names are.few are.short),
    )
