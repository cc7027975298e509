-- A schedule that was made records to the logs.
use Rattle.std.proofs.Common.{◌≡◌, ◌∙◌, ℕ, Bool, true, false, cond, List, [], Result, Ok, Err, ap, refl, subst, sym}
use Rattle.std.specs.Prelude.{All, IfOk, MatchResult}
use Rattle.fri_outside.specs.Outside.{Folder}
use Rattle.call_log.specs.Laws.{ExactLogs, RewrittenIsRead}
use Rattle.guest_process.specs.OneEvent.{IsStarted}
use Rattle.proc_replay.specs.AtHead.{IsAtHead}
use Rattle.proc_replay.specs.Replaying.{Replaying}
use Rattle.schedule_text.specs.Laws.{TextIsRead}
use Rattle.group_state.specs.Place.{AreGroupReplays, events_of_replays}
use Rattle.schedule_back.specs.Laws.{Converse}
use Rattle.schedule_back.specs.Outcome.{BackRefusal, text_or_refusal}
use Rattle.schedule_back.specs.Meanings.{IncomingAreBytes}
use Rattle.command_run.specs.declared.refusal.WorkText.{WorkText}
use Rattle.command_run.specs.declared.refusal.WorkText.TheVariants as answered
use Rattle.command_run.specs.declared.refusal.Reason.TheVariants as reason
use Rattle.command_run.specs.declared.refusal.StopCause.{StopCause as Refused}
use Rattle.command_run.specs.Call.{StopsAsCause}
use Rattle.command_run.specs.Laws.{ReadsModules}
use Rattle.command_run.specs.Outcome.{CommandOutcome, CommandStop, refuses_at_once}
use Rattle.log_pairs.specs.Pairs.{Loaded, Pair, loaded_pairs, replays_of_pairs, sort_replays}
use Rattle.log_pairs.specs.Finding.{first_log}
use Rattle.schedule_command.specs.Schedule.{is_complete, lines_of_replays, outcome_of_text, prints_text, unless_incomplete}
use Rattle.schedule_command.specs.Meanings.{AnswerRecordsBack}
use Rattle.schedule_command.specs.inside.Meanings.{IsScheduleText}
use Rattle.schedule_command.proofs.RecordedAgain.{records_back}
use Rattle.schedule_command.proofs.NoFileMade.{opened}

text_in : CommandOutcome → List ℕ
text_in (Ok work) = work.text
text_in (Err stop) = []

-- what the text of a schedule that was made says of the logs
whole_of : (b : Bool) (pairs : List Pair) (ls : List Loaded) (given : Result (List ℕ) BackRefusal) (stop : CommandStop) (text : List ℕ)
    → cond b (outcome_of_text pairs ls given) (Err stop) ≡ Ok (prints_text text) → (b ≡ true) × (given ≡ Ok text)
unfolding text_in
whole_of true pairs ls (Ok given) stop text is = (refl, ap Ok (ap text_in is))
whole_of true pairs ls (Err why) stop text is = absurd (cc)
whole_of false pairs ls given stop text is = absurd (cc)

pub made_back : ExactLogs → RewrittenIsRead → ReadsModules → TextIsRead → IsStarted → Converse → (folder : Folder) (pairs : List Pair) (ls : List Loaded) (start : List Replaying) (ended : Result WorkText Refused)
    → loaded_pairs folder [] pairs ≡ Ok ls → replays_of_pairs folder pairs ≡ Ok start → AreGroupReplays start → All IsAtHead start → IfOk ended (λ _. IncomingAreBytes (events_of_replays start))
    → MatchResult ended (IsScheduleText pairs ls start) (StopsAsCause (unless_incomplete pairs ls start)) → IfOk ended (AnswerRecordsBack pairs folder)
made_back exact again reads read_back started converse folder pairs ls start (Err e) loaded is replayers at_heads bytes made = tt
made_back exact again reads read_back started converse folder pairs ls start (Ok (answered.Diverged text)) loaded is replayers at_heads bytes made = absurd made
made_back exact again reads read_back started converse folder pairs ls start (Ok (answered.Done text)) loaded is replayers at_heads bytes made =
    let o = opened folder pairs ls start loaded is in
    let back : (rs : List Replaying) → rs ≡ start → AreGroupReplays rs × All IsAtHead rs × IncomingAreBytes (events_of_replays rs) × (unless_incomplete pairs ls rs ≡ Ok (prints_text text)) =
    λ rs same. (subst AreGroupReplays (sym same) replayers, subst (λ (rs : List Replaying). All IsAtHead rs) (sym same) at_heads, subst (λ (rs : List Replaying). IncomingAreBytes (events_of_replays rs)) (sym same) bytes, ap (unless_incomplete pairs ls) same ∙ made) in
    let known = back (sort_replays [] o.rs) o.sorted in
    let whole = whole_of (is_complete (sort_replays [] o.rs)) pairs ls (text_or_refusal (lines_of_replays pairs ls (sort_replays [] o.rs)) (sort_replays [] o.rs)) (refuses_at_once (first_log pairs) reason.Incomplete) text known.3 in
    records_back exact again reads read_back started converse folder pairs ls o.rs loaded o.begun known.0 known.1 whole.0 text whole.1 known.2
