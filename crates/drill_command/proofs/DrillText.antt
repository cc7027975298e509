-- The text of the drill is that of the whole run.
use Rattle.std.proofs.Common.{◌≡◌, ◌∙◌, ℕ, List, Result, Ok, Err, IfOk, ap}
use Rattle.proc_replay.specs.Replaying.{Replaying}
use Rattle.group_state.specs.Place.{GroupPlace}
use Rattle.group_record.specs.Run.{RunStep}
use Rattle.drill_command.specs.declared.recording.Recording.{Recording}
use Rattle.drill_command.specs.declared.watching.Watched.{Watched}
use Rattle.drill_command.specs.Drill.{drill_group, drill_run, drill_text, drill_work, replays_of_logs}
use Rattle.drill_command.specs.inside.Results.{HoldLogs, HasAllRounds, IsWatchedDrill}

tells : (rounds : ℕ) (recording : Recording) → HasAllRounds rounds recording
    → (replayers : List Replaying) → ((steps : List RunStep) → HoldLogs steps recording.files → replayers ≡ replays_of_logs drill_group steps)
    → (group : GroupPlace) → group ≡ record { start = replayers; at = 0 }
    → (watched : Watched) → IsWatchedDrill group.start watched
    → (text : List ℕ) → ((start : List Replaying) → IsWatchedDrill start watched → text ≡ drill_text rounds recording.idle start) → text ≡ (drill_work rounds (drill_run rounds)).text
tells rounds recording is replayers are group begun watched walked text printed =
    let steps = (drill_run rounds).steps in
    let here : group.start ≡ replays_of_logs drill_group steps = ap (λ (g : GroupPlace). g.start) begun ∙ are steps is.logs in
    printed group.start walked ∙ ap (drill_text rounds recording.idle) here ∙ ap (λ (idle : ℕ). drill_text rounds idle (replays_of_logs drill_group steps)) is.idle

pub tells_if : {E : Type 0} (rounds : ℕ) (recording : Recording) → HasAllRounds rounds recording
    → (replayers : List Replaying) → ((steps : List RunStep) → HoldLogs steps recording.files → replayers ≡ replays_of_logs drill_group steps)
    → (group : GroupPlace) → group ≡ record { start = replayers; at = 0 }
    → (watched : Watched) → IsWatchedDrill group.start watched
    → (printed : Result (List ℕ) E) → IfOk printed (λ text. (start : List Replaying) → IsWatchedDrill start watched → text ≡ drill_text rounds recording.idle start)
    → IfOk printed (λ text. text ≡ (drill_work rounds (drill_run rounds)).text)
tells_if rounds recording is replayers are group begun watched walked (Ok text) printed = tells rounds recording is replayers are group begun watched walked text printed
tells_if rounds recording is replayers are group begun watched walked (Err e) printed = tt
