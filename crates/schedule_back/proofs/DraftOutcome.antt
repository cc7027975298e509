-- The outcome of a draft of all events.
use Rattle.std.proofs.Common.{◌≡◌, ◌∙◌, ◌≤◌, ℕ, cond, List, length, Option, Some, None, Ok, Err, ap, sym, subst}
use Rattle.std.specs.Prelude.{MatchResult, nat_le}
use Rattle.std.specs.Option.{ok_or}
use Rattle.std.proofs.lemmas.Bool.{le-leb, lt-leb}
use Rattle.schedule_text.specs.Limits.{most_runs, most_schedule}
use Rattle.schedule_text.specs.Text.{text_of}
use Rattle.schedule_text.specs.declared.process.ProcessLine.{ProcessLine}
use Rattle.proc_replay.specs.Replaying.{Replaying}
use Rattle.group_state.specs.Place.{events_of_replays}
use Rattle.schedule_back.specs.declared.refusal.BackError.TheVariants as error
use Rattle.schedule_back.specs.Back.{back}
use Rattle.schedule_back.specs.Outcome.{BadModuleName, NotWhole, TooLong, TooManyEvents, first_bad_name, first_not_whole, refuse_where, text_or_refusal, text_within}
use Rattle.schedule_back.specs.Meanings.{IsBackError}
use Rattle.schedule_back.specs.inside.Draft.{IsDraft}

-- where nothing else is refused, the text decides
text_decides : (lines : List ProcessLine) (start : List Replaying) → first_not_whole start ≡ None → first_bad_name lines ≡ None → length (events_of_replays start) ≤ most_runs
    → text_or_refusal lines start ≡ text_within (text_of (back lines start))
text_decides lines start whole named few =
    let text = text_within (text_of (back lines start)) in
    let counted = cond (nat_le (length (events_of_replays start)) most_runs) text (Err TooManyEvents) in
    ap (λ o. refuse_where NotWhole o (refuse_where BadModuleName (first_bad_name lines) counted)) whole
    ∙ ap (λ o. refuse_where BadModuleName o counted) named
    ∙ ap (λ b. cond b text (Err TooManyEvents)) (le-leb (length (events_of_replays start)) most_runs few)

pub answers : (lines : List ProcessLine) (start : List Replaying) (draft : Option (List ℕ)) → first_not_whole start ≡ None → first_bad_name lines ≡ None → length (events_of_replays start) ≤ most_runs
    → IsDraft lines (events_of_replays start) draft → MatchResult (ok_or draft error.TooLong) (λ text. text_or_refusal lines start ≡ Ok text) (IsBackError (text_or_refusal lines start))
answers lines start (Some text) whole named few is =
    let all = text_of (back lines start) in
    let short = subst (λ (t : List ℕ). length t ≤ most_schedule) is.0 is.1 in
    text_decides lines start whole named few ∙ ap (λ b. cond b (Ok all) (Err TooLong)) (le-leb (length all) most_schedule short) ∙ ap Ok (sym is.0)
answers lines start None whole named few is =
    let all = text_of (back lines start) in
    text_decides lines start whole named few ∙ ap (λ b. cond b (Ok all) (Err TooLong)) (lt-leb (length all) most_schedule is)
