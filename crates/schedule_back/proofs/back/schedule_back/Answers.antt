use Rattle.std.proofs.Common.{◌≡◌, ◌∙◌, ◌≤◌, None, ap, arith, length, subst, sym}
use Rattle.std.specs.Prelude.{List, MatchResult, Ok}
use Rattle.proc_replay.specs.Replaying.{Replaying}
use Rattle.schedule_text.specs.Limits.{most_runs}
use Rattle.group_state.specs.Place.{GroupPlace, events_of_replays}
use Rattle.schedule_back.specs.Outcome.{first_not_whole, text_or_refusal}
use Rattle.schedule_back.specs.Meanings.{IsBackError}
use Rattle.schedule_back.specs.inside.Draft.{IsDraft}
use Rattle.schedule_back.proofs.DraftOutcome.{answers}
use Rattle.schedule_back.proofs.back.schedule_back.Goals as goal

pub returns-clause-answer : goal.returns-clause-answer
returns-clause-answer c =
    let lines = c.args.lines.now in
    let start = c.args.replayers.items in
    let begun : c.in_ok-group.group.start ≡ start = ap (λ (p : GroupPlace). p.start) c.in_ok-group.ensures in
    let walked : c.walk.new.group.start ≡ start = c.in_ok-draft-2.ensures.start ∙ begun in
    let whole : first_not_whole start ≡ None = ap first_not_whole (sym walked) ∙ sym c.first_not_whole.ensures ∙ c.in_default.is in
    let draft : IsDraft lines (events_of_replays start) c.in_ok-draft-2.draft = subst (λ (rs : List Replaying). IsDraft lines (events_of_replays rs) c.in_ok-draft-2.draft) begun (c.in_ok-draft-2.ensures.draft lines c.in_ok-draft.ensures) in
    let count : c.position.result ≡ length (events_of_replays start) = c.position.ensures.position ∙ c.in_ok-draft-2.ensures.end ∙ ap (λ (rs : List Replaying). length (events_of_replays rs)) begun in
    let few : length (events_of_replays start) ≤ most_runs = omega (arith, c.if-position-gt-MOST_RUNS.false, count) in
    subst (λ r. MatchResult r (λ text. text_or_refusal lines start ≡ Ok text) (IsBackError (text_or_refusal lines start))) (sym c.ok_or.ensures.value)
    (answers lines start c.in_ok-draft-2.draft whole (sym c.first_bad_name.ensures ∙ c.in_default-first_bad_name.is) few draft)
