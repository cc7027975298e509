use Rattle.std.proofs.Common.{◌≡◌, ◌-◌, ◌≤◌, ℕ, Bool, cond, [], length, ap, subst, ◌∙◌, arith}
use Rattle.std.specs.Prelude.{IfOk}
use Rattle.std.proofs.lemmas.Bool.{le-leb}
use Rattle.group_state.specs.Place.{events_of_replays}
use Rattle.shell_lines.specs.declared.refusal.LineRefusal.TheVariants as refusal
use Rattle.friday_shell.specs.Answer.{arrives_at_position, refuses_line}
use Rattle.friday_shell.specs.inside.Meanings.{PerformsCommand, state_with}
use Rattle.friday_shell.proofs.answer.back.Goals as goal

pub returns : goal.returns
returns c = λ kept.
    let state = state_with c.args.group.now kept in
    let k = c.saturating_sub-position.result in
    let same : k ≡ c.args.group.now.at - c.args.count = c.saturating_sub-position.ensures ∙ ap (λ (p : ℕ). p - c.args.count) c.position.ensures.position in
    let below : k ≤ length (events_of_replays c.args.group.now.start) = omega (arith, same, c.position.ensures.within) in
    let moved = subst (λ (b : Bool). IfOk c.go_to.result (PerformsCommand (cond b (arrives_at_position state [] k) (refuses_line state refusal.NoPosition)) (state_with c.go_to.new.group kept)))
    (le-leb _ _ below) (c.go_to.ensures kept) in
    subst (λ (p : ℕ). IfOk c.go_to.result (PerformsCommand (arrives_at_position state [] p) (state_with c.go_to.new.group kept))) same moved
