use Rattle.std.proofs.Common.{◌≡◌, Bool, length, None, Some, Ok, sym, ap, subst, ◌∙◌, arith}
use Rattle.std.proofs.lemmas.Result.{err_from_is_err_and}
use Rattle.schedule_text.specs.Outcome.{IsScheduleError}
use Rattle.schedule_text.specs.inside.Reader.{TakesLine}
use Rattle.schedule_text.specs.Reading.{with_schedule_line, schedule_of}
use Rattle.schedule_text.proofs.OutcomeLemmas.{read_begins, read_on, read_bad, read_ends}
use Rattle.schedule_text.proofs.read.read_lines.Goals as goal

pub loop-line-init : goal.loop-line-init
loop-line-init c = record {
  so_far = read_begins c.args.bytes.now c.new-lines.result.left c.new-draft.result c.new-lines.ensures.left c.new-draft.ensures;
  counted = omega (arith, ap length c.new-lines.ensures.left);
}

pub returns-then-not-branch : goal.returns-then-not-branch
returns-then-not-branch c =
    let found = with_schedule_line c.loop-line.draft c.in-Some.line.now in
    let refused : found ≡ None = subst (λ (b : Bool). TakesLine (Ok b) c.take_line.new.self found) c.if-not-branch.true c.in_ok-take_line.ensures in
    read_bad (schedule_of c.args.bytes.now) c.loop-line.lines.left c.in-Some.line.now c.next_line.new.from.left c.loop-line.number c.loop-line.draft c.loop-line.invariant.so_far c.in-Some.ensures.lines refused

pub loop-line-preserved : goal.loop-line-preserved
loop-line-preserved c =
    let found = with_schedule_line c.loop-line.draft c.in-Some.line.now in
    let allowed : found ≡ Some c.take_line.new.self = subst (λ (b : Bool). TakesLine (Ok b) c.take_line.new.self found) c.if-not-branch.false c.in_ok-take_line.ensures in
    record {
      so_far = read_on (schedule_of c.args.bytes.now) c.loop-line.lines.left c.in-Some.line.now c.next_line.new.from.left c.loop-line.number c.loop-line.draft c.take_line.new.self c.loop-line.invariant.so_far c.in-Some.ensures.lines allowed;
      counted = omega (arith, c.in-Some.ensures.shorter);
    }

pub returns-in_err-check_end : goal.returns-in_err-check_end
returns-in_err-check_end c =
    let p = err_from_is_err_and c.from_residual-in_err-check_end.result c.from_residual-in_err-check_end.ensures.1 in
    let whole = read_ends (schedule_of c.args.bytes.now) c.loop-line.lines.left c.loop-line.number c.loop-line.draft c.loop-line.invariant.so_far c.in_default.ensures.lines in
    rw (p.1, p.2) (subst (IsScheduleError c.in_err-check_end.field-0.0) (sym whole) c.in_err-check_end.ensures)

pub returns : goal.returns
returns c =
    read_ends (schedule_of c.args.bytes.now) c.loop-line.lines.left c.loop-line.number c.loop-line.draft c.loop-line.invariant.so_far c.in_default.ensures.lines ∙ c.in_ok-check_end.ensures
