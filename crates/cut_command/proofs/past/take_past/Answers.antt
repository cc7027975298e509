use Rattle.std.proofs.Common.{◌≡◌, Err, List, Ok, Result, map, subst, ℕ}
use Rattle.std.specs.Prelude.{⊤}
use Rattle.std.proofs.lemmas.Result.{err_from_is_err_and}
use Rattle.command_run.specs.Apart.{unless_over_input}
use Rattle.command_run.specs.ApartLaws.{apart_works, clash_stops}
use Rattle.command_run.specs.Call.{StopsAsCause}
use Rattle.command_run.specs.OutcomeLaws.{stops_before_next}
use Rattle.log_pairs.specs.Meanings.{pair_of}
use Rattle.log_pairs.specs.Pairs.{names_of_pairs}
use Rattle.cut_command.specs.declared.fronts.Front.{Front}
use Rattle.cut_command.specs.Cut.{cut_of_replays}
use Rattle.cut_command.specs.inside.Meanings.{front_file, work_of_past}
use Rattle.cut_command.proofs.past.take_past.Goals as goal

pub returns-in_err-past-clause-answer : goal.returns-in_err-past-clause-answer
returns-in_err-past-clause-answer c = λ ls are.
    let p = err_from_is_err_and c.from_residual.result c.from_residual.ensures.1 in
    rw (p.1, p.2) (stops_before_next (cut_of_replays (map pair_of c.args.pairs.now) ls c.args.process c.args.event c.args.replayers.items) _ c.in_err-past.field-0.0 (c.in_err-past.ensures.answer ls are))

pub returns-in_err-past-clause-cause : goal.returns-in_err-past-clause-cause
returns-in_err-past-clause-cause c =
    let p = err_from_is_err_and c.from_residual.result c.from_residual.ensures.1 in
    rw (p.1, p.2) c.in_err-past.ensures.cause

pub returns-in_err-keep_pairs-clause-answer : goal.returns-in_err-keep_pairs-clause-answer
returns-in_err-keep_pairs-clause-answer c = λ ls are.
    let p = err_from_is_err_and c.from_residual-in_err-keep_pairs.result c.from_residual-in_err-keep_pairs.ensures.1 in
    let read = names_of_pairs (map pair_of c.args.pairs.now) in
    let stops = subst (λ (fronts : List Front). StopsAsCause (unless_over_input read (map (λ file. file.0) (map front_file fronts))) c.in_err-keep_pairs.field-0.0) c.deref.ensures.value c.in_err-keep_pairs.ensures.answer in
    rw (p.1, p.2) (clash_stops read (cut_of_replays (map pair_of c.args.pairs.now) ls c.args.process c.args.event c.args.replayers.items) (work_of_past c.in_ok-past.past) c.in_err-keep_pairs.field-0.0 (c.in_ok-past.ensures.answer ls are) stops)

pub returns-in_err-keep_pairs-clause-cause : goal.returns-in_err-keep_pairs-clause-cause
returns-in_err-keep_pairs-clause-cause c =
    let p = err_from_is_err_and c.from_residual-in_err-keep_pairs.result c.from_residual-in_err-keep_pairs.ensures.1 in
    rw (p.1, p.2) c.in_err-keep_pairs.ensures.cause

pub returns-in_err-keep_pairs-clause-still : goal.returns-in_err-keep_pairs-clause-still
returns-in_err-keep_pairs-clause-still c =
    let p = err_from_is_err_and c.from_residual-in_err-keep_pairs.result c.from_residual-in_err-keep_pairs.ensures.1 in
    rw (p.1, p.2) c.in_err-keep_pairs.ensures.still

pub returns-clause-answer : goal.returns-clause-answer
returns-clause-answer c = λ ls are.
    let read = names_of_pairs (map pair_of c.args.pairs.now) in
    let kept = subst (λ (fronts : List Front). unless_over_input read (map (λ file. file.0) (map front_file fronts)) ≡ Ok tt) c.deref.ensures.value c.in_ok-keep_pairs.ensures.answer in
    apart_works read (cut_of_replays (map pair_of c.args.pairs.now) ls c.args.process c.args.event c.args.replayers.items) (work_of_past c.in_ok-past.past) (c.in_ok-past.ensures.answer ls are) kept
