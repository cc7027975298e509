use Rattle.std.proofs.Common.{◌∙◌, List, ap, sym}
use Rattle.std.specs.Prelude.{option_copied}
use Rattle.call_log.specs.Head.{Head}
use Rattle.wasm_types.specs.Modules.{module_of}
use Rattle.group_record.specs.Run.{RunStep}
use Rattle.drill_command.specs.inside.Results.{HoldLogs}
use Rattle.drill_command.proofs.LogReplays.{begins_as, never_absent, never_headless, opened_as, replay_is}
use Rattle.drill_command.proofs.replays.begin.Goals as goal

pub unreachable-requires : goal.unreachable-requires
unreachable-requires c =
    never_absent c.requires.held.0 c.args.files.now c.requires.held.1 c.args.p c.requires.process c.args.log.now c.requires.log
    (sym c.bytes.ensures ∙ ap option_copied c.in_default.is)

pub unreachable-requires-in_default-begin : goal.unreachable-requires-in_default-begin
unreachable-requires-in_default-begin c =
    never_headless c.requires.held.0 c.args.files.now c.requires.held.1 c.args.p c.requires.process c.args.log.now c.in-Some.bytes.now c.requires.log
    (sym c.bytes.ensures ∙ ap option_copied c.in-Some.is) c.in_default-begin.ensures.missing

pub begin-requires-in-Ok-start-clause-who : goal.begin-requires-in-Ok-start-clause-who
begin-requires-in-Ok-start-clause-who c =
    let read = opened_as c.exact_logs.ensures c.requires.held.0 c.args.files.now c.requires.held.1 c.args.p c.requires.process c.args.log.now c.in-Some.bytes.now c.requires.log
    (sym c.bytes.ensures ∙ ap option_copied c.in-Some.is) c.in-Ok.log.head c.in-Ok.log.left c.in-Ok.ensures.found in
    (c.counting.ensures.begun (module_of c.args.«module».now) c.args.p 4 c.in-Ok-start.process c.in-Ok-start.ensures.ok).who ∙ sym (ap (λ (h : Head). h.process) read.head_is)

pub begin-requires-in-Ok-start-clause-count : goal.begin-requires-in-Ok-start-clause-count
begin-requires-in-Ok-start-clause-count c =
    let read = opened_as c.exact_logs.ensures c.requires.held.0 c.args.files.now c.requires.held.1 c.args.p c.requires.process c.args.log.now c.in-Some.bytes.now c.requires.log
    (sym c.bytes.ensures ∙ ap option_copied c.in-Some.is) c.in-Ok.log.head c.in-Ok.log.left c.in-Ok.ensures.found in
    (c.counting.ensures.begun (module_of c.args.«module».now) c.args.p 4 c.in-Ok-start.process c.in-Ok-start.ensures.ok).count ∙ sym (ap (λ (h : Head). h.count) read.head_is)

pub returns-in_ok-begin-in-Ok-start : goal.returns-in_ok-begin-in-Ok-start
returns-in_ok-begin-in-Ok-start c = (
  c.in-Ok-start.process,
  begins_as (module_of c.args.«module».now) c.args.p c.in-Ok-start.process c.requires.«module» c.in-Ok-start.ensures.ok,
  λ (steps : List RunStep) (holds : HoldLogs steps c.args.files.now).
      c.in_ok-begin-in-Ok-start.ensures
      ∙ replay_is steps c.args.p c.in-Ok-start.process c.in-Ok.log.head c.in-Ok.log.left
      (opened_as c.exact_logs.ensures steps c.args.files.now holds c.args.p c.requires.process c.args.log.now c.in-Some.bytes.now c.requires.log
      (sym c.bytes.ensures ∙ ap option_copied c.in-Some.is) c.in-Ok.log.head c.in-Ok.log.left c.in-Ok.ensures.found),
)
