use Rattle.std.proofs.Common.{◌∙◌, arith, ℕ, List, ap, refl}
use Rattle.call_log.specs.declared.version.Version.TheVariants.{Two}
use Rattle.call_log.specs.Head.{head_bytes}
use Rattle.wasm_types.specs.Modules.{module_of}
use Rattle.group_record.specs.Logs.{log_name}
use Rattle.group_record.proofs.member.Member.start.Goals as goal

pub returns-in-Ok : goal.returns-in-Ok
returns-in-Ok c =
    let fresh = c.counting.ensures.begun (module_of c.args.«module».now) c.args.p c.args.count c.in-Ok.process c.in-Ok.ensures.ok in (
      c.in-Ok.process,
      c.in-Ok.ensures.ok,
      record {
        process = refl;
        events = fresh.events;
        group = fresh.count;
        log = c.in_ok-log.ensures ∙ ap log_name c.as_slice.ensures;
        head = c.in_ok-head.ensures ∙ ap (λ (name : List ℕ). head_bytes (record { version = Two; count = c.args.count; process = c.args.p; name = name })) c.as_slice-2.ensures;
        size = omega (arith, c.len.ensures, c.in_ok-head.head.ok.0);
        last = refl;
      },
    )
