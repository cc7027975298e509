use Rattle.std.proofs.Common.{None, refl, ap, sym, subst, ◌∙◌}
use Rattle.coop_threads.specs.Crew.{empty, with_live}
use Rattle.wasm_types.specs.Modules.{Module, module_of}
use Rattle.guest_module.specs.Valid.{IsValid}
use Rattle.wasm_step.specs.Strand.{Strand}
use Rattle.guest_process.specs.declared.body.Body.{Body}
use Rattle.guest_process.specs.declared.end.End.TheVariants.{Running}
use Rattle.guest_process.specs.inside.Meanings.{BodyInvariant}
use Rattle.guest_process.specs.Start.{waits_at_begin}
use Rattle.guest_process.proofs.FirstState.{is_process}
use Rattle.guest_process.proofs.process.begin.Goals as goal

pub invariant_of-result : goal.invariant_of-result
invariant_of-result c =
    let m = module_of c.args.«module».now in
    let s = c.in_ok-strand.strand in
    let same_module = ap {A = Module} {B = Strand} (λ m. record { «module» = m; thread = s.thread; call = s.call }) c.in_ok-strand.ensures.same_module in
    let call = ap {B = Strand} (λ o. record { «module» = m; thread = s.thread; call = o }) c.in_ok-strand.ensures.call in
    let waiting = c.beginning.ensures ∙ ap waits_at_begin (same_module ∙ call) in
    let crew = c.in-Ok.ensures.ok ∙ ap (λ crew. with_live crew c.beginning.result) c.new-crew.ensures ∙ ap (with_live empty) waiting in
    let valid = subst (λ r. IsValid (module_of r)) c.module.ensures.same c.module.ensures.valid in
    let frames = c.new-3.ensures ∙ c.new-2.ensures.items in
    let p : Body = record {
      alloc = c.args.alloc;
      «module» = c.args.«module»;
      who = c.args.who;
      count = c.args.count;
      store = c.begin_event.new.self;
      crew = c.spawn.new.self;
      handlers = c.new.result;
      clock = 0;
      events = 0;
      last_thread = None;
      end = Running;
      trap_frames = c.new-3.result;
    } in
    subst BodyInvariant (sym c.in_ok-body.ensures.ok) (is_process c.stamps_no_later.ensures.written c.stamps_no_later.ensures.fresh p c.args.store s.thread c.requires.who c.requires.count c.requires.store valid c.requires.suits (rw (c.begin_event.ensures, crew, c.new.ensures, frames) refl))
