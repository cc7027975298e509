use Rattle.std.proofs.Common.{ap, sym, ◌∙◌, subst}
use Rattle.wasm_types.specs.declared.modules.Module.{Module as RustModule}
use Rattle.wasm_types.specs.Modules.{module_of}
use Rattle.guest_module.specs.Valid.{IsValid}
use Rattle.wasm_step.specs.declared.run.Stopped.{Stopped}
use Rattle.wasm_step.specs.inside.Paused.{stopped_of}
use Rattle.wasm_step.specs.Fits.{HaltFits}
use Rattle.wasm_step.specs.inside.Standing.{StandsFit}
use Rattle.wasm_step.specs.Strand.{Strand}
use Rattle.wasm_stack.specs.Thread.{Thread}
use Rattle.wasm_step.proofs.BurstsFit.{leaving, never_sticks}
use Rattle.wasm_step.proofs.strand.Strand.run.Goals as goal

pub run-requires-clause-never_sticks : goal.run-requires-clause-never_sticks
run-requires-clause-never_sticks c =
    let fits = subst (λ (t : Thread). StandsFit (module_of c.self.inside.«module».now) t c.self.inside.call) (sym c.deref_mut.ensures.value) c.self.invariant in
    never_sticks c.types_agree.ensures (module_of c.self.inside.«module».now) c.deref_mut.result.now c.args.store.now c.self.inside.call (subst (λ (m : RustModule). IsValid (module_of m)) c.module.ensures.same c.module.ensures.valid) (ap (λ (s : Strand). s.«module») c.self.view_is ∙ c.requires.same_module) c.requires.suits fits (ap (λ (s : Strand). s.call) c.self.view_is ∙ c.requires.runs)

pub unreachable-requires : goal.unreachable-requires
unreachable-requires c =
    let fits = subst (λ (t : Thread). StandsFit (module_of c.self.inside.«module».now) t c.self.inside.call) (sym c.deref_mut.ensures.value) c.self.invariant in
    let left = leaving c.types_agree.ensures (module_of c.self.inside.«module».now) c.deref_mut.result.now c.run.new.thread c.args.store.now c.run.new.store c.in_ok-site.field-0 c.self.inside.call c.in_ok-site.ensures (subst (λ (m : RustModule). IsValid (module_of m)) c.module.ensures.same c.module.ensures.valid) (ap (λ (s : Strand). s.«module») c.self.view_is ∙ c.requires.same_module) c.requires.suits fits (ap (λ (s : Strand). s.call) c.self.view_is ∙ c.requires.runs) in
    subst (λ (stopped : Stopped). HaltFits (module_of c.self.inside.«module».now) (stopped_of stopped c.run.new.thread)) c.in-Stuck.is left.stop

pub invariant_of-strand : goal.invariant_of-strand
invariant_of-strand c =
    let fits = subst (λ (t : Thread). StandsFit (module_of c.self.inside.«module».now) t c.self.inside.call) (sym c.deref_mut.ensures.value) c.self.invariant in
    let left = leaving c.types_agree.ensures (module_of c.self.inside.«module».now) c.deref_mut.result.now c.run.new.thread c.args.store.now c.run.new.store c.in_ok-site.field-0 c.self.inside.call c.in_ok-site.ensures (subst (λ (m : RustModule). IsValid (module_of m)) c.module.ensures.same c.module.ensures.valid) (ap (λ (s : Strand). s.«module») c.self.view_is ∙ c.requires.same_module) c.requires.suits fits (ap (λ (s : Strand). s.call) c.self.view_is ∙ c.requires.runs) in
    (subst (λ (stopped : Stopped). HaltFits (module_of c.self.inside.«module».now) (stopped_of stopped c.run.new.thread)) c.in-Calling.is left.stop).1

pub returns-in-Calling-clause-suits : goal.returns-in-Calling-clause-suits
returns-in-Calling-clause-suits c =
    let fits = subst (λ (t : Thread). StandsFit (module_of c.self.inside.«module».now) t c.self.inside.call) (sym c.deref_mut.ensures.value) c.self.invariant in
    let left = leaving c.types_agree.ensures (module_of c.self.inside.«module».now) c.deref_mut.result.now c.run.new.thread c.args.store.now c.run.new.store c.in_ok-site.field-0 c.self.inside.call c.in_ok-site.ensures (subst (λ (m : RustModule). IsValid (module_of m)) c.module.ensures.same c.module.ensures.valid) (ap (λ (s : Strand). s.«module») c.self.view_is ∙ c.requires.same_module) c.requires.suits fits (ap (λ (s : Strand). s.call) c.self.view_is ∙ c.requires.runs) in
    left.suits

pub returns-in-Calling-clause-same_module : goal.returns-in-Calling-clause-same_module
returns-in-Calling-clause-same_module c =
    let fits = subst (λ (t : Thread). StandsFit (module_of c.self.inside.«module».now) t c.self.inside.call) (sym c.deref_mut.ensures.value) c.self.invariant in
    let left = leaving c.types_agree.ensures (module_of c.self.inside.«module».now) c.deref_mut.result.now c.run.new.thread c.args.store.now c.run.new.store c.in_ok-site.field-0 c.self.inside.call c.in_ok-site.ensures (subst (λ (m : RustModule). IsValid (module_of m)) c.module.ensures.same c.module.ensures.valid) (ap (λ (s : Strand). s.«module») c.self.view_is ∙ c.requires.same_module) c.requires.suits fits (ap (λ (s : Strand). s.call) c.self.view_is ∙ c.requires.runs) in
    left.same_module ∙ ap (λ (s : Strand). s.«module») c.self.view_is

pub returns-in-Ended-clause-suits : goal.returns-in-Ended-clause-suits
returns-in-Ended-clause-suits c =
    let fits = subst (λ (t : Thread). StandsFit (module_of c.self.inside.«module».now) t c.self.inside.call) (sym c.deref_mut.ensures.value) c.self.invariant in
    let left = leaving c.types_agree.ensures (module_of c.self.inside.«module».now) c.deref_mut.result.now c.run.new.thread c.args.store.now c.run.new.store c.in_ok-site.field-0 c.self.inside.call c.in_ok-site.ensures (subst (λ (m : RustModule). IsValid (module_of m)) c.module.ensures.same c.module.ensures.valid) (ap (λ (s : Strand). s.«module») c.self.view_is ∙ c.requires.same_module) c.requires.suits fits (ap (λ (s : Strand). s.call) c.self.view_is ∙ c.requires.runs) in
    left.suits

pub returns-in-Ended-clause-same_module : goal.returns-in-Ended-clause-same_module
returns-in-Ended-clause-same_module c =
    let fits = subst (λ (t : Thread). StandsFit (module_of c.self.inside.«module».now) t c.self.inside.call) (sym c.deref_mut.ensures.value) c.self.invariant in
    let left = leaving c.types_agree.ensures (module_of c.self.inside.«module».now) c.deref_mut.result.now c.run.new.thread c.args.store.now c.run.new.store c.in_ok-site.field-0 c.self.inside.call c.in_ok-site.ensures (subst (λ (m : RustModule). IsValid (module_of m)) c.module.ensures.same c.module.ensures.valid) (ap (λ (s : Strand). s.«module») c.self.view_is ∙ c.requires.same_module) c.requires.suits fits (ap (λ (s : Strand). s.call) c.self.view_is ∙ c.requires.runs) in
    left.same_module ∙ ap (λ (s : Strand). s.«module») c.self.view_is

pub returns-in-Trapped-clause-suits : goal.returns-in-Trapped-clause-suits
returns-in-Trapped-clause-suits c =
    let fits = subst (λ (t : Thread). StandsFit (module_of c.self.inside.«module».now) t c.self.inside.call) (sym c.deref_mut.ensures.value) c.self.invariant in
    let left = leaving c.types_agree.ensures (module_of c.self.inside.«module».now) c.deref_mut.result.now c.run.new.thread c.args.store.now c.run.new.store c.in_ok-site.field-0 c.self.inside.call c.in_ok-site.ensures (subst (λ (m : RustModule). IsValid (module_of m)) c.module.ensures.same c.module.ensures.valid) (ap (λ (s : Strand). s.«module») c.self.view_is ∙ c.requires.same_module) c.requires.suits fits (ap (λ (s : Strand). s.call) c.self.view_is ∙ c.requires.runs) in
    left.suits

pub returns-in-Trapped-clause-same_module : goal.returns-in-Trapped-clause-same_module
returns-in-Trapped-clause-same_module c =
    let fits = subst (λ (t : Thread). StandsFit (module_of c.self.inside.«module».now) t c.self.inside.call) (sym c.deref_mut.ensures.value) c.self.invariant in
    let left = leaving c.types_agree.ensures (module_of c.self.inside.«module».now) c.deref_mut.result.now c.run.new.thread c.args.store.now c.run.new.store c.in_ok-site.field-0 c.self.inside.call c.in_ok-site.ensures (subst (λ (m : RustModule). IsValid (module_of m)) c.module.ensures.same c.module.ensures.valid) (ap (λ (s : Strand). s.«module») c.self.view_is ∙ c.requires.same_module) c.requires.suits fits (ap (λ (s : Strand). s.call) c.self.view_is ∙ c.requires.runs) in
    left.same_module ∙ ap (λ (s : Strand). s.«module») c.self.view_is
