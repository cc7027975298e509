use Rattle.std.proofs.Common.{◌≡◌, ℕ, Option, Some, sym, ◌∙◌, subst}
use Rattle.std.specs.Prelude.{IfSome}
use Rattle.wasm_types.specs.Modules.{module_of}
use Rattle.guest_module.specs.Start.{IsOwnPlain}
use Rattle.wasm_step.proofs.first.first.Goals as goal

-- the one that is there
some_is : {x y : ℕ} → Some x ≡ Some y → x ≡ y
some_is e = cc

pub own-requires-in-Some : goal.own-requires-in-Some
own-requires-in-Some c =
    let m = module_of c.args.«module».now in
    (subst (λ (o : Option ℕ). IfSome o (λ f. IsOwnPlain m f)) c.in-Some.is c.start-found.ensures.plain).there

pub returns-clause-entry : goal.returns-clause-entry
returns-clause-entry c = λ f e.
    subst (λ f. IsOwnPlain (module_of c.args.«module».now) f) (some_is (sym c.entry-entry.ensures.is ∙ e)) c.entry-entry.ensures.plain

pub returns-clause-start : goal.returns-clause-start
returns-clause-start c = λ f e.
    subst (λ (o : Option ℕ). IfSome o (λ f. IsOwnPlain (module_of c.args.«module».now) f)) (c.start-found.ensures.is ∙ e) c.start-found.ensures.plain
