use Rattle.std.proofs.Common.{◌≡◌, ℕ, not, nat_lt, nat_eq, length, map, refl, sym, ap, ◌∙◌, arith}
use Rattle.std.proofs.lemmas.Bool.Decides.{nat_tests}
use Rattle.std.proofs.lemmas.Simd.{map-map}
use Rattle.wasm_types.specs.Modules.{global_def, global_type}
use Rattle.wasm_typing.specs.inside.Views.{global_of}
use Rattle.wasm_typing.proofs.context.Context.new.Goals as goal

some_there : (n : ℕ) → not (nat_eq n 0) ≡ nat_lt 0 n
some_there n = grind (arith, nat_tests)

pub returns : goal.returns
returns c =
    let m = c.args.«module».now in
    let globals : map global_of c.deref-2.result.now ≡ map global_type (map global_def m.globals.items) =
    ap (map global_of) c.deref-2.ensures.value ∙ sym (map-map global_type global_def m.globals.items) in
    let tables : not c.is_empty.result ≡ nat_lt 0 (length m.tables.items) =
    ap not c.is_empty.ensures ∙ ap (λ n. not (nat_eq n 0)) m.tables.ok.0 ∙ some_there (length m.tables.items) in
    let mems : not c.is_empty-2.result ≡ nat_lt 0 (length m.mems.items) =
    ap not c.is_empty-2.ensures ∙ ap (λ n. not (nat_eq n 0)) m.mems.ok.0 ∙ some_there (length m.mems.items) in
    rw (c.deref.ensures.value, globals, tables, mems, c.requires) refl
