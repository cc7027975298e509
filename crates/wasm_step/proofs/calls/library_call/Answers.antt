use Rattle.std.proofs.Common.{◌≡◌, ◌≤◌, rules, Some, length, slice_get, sym, ap, ◌∙◌, subst, arith}
use Rattle.wasm_types.specs.Code.{tree}
use Rattle.wasm_types.specs.Functions.{imported_type}
use Rattle.wasm_types.specs.Modules.{Module, func_type, module_of}
use Rattle.wasm_stack.specs.After.{AfterStep, limited_thread}
use Rattle.wasm_step.specs.Reduce.{call, reduce_instruction, store_stays}
use Rattle.wasm_step.proofs.LibraryCalls.{library_stops}
use Rattle.wasm_step.proofs.calls.library_call.Goals as goal

pub returns-clause-calls : goal.returns-clause-calls
returns-clause-calls c = λ t g within same.
    let f = c.in-CallFunc.index in
    let m = module_of c.args.module.now in
    let type = func_type c.in_ok-typing.typing.now in
    let is = subst (λ m. imported_type (module_of m) (slice_get (module_of m).imports f) ≡ Some type) c.module.ensures.same c.in_ok-typing.ensures.some in
    let count : c.len-n.result ≡ length type.params = search rules in
    let results : c.len.result ≡ length type.results = search rules in
    let few : length type.results ≤ length type.params = omega (arith, c.if-len-n.false, count, results) in
    ap (λ i. reduce_instruction (tree i) t g) c.in-CallFunc.is
    ∙ ap (λ (m : Module). store_stays g (limited_thread (call m f t))) (sym same)
    ∙ ap (λ (a : AfterStep). store_stays g (limited_thread a)) (library_stops m f type t few within c.len-n.result count is)
