use Rattle.std.proofs.Common.{drop, length, take, sym, ap, ◌∙◌, arith, length-drop}
use Rattle.std.specs.Prelude.{is_some, reverse}
use Rattle.std.proofs.lemmas.Bool.{ltb_from_iff, ltb-true, lt-ltb}
use Rattle.std.proofs.lemmas.List.{length-reverse}
use Rattle.wasm_stack.specs.Thread.{closed_level}
use Rattle.wasm_stack.specs.inside.Stacks.{thread_of}
use Rattle.wasm_stack.proofs.LevelEnds.{outer_is}
use Rattle.wasm_stack.proofs.stack.Stack.has_outer.Goals as goal

pub returns : goal.returns
returns c =
    let s = c.self.inside in
    let many = length-reverse (drop s.here.labels_from s.labels.items) ∙ length-drop s.here.labels_from s.labels.items in
    let same = ltb_from_iff {m = 0} {n = length (reverse (drop s.here.labels_from s.labels.items))} (λ h. omega (arith, ltb-true s.here.labels_from c.len.result h, many, c.len.ensures, s.labels.ok.0), λ h. lt-ltb s.here.labels_from c.len.result (omega (arith, h, many, c.len.ensures, s.labels.ok.0))) in
    same
    ∙ sym (outer_is s.here.gives (reverse (drop s.here.labels_from s.labels.items)) (take s.here.floor s.operands.items) (thread_of s))
    ∙ ap (λ t. is_some (closed_level t)) c.self.view_is
