use Rattle.std.specs.List.{flat_map}
use Rattle.std.proofs.Common.{◌∙◌, ◌++◌, ℕ, List, ap, append_assoc, codes, decimal, get_or}
use Rattle.group_text.specs.Texts.{function_text}
use Rattle.group_text.proofs.TextPieces.{functions_more}
use Rattle.group_text.proofs.frames.push_functions.Goals as goal

pub loop-frame-preserved : goal.loop-frame-preserved
loop-frame-preserved c =
    let text = c.loop-frame.text in
    let fs = c.args.frames.now in
    let f = get_or fs c.loop-frame.frame-index 0 in
    let number = c.in_ok-push_u64.ensures.ok ∙ ap (λ (n : ℕ). c.push_str.new.self ++ decimal n) c.from.ensures in
    let is = number ∙ ap (λ (t : List ℕ). t ++ decimal f) c.in_ok-push_str.ensures.ok ∙ append_assoc text (codes " ") (decimal f) in
    functions_more text c.push_u64.new.self (c.args.text.now ++ flat_map function_text fs) fs c.loop-frame.frame-index c.loop-frame-test.true is c.loop-frame.invariant
