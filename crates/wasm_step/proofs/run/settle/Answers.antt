use Rattle.std.proofs.Common.{◌≡◌, true, rules, sym, ap, ◌∙◌}
use Rattle.wasm_stack.specs.Answer.{way_of}
use Rattle.wasm_step.proofs.LevelRuns.{none_left, settle_end}
use Rattle.wasm_step.proofs.run.settle.Goals as goal

pub ends-preserved : goal.ends-preserved
ends-preserved c =
    let ended : c.is_at_end.result ≡ true = search rules in
    let none = none_left c.ends.thread.todo (sym c.is_at_end.ensures ∙ ended) in
    settle_end c.ends.thread c.end.new.self none (sym c.end.ensures ∙ ap (λ w. way_of w c.end.new.self) c.in-Goes.is) ∙ c.ends.invariant
