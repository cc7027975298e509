use Rattle.std.proofs.Common.{◌≡◌, ◌∙◌, Bool, true, cond, [], length, ap, sym}
use Rattle.guest_memory.specs.Memory.{bytes_from}
use Rattle.lib_calls.specs.Effects.{is_range}
use Rattle.lib_calls.proofs.ComparedRanges.{range_length}
use Rattle.lib_calls.proofs.MemoryRanges.{range_inside}
use Rattle.lib_calls.proofs.arguments.named_length.Goals as goal

pub returns-then-is_range : goal.returns-then-is_range
returns-then-is_range c =
    let memory = c.args.memory.now in
    let is : is_range memory c.args.addr c.args.len ≡ true = sym c.is_range.ensures.value ∙ c.if-is_range.true in
    sym (ap (λ (b : Bool). length (cond b (bytes_from memory c.args.addr c.args.len) [])) is ∙ range_length memory.bytes c.args.addr c.args.len (range_inside memory c.args.addr c.args.len is))
