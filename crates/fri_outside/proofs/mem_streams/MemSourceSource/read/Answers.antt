use Rattle.std.proofs.Common.{◌∙◌, ◌++◌, ℕ, List, take, drop, ap, sym, arith}
use Rattle.std.proofs.lemmas.Grind.{common_steps}
use Rattle.fri_outside.specs.Memory.{SourceInMemory}
use Rattle.fri_outside.proofs.KnownBytes.{front_given, given_more}
use Rattle.fri_outside.proofs.mem_streams.MemSourceSource.read.Goals as goal

pub returns-clause-bytes : goal.returns-clause-bytes
returns-clause-bytes c =
    sym (ap (λ (source : SourceInMemory). source.rest) c.self.view_is)
    ∙ front_given c.self.inside.bytes.items c.self.inside.at c.min-count.result c.copy_from_slice.new.self _ (grind (arith, common_steps)) (grind (arith, common_steps))

pub returns-clause-given : goal.returns-clause-given
returns-clause-given c =
    given_more c.self.inside.bytes.items c.self.inside.at c.min-count.result c.copy_from_slice.new.self _ (grind (arith, common_steps)) (grind (arith, common_steps))
    ∙ ap (λ (given : List ℕ). given ++ take c.min-count.result (c.copy_from_slice.new.self ++ drop c.min-count.result c.args.buf.now)) (ap (λ (source : SourceInMemory). source.given) c.self.view_is)
