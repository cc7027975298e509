use Rattle.std.proofs.Common.{subst}
use Rattle.fri_outside.specs.inside.Kept.{SaysInMemory}
use Rattle.fri_outside.specs.Memory.{TerminalInMemory}
use Rattle.fri_outside.proofs.GivenTimes.{says_kept, told}
use Rattle.fri_outside.proofs.mem_terminal.MemTerminal.say.Goals as goal

pub returns : goal.returns
returns c =
    let old = c.self.inside in
    let new : TerminalInMemory = record { input = old.input; out = c.write.new.self; asked = told c.write.new.self.bytes old.input.given old.marks.items; faults = old.faults } in
    record {
      said = subst (λ (t : TerminalInMemory). SaysInMemory t new c.args.piece.now c.write.result) c.self.view_is
          (says_kept old.out c.write.new.self old.faults old.input old.marks.items c.args.piece.now c.write.result c.self.invariant c.write.ensures.whole c.write.ensures.bytes c.write.ensures.counted);
    }
