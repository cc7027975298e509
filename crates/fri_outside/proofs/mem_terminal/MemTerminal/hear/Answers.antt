use Rattle.std.proofs.Common.{◌≡◌, ◌∷◌, ◌++◌, ℕ, List, [], length, subst, sym, ap, ◌∙◌}
use Rattle.std.specs.Prelude.{Ok}
use Rattle.fri_outside.specs.inside.Kept.{HearsInMemory}
use Rattle.fri_outside.specs.Memory.{TerminalInMemory}
use Rattle.fri_outside.specs.declared.mem_terminal.Mark.{Mark}
use Rattle.fri_outside.proofs.GivenTimes.{hears_noted, told}
use Rattle.fri_outside.proofs.mem_terminal.MemTerminal.hear.Goals as goal

pub returns-clause-heard : goal.returns-clause-heard
returns-clause-heard c =
    let old = c.self.inside in
    let n = c.in_ok-count.count in
    let noted = c.push_reserved.new.self.items in
    let mark : ℕ → ℕ → Mark = λ said heard. record { said = said; heard = heard; count = n } in
    let marks : noted ≡ old.marks.items ++ mark (length old.out.bytes) (length old.input.given) ∷ [] =
    c.push_reserved.ensures.items
    ∙ ap (λ (l : List Mark). l ++ mark (length c.bytes-said.result.now) c.count-heard.result ∷ []) c.reserve.ensures.items
    ∙ ap (λ (s : List ℕ). old.marks.items ++ mark (length s) c.count-heard.result ∷ []) c.bytes-said.ensures
    ∙ ap (λ (h : ℕ). old.marks.items ++ mark (length old.out.bytes) h ∷ []) c.count-heard.ensures in
    let before : TerminalInMemory = record { input = old.input; out = old.out; asked = told old.out.bytes old.input.given old.marks.items; faults = old.faults } in
    let new : List Mark → TerminalInMemory = λ l. record { input = c.read.new.self; out = old.out; asked = told old.out.bytes c.read.new.self.given l; faults = old.faults } in
    subst (λ (t : TerminalInMemory). HearsInMemory t (new noted) (Ok n) c.read.new.buf) c.self.view_is
    (subst (λ (l : List Mark). HearsInMemory before (new l) (Ok n) c.read.new.buf) (sym marks)
    (hears_noted old.out old.faults old.input c.read.new.self old.marks.items n c.read.new.buf c.self.invariant c.in_ok-count.ensures.bytes c.in_ok-count.ensures.end c.in_ok-count.ensures.bound c.in_ok-count.ensures.given))
