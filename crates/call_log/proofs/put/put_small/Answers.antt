use Rattle.std.proofs.Common.{◌≡◌, ℕ, ◌+◌, ◌-◌, List, [], ◌∷◌, ◌++◌, length, slice_set, ap, ◌∙◌, sym, append_assoc, arith, length-append, rules}
use Rattle.std.proofs.Math.Seq.{set-append_seam}
use Rattle.lib_calls.specs.declared.entry.Entry.{Entry}
use Rattle.lib_calls.specs.Entry.{entry_of}
use Rattle.call_log.specs.declared.version.Version.TheVariants.{Two}
use Rattle.call_log.specs.inside.Parts.{lead_bytes}
use Rattle.call_log.proofs.BareEntries.{behind_length}
use Rattle.call_log.proofs.put.put_small.Goals as goal

-- the byte in front of what was added takes a number
set_in : (old part mid new : List ℕ) (start size : ℕ) → mid ≡ old ++ 0 ∷ [] → new ≡ mid ++ part → start ≡ length old → slice_set new start size ≡ old ++ (size ∷ part)
set_in old part mid new start size put more at =
    let whole : new ≡ old ++ 0 ∷ part = more ∙ ap (λ (t : List ℕ). t ++ part) put ∙ append_assoc old (0 ∷ []) part in
    ap (λ (t : List ℕ). slice_set t start size) whole
    ∙ ap (λ (i : ℕ). slice_set (old ++ 0 ∷ part) i size) at
    ∙ set-append_seam old 0 part size

added : (old part mid new : List ℕ) → mid ≡ old ++ 0 ∷ [] → new ≡ mid ++ part → length new ≡ length old + 1 + length part
added old part mid new put more =
    omega (arith, ap length more, ap length put, length-append mid part, length-append old (0 ∷ []))

pub returns-then-size-lt128-clause-ok : goal.returns-then-size-lt128-clause-ok
returns-then-size-lt128-clause-ok c =
    let e : Entry = entry_of c.args.entry.now in
    let old : List ℕ = c.args.out.now.items in
    let part : List ℕ = lead_bytes Two c.args.last c.args.sent e in
    let mid : List ℕ = c.put_byte.new.out.items in
    let new : List ℕ = c.put_lead.new.out.items in
    let put : mid ≡ old ++ 0 ∷ [] = c.in_ok-put_byte.ensures.ok in
    let more : new ≡ mid ++ part = c.in_default.ensures.ok in
    let start : c.len-start.result ≡ length old = search rules in
    let end : c.len.result ≡ length new = search rules in
    let size : c.len.result - c.len-start.result - 1 + c.from.result ≡ length part + c.args.sent = omega (arith, c.from.ensures, added old part mid new put more, start, end) in
    set_in old part mid new c.len-start.result _ put more start ∙ ap (λ (t : List ℕ). old ++ t) (sym (behind_length c.args.last c.args.sent e _ size c.if-size-lt128.true))
