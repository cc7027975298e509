use Rattle.std.proofs.Common.{◌≡◌, ℕ, ◌+◌, List, ◌++◌, length, ap, ◌∙◌, append_assoc}
use Rattle.std.specs.Int.{w32}
use Rattle.lib_calls.specs.declared.entry.Entry.{Entry}
use Rattle.lib_calls.specs.Entry.{entry_of}
use Rattle.call_log.specs.declared.version.Version.{Version}
use Rattle.call_log.specs.Version.{number_bytes}
use Rattle.call_log.specs.inside.Parts.{framed_lead, lead_bytes}
use Rattle.call_log.proofs.put.put_measured.Goals as goal

-- the length of a whole body and then what is spelled of it
measured : (v : Version) (last sent : ℕ) (e : Entry) (size : ℕ) (old mid new : List ℕ) → size ≡ length (lead_bytes v last sent e) + sent → mid ≡ old ++ number_bytes v w32 size → new ≡ mid ++ lead_bytes v last sent e → new ≡ old ++ framed_lead v last sent e
unfolding framed_lead
measured v last sent e size old mid new is put body =
    body
    ∙ ap (λ (t : List ℕ). t ++ lead_bytes v last sent e) (put ∙ ap (λ (n : ℕ). old ++ number_bytes v w32 n) is)
    ∙ append_assoc old (number_bytes v w32 (length (lead_bytes v last sent e) + sent)) (lead_bytes v last sent e)

pub returns-clause-ok : goal.returns-clause-ok
returns-clause-ok c =
    measured c.args.version c.args.last c.args.sent (entry_of c.args.entry.now) c.body_length.result c.args.out.now.items c.put_number_u32.new.out.items c.put_lead.new.out.items c.body_length.ensures c.in_ok-put_number_u32.ensures.ok c.in_default.ensures.ok
