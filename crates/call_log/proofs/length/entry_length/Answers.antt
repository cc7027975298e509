use Rattle.std.proofs.Common.{◌≡◌, ◌+◌, ℕ, length, ap, ◌∙◌, refl, arith}
use Rattle.std.specs.Int.{w32}
use Rattle.call_table.specs.Table.{row}
use Rattle.lib_calls.specs.declared.entry.Entry.{Entry}
use Rattle.lib_calls.specs.Entry.{entry_of}
use Rattle.call_log.specs.declared.version.Version.{Version}
use Rattle.call_log.specs.Version.{number_bytes}
use Rattle.call_log.proofs.EntrySizes.{encoding_size}
use Rattle.call_log.proofs.Leads.{length_of_string, whole_length}
use Rattle.call_log.proofs.length.entry_length.Goals as goal

pub returns : goal.returns
returns c =
    let v : Version = c.args.version in
    let e : Entry = entry_of c.args.entry.now in
    let sent : ℕ = length e.outgoing in
    let body = c.body_length-body.ensures ∙ whole_length v c.args.last sent e e.outgoing (length_of_string (row e.call.kind).entry.outgoing e.outgoing c.requires.outgoing) refl in
    omega (arith, c.length_u32.ensures.length ∙ ap (λ (n : ℕ). length (number_bytes v w32 n)) body, body, encoding_size v c.args.last e)
