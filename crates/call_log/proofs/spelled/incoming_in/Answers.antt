use Rattle.std.proofs.Common.{◌∙◌, ℕ, ◌-◌, Bool, length, ap, refl, sym, arith}
use Rattle.call_table.specs.Table.{row}
use Rattle.lib_calls.specs.declared.entry.Entry.{Entry}
use Rattle.lib_calls.specs.Entry.{entry_of}
use Rattle.call_log.specs.Entry.{tag_if}
use Rattle.call_log.proofs.Leads.{incoming_behind, piece_before, three_lengths}
use Rattle.call_log.proofs.spelled.incoming_in.Goals as goal

pub overflow_sub-end : goal.overflow_sub-end
overflow_sub-end c =
    let e : Entry = entry_of c.args.entry.now in
    let tail = tag_if c.args.version (row e.call.kind).entry.tag e.tag in
    let has = sym c.has_incoming.ensures ∙ c.if-not-has_incoming.false in
    let place = incoming_behind c.args.version e c.args.bytes.now c.requires has in
    let tag = c.tag_length.ensures.size ∙ ap (λ (has : Bool). length (tag_if c.args.version has e.tag)) c.has_tag.ensures in
    omega (arith, tag, three_lengths place.0 e.incoming tail c.args.bytes.now place.1)

pub overflow_sub-result : goal.overflow_sub-result
overflow_sub-result c =
    let e : Entry = entry_of c.args.entry.now in
    let tail = tag_if c.args.version (row e.call.kind).entry.tag e.tag in
    let has = sym c.has_incoming.ensures ∙ c.if-not-has_incoming.false in
    let place = incoming_behind c.args.version e c.args.bytes.now c.requires has in
    let tag = c.tag_length.ensures.size ∙ ap (λ (has : Bool). length (tag_if c.args.version has e.tag)) c.has_tag.ensures in
    omega (arith, tag, three_lengths place.0 e.incoming tail c.args.bytes.now place.1)

pub returns : goal.returns
returns c =
    let e : Entry = entry_of c.args.entry.now in
    let tail = tag_if c.args.version (row e.call.kind).entry.tag e.tag in
    let has = sym c.has_incoming.ensures ∙ c.if-not-has_incoming.false in
    let place = incoming_behind c.args.version e c.args.bytes.now c.requires has in
    let tag = c.tag_length.ensures.size ∙ ap (λ (has : Bool). length (tag_if c.args.version has e.tag)) c.has_tag.ensures in
    piece_before c.args.bytes.now place.0 e.incoming tail (length c.args.bytes.now - c.tag_length.result) (length e.incoming) place.1 (ap (λ (n : ℕ). length c.args.bytes.now - n) tag) refl
