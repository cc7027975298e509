use Rattle.std.proofs.Common.{rules, ◌+◌, ◌^◌, ◌<◌, Bool, length, ap, ◌∙◌, arith}
use Rattle.lib_calls.specs.declared.entry.Entry.{Entry}
use Rattle.lib_calls.specs.Entry.{entry_of}
use Rattle.call_log.specs.declared.version.Version.{Version}
use Rattle.call_log.specs.Entry.{string_if, tag_if}
use Rattle.call_log.specs.inside.Parts.{length_if}
use Rattle.call_log.proofs.EntrySizes.{lead_fits, lead_size}
use Rattle.call_log.proofs.length.body_length.Goals as goal

pub overflow_cast-result : goal.overflow_cast-result
overflow_cast-result c =
    let v : Version = c.args.version in
    let e : Entry = entry_of c.args.entry.now in
    let outgoing = c.length_length.ensures.size ∙ ap (λ (has : Bool). length (length_if v has c.args.sent)) c.has_outgoing.ensures in
    let incoming = c.string_length-incoming.ensures.size ∙ ap (λ (has : Bool). length (string_if v has e.incoming)) c.has_incoming.ensures in
    let tag = c.tag_length-tag.ensures.size ∙ ap (λ (has : Bool). length (tag_if v has e.tag)) c.has_tag.ensures in
    let small : c.length_clock-clock.result + c.length_u16-thread.result + 2 + c.arguments_length-arguments.result + c.length_u64-reply.result + (c.length_length.result + c.args.sent) + c.string_length-incoming.result + c.tag_length-tag.result < 2 ^ 32 =
    omega (arith, lead_fits v c.args.last c.args.sent e c.requires.shape c.requires.sent, lead_size v c.args.last c.args.sent e, c.length_clock-clock.ensures.length, c.length_u16-thread.ensures.length, c.arguments_length-arguments.ensures.size, c.length_u64-reply.ensures.length, outgoing, incoming, tag) in
    search rules
