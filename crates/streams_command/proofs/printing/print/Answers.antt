use Rattle.std.proofs.Common.{◌≡◌, ◌∙◌, ◌++◌, ℕ, ap, arith, flat_map, length, take}
use Rattle.std.proofs.lemmas.List.{take_all}
use Rattle.streams_command.specs.Streams.{stream_counts_text, stream_line_text}
use Rattle.streams_command.proofs.StreamsText.{printed}
use Rattle.streams_command.proofs.printing.print.Goals as goal

pub returns : goal.returns
returns c = λ traffic told.
    let items = c.deref-line-items.result.now in
    let whole : take c.loop-line.line-index items ≡ items = take_all c.loop-line.line-index items (omega (arith, c.loop-line-test.false)) in
    let t = c.args.told.now in
    let count : c.len.result ≡ length items = omega (arith, c.len.ensures, c.deref-line-items.ensures.len) in
    printed t traffic items c.push_counts.new.text told (c.deref-line-items.ensures.value ∙ c.in_ok-lines.ensures)
    (c.in_ok-push_counts.ensures ∙ ap (λ text. text ++ stream_counts_text c.len.result t.odd t.foreign) (c.loop-line.invariant ∙ ap (flat_map stream_line_text) whole)
    ∙ ap (λ (n : ℕ). flat_map stream_line_text items ++ stream_counts_text n t.odd t.foreign) count)
