-- The text of what was told is that of its sends and receives.
use Rattle.std.proofs.Common.{◌≡◌, ◌∙◌, ◌++◌, ℕ, List, ap, flat_map, length}
use Rattle.byte_streams.specs.declared.line.StreamLine.{StreamLine}
use Rattle.byte_streams.specs.Keys.{ContentsByStream}
use Rattle.byte_streams.specs.Lines.{stream_lines}
use Rattle.byte_streams.specs.Traffic.{SendOrReceive}
use Rattle.streams_command.specs.declared.telling.Told.{Told}
use Rattle.streams_command.specs.inside.Meanings.{IsToldOf}
use Rattle.streams_command.specs.Streams.{stream_counts_text, stream_line_text, streams_in, streams_text}
use Rattle.streams_command.proofs.CountedStreams.{streams_are}

pub printed : (t : Told) (traffic : List SendOrReceive) (lines : List StreamLine) (text : List ℕ) → IsToldOf t traffic → lines ≡ stream_lines t.streams.streams
    → text ≡ flat_map stream_line_text lines ++ stream_counts_text (length lines) t.odd t.foreign → text ≡ streams_text traffic
printed t traffic lines text told are is =
    let same : lines ≡ stream_lines (streams_in traffic) = are ∙ ap (λ (s : ContentsByStream). stream_lines s) (streams_are t.streams traffic told.streams) in
    is ∙ (λ i. flat_map stream_line_text (same i) ++ stream_counts_text (length (same i)) (told.odd i) (told.foreign i))
