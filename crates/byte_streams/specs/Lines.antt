-- What is said of streams.
use Rattle.std.specs.Prelude.{ℕ, List, length, map, take}
use Rattle.std.specs.FinMap as map
use Rattle.std.specs.List.{take_while}
use Rattle.byte_streams.specs.declared.line.StreamLine.{StreamLine}
use Rattle.byte_streams.specs.Keys.{StreamContents, StreamKey, ContentsByStream}

-- how many positions at the front are covered
abbrev pub covered_front : StreamContents → ℕ
covered_front c = length (take_while (λ is. is) c.covered)

-- the bytes that were read: the longest front that is covered
abbrev pub read_of : StreamContents → List ℕ
read_of c = take (covered_front c) c.written

abbrev pub stream_line : StreamKey × StreamContents → StreamLine
stream_line entry = record { from = entry.0.0; to = entry.0.1.0; stream = entry.0.1.1; written = length entry.1.written; read = covered_front entry.1 }

-- a line for each stream, by the process that writes, by the one that reads, and by number
abbrev pub stream_lines : ContentsByStream → List StreamLine
stream_lines streams = map stream_line (map.entries streams)
