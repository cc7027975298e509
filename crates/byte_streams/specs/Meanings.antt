-- The piece of a stream that a chunk of the code stands for.
use Rattle.byte_streams.specs.declared.chunk.Chunk.{Chunk}
use Rattle.byte_streams.specs.Chunk.{StreamPiece}

-- the piece whose bytes are lent
abbrev pub piece_of : Chunk → StreamPiece
piece_of c = record { stream = c.stream; offset = c.offset; bytes = c.bytes.now }
