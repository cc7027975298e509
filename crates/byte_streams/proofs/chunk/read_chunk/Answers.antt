use Rattle.std.proofs.Common.{ap, sym, ◌∙◌, rules, arith}
use Rattle.std.proofs.lemmas.List.{take_rest}
use Rattle.byteorder.specs.Endian.{little_number}
use Rattle.byte_streams.proofs.ChunkLemmas.{Reads, Reads-chunk, chunk_at-chunk, no_chunk, other_is_none, short_is_none}
use Rattle.byte_streams.proofs.chunk.read_chunk.Goals as goal
use Rattle.byte_streams.proofs.chunk.read_chunk.Goals.{then-payload-lt-HEAD_LENGTH-via-then-payload-lt-HEAD_LENGTH, then-payload-lt-HEAD_LENGTH-via-else-payload-lt-HEAD_LENGTH+then-not-starts_with}

pub returns-then-payload-lt-HEAD_LENGTH-clause-value : goal.returns-then-payload-lt-HEAD_LENGTH-clause-value
returns-then-payload-lt-HEAD_LENGTH-clause-value c = elim c.then-payload-lt-HEAD_LENGTH.branch [
  | then-payload-lt-HEAD_LENGTH-via-then-payload-lt-HEAD_LENGTH w ↦ sym (short_is_none _ (omega arith))
  | then-payload-lt-HEAD_LENGTH-via-else-payload-lt-HEAD_LENGTH+then-not-starts_with w ↦ sym (other_is_none _ (omega arith) (search rules))
]

pub returns-then-payload-lt-HEAD_LENGTH-clause-none : goal.returns-then-payload-lt-HEAD_LENGTH-clause-none
returns-then-payload-lt-HEAD_LENGTH-clause-none c = no_chunk _ (sym (returns-then-payload-lt-HEAD_LENGTH-clause-value c))

pub returns-clause-chunk : goal.returns-clause-chunk
returns-clause-chunk c =
    let read : Reads c.args.payload.now c.read_u16.result c.read_u64.result = record {
      bytes = λ i. search rules;
      long = omega arith;
      starts = search rules;
      stream_read = c.read_u16.ensures ∙ ap (little_number 2) (take_rest c.args.payload.now 4);
      offset_read = c.read_u64.ensures ∙ ap (little_number 8) (take_rest c.args.payload.now 6);
      stream_fits = c.read_u16.type_inv;
      offset_fits = c.read_u64.type_inv;
    } in
    rw take_rest (Reads-chunk _ _ _ read)

pub returns-clause-value : goal.returns-clause-value
returns-clause-value c = sym (chunk_at-chunk _ _ (returns-clause-chunk c))
