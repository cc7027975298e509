use Rattle.fri_bytes.proofs.FixedNumbers.{le_reads, le_at-to_le_bytes, le_at_spelled}
use Rattle.fri_bytes.proofs.LebLemmas.{unsigned_reads, signed_reads}
use Rattle.fri_bytes.proofs.Readers.{piece_reads}
use Rattle.fri_bytes.proofs.ShortNumbers.{short_reads, short_at-short_bytes, short_at_spelled}
use Rattle.fri_bytes.proofs.laws.exact_readers.Goals as goal

pub returns : goal.returns
returns c = record {
  piece = piece_reads;
  number = le_reads;
  unsigned = unsigned_reads;
  signed = signed_reads;
  short = short_reads;
  reads_written = le_at-to_le_bytes;
  rewritten = le_at_spelled;
  reads_short = short_at-short_bytes;
  short_rewritten = short_at_spelled;
}
