use Rattle.std.proofs.Common.{sym, ap, ◌∙◌, rules, arith}
use Rattle.std.proofs.lemmas.List.{take_rest}
use Rattle.byteorder.specs.Endian.{little_number}
use Rattle.lamport_tag.proofs.TagLemmas.{Reads, Reads-tagged, Reads-untagged, no_magic, too_short, untagged_at, tag_at-tagged}
use Rattle.lamport_tag.proofs.read_tag.Goals as goal
use Rattle.lamport_tag.proofs.read_tag.Goals.{then-bytes-lt-TAG_LENGTH-via-then-bytes-lt-TAG_LENGTH, then-bytes-lt-TAG_LENGTH-via-else-bytes-lt-TAG_LENGTH+then-not-starts_with}

pub returns-then-bytes-lt-TAG_LENGTH-clause-untagged :
    goal.returns-then-bytes-lt-TAG_LENGTH-clause-untagged
returns-then-bytes-lt-TAG_LENGTH-clause-untagged c = elim c.then-bytes-lt-TAG_LENGTH.branch [
  | then-bytes-lt-TAG_LENGTH-via-then-bytes-lt-TAG_LENGTH w ↦ too_short _ _ (omega arith)
  | then-bytes-lt-TAG_LENGTH-via-else-bytes-lt-TAG_LENGTH+then-not-starts_with w ↦ no_magic _ _ (search rules)
]

pub returns-then-bytes-lt-TAG_LENGTH-clause-value :
    goal.returns-then-bytes-lt-TAG_LENGTH-clause-value
returns-then-bytes-lt-TAG_LENGTH-clause-value c = sym (untagged_at _ _ (returns-then-bytes-lt-TAG_LENGTH-clause-untagged c))

pub returns-then-not-is_sendable-clause-untagged :
    goal.returns-then-not-is_sendable-clause-untagged
returns-then-not-is_sendable-clause-untagged c =
    let read : Reads c.args.bytes.now c.read_u32.result c.read_u64.result = record { bytes = λ i. search rules; long = omega arith; starts = search rules; sender_read = c.read_u32.ensures ∙ ap (little_number 4) (take_rest c.args.bytes.now 4); clock_read = c.read_u64.ensures ∙ ap (little_number 8) (take_rest c.args.bytes.now 8) } in
    Reads-untagged _ _ _ _ (omega arith) read (search rules)

pub returns-then-not-is_sendable-clause-value : goal.returns-then-not-is_sendable-clause-value
returns-then-not-is_sendable-clause-value c = sym (untagged_at _ _ (returns-then-not-is_sendable-clause-untagged c))

pub returns-clause-tagged : goal.returns-clause-tagged
returns-clause-tagged c =
    let read : Reads c.args.bytes.now c.read_u32.result c.read_u64.result = record { bytes = λ i. search rules; long = omega arith; starts = search rules; sender_read = c.read_u32.ensures ∙ ap (little_number 4) (take_rest c.args.bytes.now 4); clock_read = c.read_u64.ensures ∙ ap (little_number 8) (take_rest c.args.bytes.now 8) } in
    rw take_rest (Reads-tagged _ _ _ _ read (search rules))

pub returns-clause-value : goal.returns-clause-value
returns-clause-value c = sym (tag_at-tagged _ _ _ _ (omega arith) (returns-clause-tagged c))
