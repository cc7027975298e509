-- The answer to a call, as an entry tells it.
use Rattle.std.specs.Prelude.{ℕ, List, Option}
use Rattle.lamport_tag.specs.declared.Tag.{Tag}
use Rattle.lib_calls.specs.declared.entry.Entry.{Entry}

-- the reply, the bytes that came in, and the tag of the datagram that was taken
pub record Answer : Type 0 where
  pub reply : ℕ
  pub incoming : List ℕ
  pub tag : Option Tag

abbrev pub answer_of : Entry → Answer
answer_of e = record { reply = e.reply; incoming = e.incoming; tag = e.tag }
