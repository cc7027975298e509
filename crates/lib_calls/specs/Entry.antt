-- What an entry says, and which entries have the shape of their kind.
use Rattle.std.specs.Prelude.{◌≡◌, ℕ, ◌^◌, ◌<◌, Bool, true, false, nat_lt, List, [], length, Option, Some, None}
use Rattle.lamport_tag.specs.declared.Tag.{Tag}
use Rattle.lib_calls.specs.declared.entry.Call.{Call}
use Rattle.lib_calls.specs.declared.entry.Entry.{Entry}
use Rattle.lib_calls.specs.declared.entry.EntryView.{EntryView}
use Rattle.call_table.specs.Table.{row}

-- what an entry whose bytes are lent says
abbrev pub entry_of : EntryView → Entry
entry_of e = record {
  clock = e.clock;
  thread = e.thread;
  signal = e.signal;
  call = e.call;
  reply = e.reply;
  outgoing = e.outgoing.now;
  incoming = e.incoming.now;
  tag = e.tag;
}

-- a number of 64 bits, which is 0 where the kind lacks it
abbrev pub IsNumberIf : Bool → ℕ → Type 0
IsNumberIf true n = n < 2 ^ 64
IsNumberIf false n = n ≡ 0

-- bytes shorter than 2 GiB, of which there are none where the kind lacks them
abbrev pub IsStringIf : Bool → List ℕ → Type 0
IsStringIf true bytes = length bytes < 2 ^ 31
IsStringIf false bytes = bytes ≡ []

-- a tag or none, and none where the kind lacks it
abbrev pub IsTagIf : Bool → Option Tag → Type 0
IsTagIf true (Some tag) = (tag.sender < 2 ^ 32) × (tag.clock < 2 ^ 64)
IsTagIf true None = Unit {0}
IsTagIf false tag = tag ≡ None

-- each argument that the kind has fits, and those that it lacks are 0
pub record HasArguments (call : Call) : Type 0 where
  pub first : IsNumberIf (nat_lt 0 (row call.kind).signature.params) call.a0
  pub second : IsNumberIf (nat_lt 1 (row call.kind).signature.params) call.a1
  pub third : IsNumberIf (nat_lt 2 (row call.kind).signature.params) call.a2

-- the entry has the fields of its kind, within their widths, and no others
pub record IsShaped (e : Entry) : Type 0 where
  pub clock : e.clock < 2 ^ 64
  pub thread : e.thread < 2 ^ 16
  pub signal : e.signal < 2 ^ 8
  pub arguments : HasArguments e.call
  pub reply : e.reply < 2 ^ 64
  pub outgoing : IsStringIf (row e.call.kind).entry.outgoing e.outgoing
  pub incoming : IsStringIf (row e.call.kind).entry.incoming e.incoming
  pub tag : IsTagIf (row e.call.kind).entry.tag e.tag
