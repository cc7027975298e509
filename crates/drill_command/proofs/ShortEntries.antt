-- How many bytes a log has more with a short entry.
use Rattle.std.proofs.Common.{◌≡◌, ◌<◌, ◌≤◌, ◌+◌, ◌%◌, ◌/◌, ℕ, zero, suc, Bool, true, false, cond, ltb, List, [], ◌∷◌, ◌++◌, Option, Some, None, length, length-append, arith, refl}
use Rattle.std.specs.Prelude.{nat_lt}
use Rattle.std.specs.List.{concat}
use Rattle.std.proofs.lemmas.Bool.{lt-ltb}
use Rattle.fri_bytes.specs.Short.{short_bytes, short_within}
use Rattle.lamport_tag.specs.declared.Tag.{Tag}
use Rattle.lib_calls.specs.declared.entry.Call.{Call}
use Rattle.lib_calls.specs.declared.entry.Entry.{Entry}
use Rattle.call_table.specs.Table.{row}
use Rattle.call_log.specs.declared.version.Version.TheVariants.{Two}
use Rattle.call_log.specs.Version.{clock_bytes, clock_gap}
use Rattle.call_log.specs.Entry.{argument_bytes, body_bytes, encoding, encodings, number_if, string_if, tag_if}
use Rattle.drill_command.proofs.RingStates.{IsShortEntry}

abbrev pub total : List (List ℕ) → ℕ
total [] = 0
total (part ∷ parts) = length part + total parts

pub length-concat : (parts : List (List ℕ)) → length (concat parts) ≡ total parts
length-concat [] = refl
length-concat (part ∷ parts) = let rest = length-concat parts in omega (arith, length-append part (concat parts), rest)

-- ---- the parts of an entry

number_few : (most n : ℕ) → length (short_within most n) ≤ most
number_few zero n = omega arith
number_few (suc most) n = either (ltb n 128) (number_few most (n / 128))
  where
    either : (b : Bool) → length (short_within most (n / 128)) ≤ most → length (cond b (n ∷ []) ((128 + n % 128) ∷ short_within most (n / 128))) ≤ suc most
    either true rest = omega arith
    either false rest = omega (arith, rest)

number_within : (n : ℕ) → length (short_bytes n) ≤ 10
unfolding short_bytes
number_within n = number_few 10 n

small_number : (n : ℕ) → n < 128 → length (short_bytes n) ≡ 1
unfolding short_bytes
small_number n small = rw (lt-ltb n 128 small) refl

argument_few : (has : Bool) (n : ℕ) → length (number_if Two has n) ≤ 10
argument_few true n = number_within n
argument_few false n = omega arith

string_few : (has : Bool) (bytes : List ℕ) → length bytes ≤ 8 → length (string_if Two has bytes) ≤ 9
string_few true bytes few = let one = small_number (length bytes) (omega (arith, few)) in omega (arith, length-append (short_bytes (length bytes)) bytes, one, few)
string_few false bytes few = omega arith

tag_few : (has : Bool) (tag : Option Tag) → length (tag_if Two has tag) ≤ 21
tag_few false tag = omega arith
tag_few true None = omega arith
tag_few true (Some tag) = omega (arith, length-append (short_bytes tag.sender) (short_bytes tag.clock), number_within tag.sender, number_within tag.clock)

arguments_few : (call : Call) → length (argument_bytes Two call) ≤ 30
unfolding argument_bytes
arguments_few call =
    let params = (row call.kind).signature.params in
    omega (
      arith,
      length-concat (number_if Two (nat_lt 0 params) call.a0 ∷ number_if Two (nat_lt 1 params) call.a1 ∷ number_if Two (nat_lt 2 params) call.a2 ∷ []),
      argument_few (nat_lt 0 params) call.a0,
      argument_few (nat_lt 1 params) call.a1,
      argument_few (nat_lt 2 params) call.a2,
    )

-- ---- entries

-- how many bytes a short entry has at most
abbrev pub most_short : ℕ
most_short = 102

body_few : (last : ℕ) (e : Entry) → IsShortEntry e → length (body_bytes Two last e) ≤ 101
unfolding body_bytes
body_few last e short =
    let fields = (row e.call.kind).entry in
    omega (
      arith,
      length-concat (
          clock_bytes Two last e.clock ∷ short_bytes e.thread ∷ ((row e.call.kind).number ∷ []) ∷ (e.signal ∷ []) ∷ argument_bytes Two e.call
          ∷ short_bytes e.reply ∷ string_if Two fields.outgoing e.outgoing ∷ string_if Two fields.incoming e.incoming ∷ tag_if Two fields.tag e.tag ∷ []),
      number_within (clock_gap last e.clock),
      number_within e.thread,
      arguments_few e.call,
      number_within e.reply,
      string_few fields.outgoing e.outgoing short.outgoing,
      string_few fields.incoming e.incoming short.incoming,
      tag_few fields.tag e.tag,
    )

entry_few : (last : ℕ) (e : Entry) → IsShortEntry e → length (encoding Two last e) ≤ most_short
unfolding encoding
entry_few last e short =
    let body = body_few last e short in
    let one = small_number (length (body_bytes Two last e)) (omega (arith, body)) in
    omega (arith, length-append (short_bytes (length (body_bytes Two last e))) (body_bytes Two last e), one, body)

-- one more of them
pub entry_more : (last : ℕ) (es : List Entry) (e : Entry) → IsShortEntry e → length (encodings Two last (es ++ e ∷ [])) ≤ length (encodings Two last es) + most_short
entry_more last [] e short = let few = entry_few last e short in omega (arith, length-append (encoding Two last e) [], few)
entry_more last (x ∷ es) e short =
    let more = entry_more x.clock es e short in
    omega (arith, length-append (encoding Two last x) (encodings Two x.clock (es ++ e ∷ [])), length-append (encoding Two last x) (encodings Two x.clock es), more)
