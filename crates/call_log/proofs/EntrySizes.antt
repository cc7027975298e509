-- How long an entry is.
use Rattle.std.proofs.Common.{◌≡◌, ℕ, zero, suc, ◌+◌, ◌/◌, ◌%◌, ◌^◌, ◌<◌, ◌≤◌, lit≤, Bool, true, false, cond, ltb, List, [], ◌∷◌, ◌++◌, length, Option, Some, None, refl, ap, ◌∙◌, arith, length-append}
use Rattle.std.specs.Int.{Width, w8, w16, w32, w64, w128}
use Rattle.std.specs.List.{concat}
use Rattle.lamport_tag.specs.declared.Tag.{Tag}
use Rattle.fri_bytes.specs.Short.{short_bytes, short_within}
use Rattle.lib_calls.specs.declared.entry.Call.{Call}
use Rattle.call_table.specs.Table.{row}
use Rattle.call_table.specs.declared.kind.Kind.{Kind}
use Rattle.call_table.specs.declared.kind.Kind.TheVariants.{Begin, Exit, Note, Print, Now, SleepUntil, Random, Me, Send, Recv, TryRecv, Spawn, Yield, Join, Lock, Unlock, OnSignal, Thread}
use Rattle.std.specs.Prelude.{nat_lt}
use Rattle.lib_calls.specs.declared.entry.Entry.{Entry}
use Rattle.lib_calls.specs.Entry.{IsStringIf, IsShaped}
use Rattle.call_log.specs.declared.version.Version.{Version}
use Rattle.call_log.specs.declared.version.Version.TheVariants.{One, Two}
use Rattle.call_log.specs.Version.{clock_bytes, clock_gap, number_bytes}
use Rattle.call_log.specs.Entry.{body_bytes, encoding, argument_bytes, number_if, string_if, tag_if}
use Rattle.call_log.specs.Limits.{least_entry}
use Rattle.call_log.specs.Spelling.{IsLengthIf}
use Rattle.call_log.specs.inside.Parts.{front_bytes, lead_bytes, length_if, reply_bytes}

abbrev pub total_length : List (List ℕ) → ℕ
total_length [] = 0
total_length (part ∷ parts) = length part + total_length parts

pub length-concat : (parts : List (List ℕ)) → length (concat parts) ≡ total_length parts
length-concat [] = refl
length-concat (part ∷ parts) = length-append part (concat parts) ∙ ap (λ (n : ℕ). length part + n) (length-concat parts)

-- ---- numbers

-- some bytes, and no more than so many
pub record IsWithin (most n : ℕ) : Type 0 where
  pub some : 1 ≤ n
  pub few : n ≤ most

longer : (small : Bool) (most b c : ℕ) (more : List ℕ) → IsWithin most (length more) → IsWithin (suc most) (length (cond small (b ∷ []) (c ∷ more)))
longer true most b c more behind = record { some = lit≤ tt; few = omega arith }
longer false most b c more behind = record { some = omega arith; few = omega (arith, behind.few) }

length-short_within : (most n : ℕ) → IsWithin (suc most) (length (short_within (suc most) n))
length-short_within zero n = alone (ltb n 128) n (128 + n % 128)
  where
    alone : (small : Bool) (b c : ℕ) → IsWithin 1 (length (cond small (b ∷ []) (c ∷ [])))
    alone true b c = record { some = lit≤ tt; few = lit≤ tt }
    alone false b c = record { some = lit≤ tt; few = lit≤ tt }
length-short_within (suc most) n = longer (ltb n 128) (suc most) n (128 + n % 128) (short_within (suc most) (n / 128)) (length-short_within most (n / 128))

pub length-short_bytes : (n : ℕ) → IsWithin 10 (length (short_bytes n))
unfolding short_bytes
length-short_bytes n = length-short_within 9 n

-- a number takes 1 to 16 bytes
pub length-number_bytes : (v : Version) (w : Width) (n : ℕ) → IsWithin 16 (length (number_bytes v w n))
length-number_bytes One w8 n = record { some = lit≤ tt; few = lit≤ tt }
length-number_bytes One w16 n = record { some = lit≤ tt; few = lit≤ tt }
length-number_bytes One w32 n = record { some = lit≤ tt; few = lit≤ tt }
length-number_bytes One w64 n = record { some = lit≤ tt; few = lit≤ tt }
length-number_bytes One w128 n = record { some = lit≤ tt; few = lit≤ tt }
length-number_bytes Two w n = let short = length-short_bytes n in record { some = short.some; few = omega (arith, short.few) }

pub length-clock_bytes : (v : Version) (last clock : ℕ) → IsWithin 16 (length (clock_bytes v last clock))
length-clock_bytes One last clock = record { some = lit≤ tt; few = lit≤ tt }
length-clock_bytes Two last clock = let short = length-short_bytes (clock_gap last clock) in record { some = short.some; few = omega (arith, short.few) }

-- ---- the fields

length-number_if : (v : Version) (has : Bool) (n : ℕ) → length (number_if v has n) ≤ 16
length-number_if v true n = (length-number_bytes v w64 n).few
length-number_if v false n = lit≤ tt

pub length-tag_if : (v : Version) (has : Bool) (tag : Option Tag) → length (tag_if v has tag) ≤ 33
length-tag_if v true None = lit≤ tt
length-tag_if v true (Some tag) =
    omega (arith, length-append (number_bytes v w32 tag.sender) (number_bytes v w64 tag.clock), (length-number_bytes v w32 tag.sender).few, (length-number_bytes v w64 tag.clock).few)
length-tag_if v false tag = lit≤ tt

length-string_if : (v : Version) (has : Bool) (s : List ℕ) → IsStringIf has s → length (string_if v has s) ≤ cond has 2147483664 0
length-string_if v true s few = omega (arith, length-append (number_bytes v w32 (length s)) s, (length-number_bytes v w32 (length s)).few)
length-string_if v false s none = lit≤ tt

pub length-argument_bytes : (v : Version) (call : Call) → length (argument_bytes v call) ≤ 48
unfolding argument_bytes
length-argument_bytes v call =
    let has : ℕ → Bool = λ k. nat_lt k (row call.kind).signature.params in
    let all = length-concat (number_if v (has 0) call.a0 ∷ number_if v (has 1) call.a1 ∷ number_if v (has 2) call.a2 ∷ []) in
    omega (arith, all, length-number_if v (has 0) call.a0, length-number_if v (has 1) call.a1, length-number_if v (has 2) call.a2)

-- no kind has both byte strings
one_string : (kind : Kind) → cond (row kind).entry.outgoing 2147483664 0 + cond (row kind).entry.incoming 2147483664 0 ≤ 2147483664
one_string Begin = lit≤ tt
one_string Exit = lit≤ tt
one_string Note = lit≤ tt
one_string Print = lit≤ tt
one_string Now = lit≤ tt
one_string SleepUntil = lit≤ tt
one_string Random = lit≤ tt
one_string Me = lit≤ tt
one_string Send = lit≤ tt
one_string Recv = lit≤ tt
one_string TryRecv = lit≤ tt
one_string Spawn = lit≤ tt
one_string Yield = lit≤ tt
one_string Join = lit≤ tt
one_string Lock = lit≤ tt
one_string Unlock = lit≤ tt
one_string OnSignal = lit≤ tt
one_string Thread = lit≤ tt

-- ---- the body

pub body_size : (v : Version) (last : ℕ) (e : Entry)
    → length (body_bytes v last e) ≡ length (clock_bytes v last e.clock) + length (number_bytes v w16 e.thread) + 2 + length (argument_bytes v e.call) + length (number_bytes v w64 e.reply) + length (string_if v (row e.call.kind).entry.outgoing e.outgoing) + length (string_if v (row e.call.kind).entry.incoming e.incoming) + length (tag_if v (row e.call.kind).entry.tag e.tag)
unfolding body_bytes
body_size v last e = length-concat (
    clock_bytes v last e.clock ∷ number_bytes v w16 e.thread ∷ ((row e.call.kind).number ∷ []) ∷ (e.signal ∷ []) ∷ argument_bytes v e.call ∷ number_bytes v w64 e.reply
    ∷ string_if v (row e.call.kind).entry.outgoing e.outgoing ∷ string_if v (row e.call.kind).entry.incoming e.incoming ∷ tag_if v (row e.call.kind).entry.tag e.tag ∷ []) ∙ summed _ _ _ _ _ _ _
  where
    summed : (c t a r o i g : ℕ) → c + (t + (1 + (1 + (a + (r + (o + (i + (g + 0)))))))) ≡ c + t + 2 + a + r + o + i + g
    summed c t a r o i g = omega arith

body_fits : (n c t a r o i g x y : ℕ) → c ≤ 16 → t ≤ 16 → a ≤ 48 → r ≤ 16 → o ≤ x → i ≤ y → x + y ≤ 2147483664 → g ≤ 33 → n ≡ c + t + 2 + a + r + o + i + g → n < 2 ^ 32
body_fits n c t a r o i g x y p q s u k l m h e = omega arith

pub length-body_lt : (v : Version) (last : ℕ) (e : Entry) → IsShaped e → length (body_bytes v last e) < 2 ^ 32
length-body_lt v last e shaped =
    body_fits _ _ _ _ _ _ _ _ _ _ (length-clock_bytes v last e.clock).few (length-number_bytes v w16 e.thread).few (length-argument_bytes v e.call) (length-number_bytes v w64 e.reply).few
    (length-string_if v _ e.outgoing shaped.outgoing) (length-string_if v _ e.incoming shaped.incoming) (one_string e.call.kind) (length-tag_if v _ e.tag) (body_size v last e)

-- ---- a body without its outgoing bytes

length_parts : (a b c d e f g h : List ℕ) → length (concat (a ∷ b ∷ c ∷ []) ++ (d ++ ((e ++ (f ++ g)) ++ h))) ≡ length a + length b + length c + length d + length e + length f + length g + length h
length_parts a b c d e f g h =
    omega (arith, length-append (concat (a ∷ b ∷ c ∷ [])) (d ++ ((e ++ (f ++ g)) ++ h)), length-concat (a ∷ b ∷ c ∷ []), length-append d ((e ++ (f ++ g)) ++ h), length-append (e ++ (f ++ g)) h, length-append e (f ++ g), length-append f g)

pub lead_size : (v : Version) (last sent : ℕ) (e : Entry)
    → length (lead_bytes v last sent e) ≡ length (clock_bytes v last e.clock) + length (number_bytes v w16 e.thread) + 2 + length (argument_bytes v e.call) + length (number_bytes v w64 e.reply) + length (length_if v (row e.call.kind).entry.outgoing sent) + length (string_if v (row e.call.kind).entry.incoming e.incoming) + length (tag_if v (row e.call.kind).entry.tag e.tag)
unfolding lead_bytes front_bytes reply_bytes
lead_size v last sent e =
    length_parts (clock_bytes v last e.clock) (number_bytes v w16 e.thread) ((row e.call.kind).number ∷ e.signal ∷ []) (argument_bytes v e.call) (number_bytes v w64 e.reply) (length_if v (row e.call.kind).entry.outgoing sent) (string_if v (row e.call.kind).entry.incoming e.incoming) (tag_if v (row e.call.kind).entry.tag e.tag)

length-length_if : (v : Version) (has : Bool) (n : ℕ) → IsLengthIf has n → length (length_if v has n) + n ≤ cond has 2147483664 0
length-length_if v true n few = omega (arith, few, (length-number_bytes v w32 n).few)
length-length_if v false n none = omega (arith, none)

with_sent : (n c t a r o i g s : ℕ) → n ≡ c + t + 2 + a + r + o + i + g → n + s ≡ c + t + 2 + a + r + (o + s) + i + g
with_sent n c t a r o i g s e = omega arith

pub lead_fits : (v : Version) (last sent : ℕ) (e : Entry) → IsShaped e → IsLengthIf (row e.call.kind).entry.outgoing sent → length (lead_bytes v last sent e) + sent < 2 ^ 32
lead_fits v last sent e shaped few =
    body_fits _ _ _ _ _ _ _ _ _ _ (length-clock_bytes v last e.clock).few (length-number_bytes v w16 e.thread).few (length-argument_bytes v e.call) (length-number_bytes v w64 e.reply).few
    (length-length_if v _ sent few) (length-string_if v _ e.incoming shaped.incoming) (one_string e.call.kind) (length-tag_if v _ e.tag)
    (with_sent _ _ _ _ _ _ _ _ sent (lead_size v last sent e))

-- ---- the entry

-- the length of the body, and the body
pub encoding_size : (v : Version) (last : ℕ) (e : Entry) → length (encoding v last e) ≡ length (number_bytes v w32 (length (body_bytes v last e))) + length (body_bytes v last e)
unfolding encoding
encoding_size v last e = length-append (number_bytes v w32 (length (body_bytes v last e))) (body_bytes v last e)

at_least : (n s m c t a r o i g : ℕ) → 1 ≤ s → 1 ≤ c → 1 ≤ t → 1 ≤ r → n ≡ s + m → m ≡ c + t + 2 + a + r + o + i + g → 6 ≤ n
at_least n s m c t a r o i g p q k l e f = omega arith

-- the least that an entry takes
pub length-encoding : (v : Version) (last : ℕ) (e : Entry) → least_entry ≤ length (encoding v last e)
length-encoding v last e =
    at_least _ _ _ _ _ _ _ _ _ _ (length-number_bytes v w32 (length (body_bytes v last e))).some (length-clock_bytes v last e.clock).some (length-number_bytes v w16 e.thread).some (length-number_bytes v w64 e.reply).some
    (encoding_size v last e) (body_size v last e)
