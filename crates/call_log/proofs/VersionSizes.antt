-- The entry of an event takes no more bytes in version 2 than in version 1.
use Rattle.std.proofs.Common.{◌≡◌, ℕ, zero, suc, ◌+◌, ◌*◌, ◌/◌, ◌%◌, ◌^◌, ◌<◌, ◌≤◌, lit≤, Bool, true, false, cond, ltb, List, [], ◌∷◌, length, Option, Some, None, refl, subst, arith, length-append}
use Rattle.std.specs.Prelude.{nat_lt}
use Rattle.std.specs.Int.{w16, w32, w64}
use Rattle.std.proofs.Math.Nat.{pow-suc}
use Rattle.std.proofs.lemmas.Bool.{lt-ltb}
use Rattle.lamport_tag.specs.declared.Tag.{Tag}
use Rattle.fri_bytes.specs.Short.{short_bytes, short_within}
use Rattle.lib_calls.specs.declared.entry.Call.{Call}
use Rattle.lib_calls.specs.declared.entry.Entry.{Entry}
use Rattle.call_table.specs.Table.{row}
use Rattle.lib_calls.specs.Entry.{IsShaped, IsTagIf}
use Rattle.call_log.specs.declared.version.Version.{Version}
use Rattle.call_log.specs.declared.version.Version.TheVariants.{One, Two}
use Rattle.call_log.specs.Version.{clock_bytes, clock_gap, number_bytes}
use Rattle.call_log.specs.Entry.{argument_bytes, body_bytes, number_if, string_if, tag_if}
use Rattle.call_log.specs.Laws.{IsCommonEntry, IsNearTag, NoLonger}
use Rattle.call_log.proofs.EntrySizes.{body_size, encoding_size, length-argument_bytes, length-clock_bytes, length-concat, length-number_bytes, length-short_bytes, length-tag_if}

-- ---- numbers

one_more : (small : Bool) (b c most : ℕ) (more : List ℕ) → length more ≤ most → length (cond small (b ∷ []) (c ∷ more)) ≤ suc most
one_more true b c most more few = omega arith
one_more false b c most more few = omega arith

part_below : (n power : ℕ) → n < power * 128 → n / 128 < power
part_below n power small = omega arith

-- a number below 128 ^ k takes k bytes at most
short_within-few : (most k n : ℕ) → n < 128 ^ suc k → length (short_within most n) ≤ suc k
short_within-few zero k n small = omega arith
short_within-few (suc most) zero n small = rw (lt-ltb n 128 small) (lit≤ tt)
short_within-few (suc most) (suc k) n small =
    one_more (ltb n 128) n (128 + n % 128) (suc k) (short_within most (n / 128))
    (short_within-few most k (n / 128) (part_below n (128 ^ suc k) (subst (λ (m : ℕ). n < m) (pow-suc 128 (suc k)) small)))

short_few : (k n : ℕ) → n < 128 ^ suc k → length (short_bytes n) ≤ suc k
unfolding short_bytes
short_few k n small = short_within-few 10 k n small

gap_below : (last clock most : ℕ) → last ≤ clock → clock < 2 ^ 64 → clock < last + most → clock_gap last clock < most
gap_below last clock most later small near = omega arith

-- ---- the fields

number_if_more : (has : Bool) (n : ℕ) → length (number_if Two has n) ≤ length (number_if One has n) + 2
number_if_more true n = (length-short_bytes n).few
number_if_more false n = lit≤ tt

arguments_more : (call : Call) → length (argument_bytes Two call) ≤ length (argument_bytes One call) + 6
unfolding argument_bytes
arguments_more call =
    let has : ℕ → Bool = λ k. nat_lt k (row call.kind).signature.params in
    let all : (v : Version) → length (argument_bytes v call) ≡ length (number_if v (has 0) call.a0) + (length (number_if v (has 1) call.a1) + (length (number_if v (has 2) call.a2) + 0)) =
    λ v. length-concat (number_if v (has 0) call.a0 ∷ number_if v (has 1) call.a1 ∷ number_if v (has 2) call.a2 ∷ []) in
    omega (arith, all One, all Two, number_if_more (has 0) call.a0, number_if_more (has 1) call.a1, number_if_more (has 2) call.a2)

string_no_more : (has : Bool) (s : List ℕ) → length s ≤ 60000 → length (string_if Two has s) ≤ length (string_if One has s)
string_no_more true s few =
    omega (arith, short_few 2 (length s) (omega arith), length-append (number_bytes Two w32 (length s)) s, length-append (number_bytes One w32 (length s)) s)
string_no_more false s few = lit≤ tt

string_small : (has : Bool) (s : List ℕ) → length s ≤ 60000 → length (string_if Two has s) ≤ 60016
string_small true s few = omega (arith, length-append (number_bytes Two w32 (length s)) s, (length-number_bytes Two w32 (length s)).few)
string_small false s few = lit≤ tt

tag_few : (tag : Tag) → tag.sender < 128 → tag.clock ≤ 2 ^ 62 → length (tag_if Two true (Some tag)) ≤ 11
tag_few tag low sent =
    omega (arith, length-append (number_bytes Two w32 tag.sender) (number_bytes Two w64 tag.clock), short_few 0 tag.sender (omega arith), short_few 8 tag.clock (omega arith))

-- what is more at the reply or the clock is less at the clock or the tag
clock_reply_tag : (last : ℕ) (e : Entry) → IsShaped e → IsCommonEntry last e
    → length (clock_bytes Two last e.clock) + length (number_bytes Two w64 e.reply) + length (tag_if Two (row e.call.kind).entry.tag e.tag) ≤ 12 + length (tag_if One (row e.call.kind).entry.tag e.tag)
clock_reply_tag last e shaped common = by_tag (row e.call.kind).entry.tag e.tag refl shaped.tag
  where
    untagged : (has : Bool) → e.tag ≡ None → length (clock_bytes Two last e.clock) + length (number_bytes Two w64 e.reply) ≤ 12
    untagged has none =
        let near : clock_gap last e.clock < 2 ^ 14 = gap_below last e.clock (2 ^ 14) common.later shaped.clock (common.plain none) in
        omega (arith, short_few 1 (clock_gap last e.clock) (omega arith), (length-short_bytes e.reply).few)

    by_tag : (has : Bool) (tag : Option Tag) → e.tag ≡ tag → IsTagIf has tag
        → length (clock_bytes Two last e.clock) + length (number_bytes Two w64 e.reply) + length (tag_if Two has tag) ≤ 12 + length (tag_if One has tag)
    by_tag true None is fits = omega (arith, untagged true is)
    by_tag false None is fits = omega (arith, untagged false is)
    by_tag true (Some tag) is fits =
        let n : IsNearTag last e tag = common.tagged tag is in
        let near : clock_gap last e.clock < 2 ^ 63 = gap_below last e.clock (2 ^ 63) common.later shaped.clock (omega (arith, n.clock)) in
        omega (arith, short_few 8 (clock_gap last e.clock) (omega arith), short_few 2 e.reply (omega (arith, n.reply)), tag_few tag n.sender n.sent)
    by_tag false (Some tag) is fits = absurd cc

-- ---- the entry

body_small : (last : ℕ) (e : Entry) → IsCommonEntry last e → length (body_bytes Two last e) < 2097152
body_small last e common =
    summed _ _ _ _ _ _ _ _ (length-clock_bytes Two last e.clock).few (length-number_bytes Two w16 e.thread).few (length-argument_bytes Two e.call) (length-number_bytes Two w64 e.reply).few
    (string_small _ e.outgoing common.outgoing) (string_small _ e.incoming common.incoming) (length-tag_if Two _ e.tag) (body_size Two last e)
  where
    summed : (n c t a r o i g : ℕ) → c ≤ 16 → t ≤ 16 → a ≤ 48 → r ≤ 16 → o ≤ 60016 → i ≤ 60016 → g ≤ 33 → n ≡ c + t + 2 + a + r + o + i + g → n < 2097152
    summed n c t a r o i g p q s u k l m is = omega arith

no_more : (n m s c t a r o i g n1 m1 a1 o1 i1 g1 : ℕ) → s ≤ 3 → t ≤ 1 → a ≤ a1 + 6 → o ≤ o1 → i ≤ i1 → c + r + g ≤ 12 + g1
    → n ≡ s + m → m ≡ c + t + 2 + a + r + o + i + g → n1 ≡ 4 + m1 → m1 ≡ 8 + 2 + 2 + a1 + 8 + o1 + i1 + g1 → n ≤ n1
no_more n m s c t a r o i g n1 m1 a1 o1 i1 g1 p q u k l x e f e1 f1 = omega arith

pub no_longer : NoLonger
no_longer last e shaped common =
    no_more _ _ _ _ _ _ _ _ _ _ _ _ _ _ _ _ (short_few 2 (length (body_bytes Two last e)) (body_small last e common)) (short_few 0 e.thread (omega (arith, common.thread))) (arguments_more e.call)
    (string_no_more _ e.outgoing common.outgoing) (string_no_more _ e.incoming common.incoming) (clock_reply_tag last e shaped common)
    (encoding_size Two last e) (body_size Two last e) (encoding_size One last e) (body_size One last e)
