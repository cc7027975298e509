-- The tests of `is_shaped` and `is_head` say what the records of facts say.
use Rattle.std.proofs.Common.{◌≡◌, ℕ, ◌^◌, ◌≤◌, Bool, true, false, ◌&&◌, List, length, Option, Some, None, refl, arith}
use Rattle.std.proofs.lemmas.Bool.{leb-true, le-leb, ltb-true, lt-ltb}
use Rattle.std.proofs.lemmas.List.{nil_from_length}
use Rattle.lamport_tag.specs.declared.Tag.{Tag}
use Rattle.lib_calls.specs.declared.entry.Call.{Call}
use Rattle.lib_calls.specs.declared.entry.Entry.{Entry}
use Rattle.lib_calls.specs.Entry.{IsShaped, HasArguments, IsNumberIf, IsStringIf, IsTagIf}
use Rattle.call_log.specs.Head.{Head, IsHead}
use Rattle.call_log.specs.Log.{is_number_if, is_string_if, is_tag_if, has_arguments, is_shaped, is_head}

pub and_true : (a b : Bool) → (a && b) ≡ true → (a ≡ true) × (b ≡ true)
and_true true b e = (refl, e)
and_true false b e = absurd cc

pub both_true : (a b : Bool) → a ≡ true → b ≡ true → (a && b) ≡ true
both_true true b p q = q
both_true false b p q = absurd cc

number_if_from_test : (has : Bool) (n : ℕ) → is_number_if has n ≡ true → IsNumberIf has n
number_if_from_test true n test = ltb-true n (2 ^ 64) test
number_if_from_test false n test = let few : n ≤ 0 = leb-true n 0 test in omega arith

is_number_if-from : (has : Bool) (n : ℕ) → IsNumberIf has n → is_number_if has n ≡ true
is_number_if-from true n fits = lt-ltb n (2 ^ 64) fits
is_number_if-from false n is = le-leb n 0 (omega arith)

string_if_from_test : (has : Bool) (s : List ℕ) → is_string_if has s ≡ true → IsStringIf has s
string_if_from_test true s test = ltb-true (length s) (2 ^ 31) test
string_if_from_test false s test =
    let few : length s ≤ 0 = leb-true (length s) 0 test in
    nil_from_length s (omega arith)

is_string_if-from : (has : Bool) (s : List ℕ) → IsStringIf has s → is_string_if has s ≡ true
is_string_if-from true s fits = lt-ltb (length s) (2 ^ 31) fits
is_string_if-from false s is = rw is refl

tag_if_from_test : (has : Bool) (tag : Option Tag) → is_tag_if has tag ≡ true → IsTagIf has tag
tag_if_from_test true None test = tt
tag_if_from_test false None test = refl
tag_if_from_test true (Some tag) test =
    let parts = and_true _ _ test in
    (ltb-true _ _ parts.0, ltb-true _ _ parts.1)
tag_if_from_test false (Some tag) test = absurd cc

is_tag_if-from : (has : Bool) (tag : Option Tag) → IsTagIf has tag → is_tag_if has tag ≡ true
is_tag_if-from has None fits = refl
is_tag_if-from true (Some tag) fits = both_true _ _ (lt-ltb tag.sender (2 ^ 32) fits.0) (lt-ltb tag.clock (2 ^ 64) fits.1)
is_tag_if-from false (Some tag) fits = absurd cc

arguments_from_test : (call : Call) → has_arguments call ≡ true → HasArguments call
unfolding has_arguments
arguments_from_test call test =
    let all = and_true _ _ test in
    let two = and_true _ _ all.0 in
    record {
      first = number_if_from_test _ _ two.0;
      second = number_if_from_test _ _ two.1;
      third = number_if_from_test _ _ all.1;
    }

has_arguments-from : (call : Call) → HasArguments call → has_arguments call ≡ true
unfolding has_arguments
has_arguments-from call h =
    both_true _ _ (both_true _ _ (is_number_if-from _ _ h.first) (is_number_if-from _ _ h.second)) (is_number_if-from _ _ h.third)

pub shaped_from_test : (e : Entry) → is_shaped e ≡ true → IsShaped e
unfolding is_shaped
shaped_from_test e test =
    let tag = and_true _ _ test in
    let incoming = and_true _ _ tag.0 in
    let outgoing = and_true _ _ incoming.0 in
    let reply = and_true _ _ outgoing.0 in
    let arguments = and_true _ _ reply.0 in
    let signal = and_true _ _ arguments.0 in
    let thread = and_true _ _ signal.0 in
    record {
      clock = ltb-true e.clock (2 ^ 64) thread.0;
      thread = ltb-true e.thread (2 ^ 16) thread.1;
      signal = ltb-true e.signal (2 ^ 8) signal.1;
      arguments = arguments_from_test e.call arguments.1;
      reply = ltb-true e.reply (2 ^ 64) reply.1;
      outgoing = string_if_from_test _ _ outgoing.1;
      incoming = string_if_from_test _ _ incoming.1;
      tag = tag_if_from_test _ _ tag.1;
    }

pub is_shaped-from : (e : Entry) → IsShaped e → is_shaped e ≡ true
unfolding is_shaped
is_shaped-from e h =
    both_true _ _ (both_true _ _ (both_true _ _ (both_true _ _ (both_true _ _ (both_true _ _ (both_true _ _
    (lt-ltb e.clock (2 ^ 64) h.clock)
    (lt-ltb e.thread (2 ^ 16) h.thread))
    (lt-ltb e.signal (2 ^ 8) h.signal))
    (has_arguments-from e.call h.arguments))
    (lt-ltb e.reply (2 ^ 64) h.reply))
    (is_string_if-from _ _ h.outgoing))
    (is_string_if-from _ _ h.incoming))
    (is_tag_if-from _ _ h.tag)

pub head_from_test : (h : Head) → is_head h ≡ true → IsHead h
unfolding is_head
head_from_test h test =
    let named = and_true _ _ test in
    let within = and_true _ _ named.0 in
    let count = and_true _ _ within.0 in
    record {
      some = leb-true 1 h.count count.0;
      few = leb-true h.count 16 count.1;
      within = ltb-true h.process h.count within.1;
      named = named.1;
    }

pub is_head-from : (h : Head) → IsHead h → is_head h ≡ true
unfolding is_head
is_head-from h facts =
    both_true _ _ (both_true _ _ (both_true _ _ (le-leb 1 h.count facts.some) (le-leb h.count 16 facts.few)) (lt-ltb h.process h.count facts.within)) facts.named
