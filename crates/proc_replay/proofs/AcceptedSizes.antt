-- The entries of accepted events take no more bytes in version 2.
use Rattle.std.proofs.Common.{◌≡◌, ℕ, zero, suc, ◌≤◌, ◌<◌, ◌^◌, ◌&&◌, true, List, ◌∷◌, [], length, take, Option, Some, None, refl, ap, subst, arith, length-append}
use Rattle.std.specs.Prelude.{All, nat_le, nat_lt}
use Rattle.std.proofs.lemmas.Bool.Decides.{nat_tests}
use Rattle.lib_calls.specs.declared.entry.Entry.{Entry}
use Rattle.lib_calls.specs.Entry.{IsShaped}
use Rattle.call_log.specs.Entry.{encoding, encodings}
use Rattle.call_log.specs.Laws.{IsCommonEntry, NoLonger}
use Rattle.call_log.specs.declared.version.Version.{Version}
use Rattle.call_log.specs.declared.version.Version.TheVariants.{One, Two}
use Rattle.guest_process.specs.declared.divergence.Divergence.{Divergence}
use Rattle.guest_process.specs.Fits.{StateFits}
use Rattle.guest_process.specs.Legal.{reason}
use Rattle.guest_process.specs.Next.{next}
use Rattle.guest_process.specs.Numbers.{HasLegalNumbers, LegalNumbers}
use Rattle.guest_process.specs.OneEvent.{IsKeptByEvents, Rises}
use Rattle.guest_process.specs.Replay.{accepted, reach_of_entries, reach_with_entry}
use Rattle.guest_process.specs.State.{State}
use Rattle.proc_replay.specs.Sizes.{AcceptedNoLonger}
use Rattle.proc_replay.proofs.OneTurn.{one_accepted}

-- ---- one entry

-- what the test of a tag that can have been sent says
sent_low : (sender count clock : ℕ) → (nat_lt sender count && nat_le 1 clock && nat_le clock (2 ^ 62)) ≡ true → (sender < count) × (clock ≤ 2 ^ 62)
sent_low sender count clock tests = grind (arith, nat_tests)

-- the numbers of a legal entry are no greater than those of an event
common : (S : State) (e : Entry) → StateFits S → HasLegalNumbers S e → IsCommonEntry S.clock e
common S e s numbers = record {
  thread = omega (arith, numbers.thread);
  outgoing = numbers.outgoing;
  incoming = numbers.incoming;
  later = omega (arith, numbers.clock);
  plain = λ none. let clock = rw none at numbers.clock in omega (arith, clock);
  tagged = λ tag is.
      let low = sent_low tag.sender S.count tag.clock (numbers.sent tag is) in
      let clock = rw is at numbers.clock in record {
        sender = omega (arith, low.0, s.count);
        sent = low.1;
        reply = omega (arith, numbers.counted (numbers.tagged tag is), numbers.incoming);
        clock = omega (arith, clock, low.1);
      };
}

module _ (no_longer : NoLonger) (numbers : LegalNumbers) where
  legal_no_longer : (v : Version) (S : State) (e : Entry) → StateFits S → IsShaped e → reason S e ≡ None → length (encoding Two S.clock e) ≤ length (encoding v S.clock e)
  legal_no_longer One S e s shaped legal = no_longer S.clock e shaped (common S e s (numbers S e s legal))
  legal_no_longer Two S e s shaped legal = omega arith

  -- ---- entry by entry

  module _ (rises : Rises) (kept : IsKeptByEvents) where
    -- one legal entry in front
    one_more : (S : State) (e : Entry) (es : List Entry) (v : Version) (n : ℕ) → StateFits S → IsShaped e → reason S e ≡ None
        → length (encodings Two (next S e).clock (take n es)) ≤ length (encodings v (next S e).clock es)
        → length (encodings Two S.clock (e ∷ take n es)) ≤ length (encodings v S.clock (e ∷ es))
    one_more S e es v n s shaped legal rest =
        let later : length (encodings Two e.clock (take n es)) ≤ length (encodings v e.clock es) =
        subst (λ last. length (encodings Two last (take n es)) ≤ length (encodings v last es)) (rises S e s legal).told rest in
        omega (arith, later, legal_no_longer v S e s shaped legal, length-append (encoding Two S.clock e) (encodings Two e.clock (take n es)), length-append (encoding v S.clock e) (encodings v e.clock es))

    -- the first that is accepted, and those after it
    first_accepted : (S : State) (e : Entry) (es : List Entry) (v : Version) (n : ℕ) → StateFits S → IsShaped e → suc n ≤ accepted S (e ∷ es)
        → (StateFits (next S e) → n ≤ accepted (next S e) es → length (encodings Two (next S e).clock (take n es)) ≤ length (encodings v (next S e).clock es))
        → (o : Option Divergence) → reason S e ≡ o
        → length (encodings Two S.clock (e ∷ take n es)) ≤ length (encodings v S.clock (e ∷ es))
    first_accepted S e es v n s shaped few behind None legal =
        one_more S e es v n s shaped legal (behind (kept S e s legal) (omega (arith, few, one_accepted S e es legal)))
    first_accepted S e es v n s shaped few behind (Some why) differs =
        let none : accepted S (e ∷ es) ≡ 0 = ap (λ o. (reach_with_entry o (reach_of_entries (next S e) es)).accepted) differs in
        absurd (omega (arith, few, none))

    no_longer_from : (es : List Entry) (S : State) (v : Version) (n : ℕ) → StateFits S → All IsShaped es → n ≤ accepted S es
        → length (encodings Two S.clock (take n es)) ≤ length (encodings v S.clock es)
    no_longer_from es S v zero s shaped few = omega arith
    no_longer_from [] S v (suc n) s shaped few = absurd (omega (arith, few))
    no_longer_from (e ∷ es) S v (suc n) s shaped few =
        first_accepted S e es v n s (shaped 0 e (omega arith)) few
        (λ fits fewer. no_longer_from es (next S e) v n fits (λ k d low. shaped (suc k) d (omega (arith, low))) fewer)
        (reason S e) refl

    pub accepted_no_longer : AcceptedNoLonger
    accepted_no_longer S es v n s shaped few = no_longer_from es S v n s shaped few
