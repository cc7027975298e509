-- What the items before a try do to a group at rest: one of them brings what the answer takes, and one the signal.
use Rattle.std.proofs.Common.{◌≡◌, ℕ, suc, ◌<◌, ◌^◌, Bool, true, false, ◌&&◌, not, cond, List, [], ◌∷◌, ◌++◌, length, take, None, refl, ap, sym, subst, ◌∙◌}
use Rattle.std.specs.Prelude.{◌==◌}
use Rattle.std.specs.Int.{w64, cast_signed, cast_unsigned}
use Rattle.std.proofs.lemmas.Int.{of_z-to_z}
use Rattle.call_table.specs.declared.kind.Kind.{Kind}
use Rattle.call_table.specs.declared.kind.Kind.TheVariants.{Now, SleepUntil, Random as RandomCall, Recv, TryRecv}
use Rattle.lib_calls.specs.declared.entry.Entry.{Entry}
use Rattle.lib_calls.specs.Answer.{answer_of}
use Rattle.lib_calls.specs.Effects.{minus_one, minus_two}
use Rattle.lib_calls.specs.Traffic.{drawn, draws_as, is_taken, takes_as}
use Rattle.guest_process.specs.Live.{Env}
use Rattle.guest_process.specs.OneEvent.{WorldBrings, MailboxMatchesAnswer, IsHeadOfMailbox, Unless, datagram_as}
use Rattle.schedule_text.specs.declared.item.Item.{Item}
use Rattle.schedule_text.specs.declared.item.Item.TheVariants as item
use Rattle.group_world.specs.History.{Clock, Inject, Random, Signal}
use Rattle.group_record.specs.Run.{Did, GroupStart, RunProgress, RunStep, after_items, entries_of_steps, history_of_steps, process_after}
use Rattle.schedule_back.specs.Back.{datagram_items, random_items, signal_items, world_items}
use Rattle.schedule_back.proofs.WorldsAround.{AreQuiet, IsGiven, IsReady, given_bytes, given_datagram, given_nothing, given_time, ready_with, ready_without}

-- so far only steps were made: no item was idle, and no log is full
abbrev pub at_rest : List RunStep → RunProgress
at_rest steps = record { steps = steps; idle = 0; full = None }

-- these items, whatever follows them, make these steps, and change no process and no log
pub record Comes (group : GroupStart) (steps : List RunStep) (items : List Item) (after : List RunStep) : Type 0 where
  pub moves : (rest : List Item) (n : ℕ) → (m : ℕ) × (after_items group n (items ++ rest) (at_rest steps) ≡ after_items group m rest (at_rest after))
  pub states : (q : ℕ) → process_after group after q ≡ process_after group steps q
  pub logs : (q : ℕ) → entries_of_steps after q ≡ entries_of_steps steps q

stays : (group : GroupStart) (steps : List RunStep) → Comes group steps [] steps
stays group steps = record { moves = λ rest n. (n, refl); states = λ q. refl; logs = λ q. refl }

-- ---- what the answer takes

-- the items of the world make steps after which the answer has what it takes
pub record IsPrepared (group : GroupStart) (count : ℕ) (steps : List RunStep) (p : ℕ) (e : Entry) (items : List Item) : Type 0 where
  pub after : List RunStep
  pub comes : Comes group steps items after
  pub given : IsGiven count (history_of_steps after) p e

taken_by : (e : Entry) (k : Kind) → e.call.kind ≡ k → is_taken e ≡ takes_as k e
unfolding is_taken
taken_by e k is = ap (λ k. takes_as k e) is

drawn_by : (e : Entry) (k : Kind) → e.call.kind ≡ k → drawn e ≡ draws_as k e
unfolding drawn
drawn_by e k is = ap (λ k. draws_as k e) is

module _ (group : GroupStart) (count : ℕ) (steps : List RunStep) (p : ℕ) (e : Entry) (quiet : AreQuiet count (history_of_steps steps)) (small : e.reply < 2 ^ 64) where
  Prepared : List Item → Type 0
  Prepared items = IsPrepared group count steps p e items

  prepared_nothing : is_taken e ≡ false → drawn e ≡ 0 → ((env : Env) → env.mailbox ≡ [] → WorldBrings e.call.kind (answer_of e) env)
      → IsPrepared group count steps p e []
  prepared_nothing taken drew brings = record { after = steps; comes = stays group steps; given = given_nothing count (history_of_steps steps) p e quiet taken drew brings }

  by_kind : (k : Kind) → e.call.kind ≡ k → (env : Env) → WorldBrings k (answer_of e) env → WorldBrings e.call.kind (answer_of e) env
  by_kind k is env brings = subst (λ (k : Kind). WorldBrings k (answer_of e) env) (sym is) brings

  -- the kinds that take nothing
  plain : (k : Kind) → e.call.kind ≡ k → takes_as k e ≡ false → draws_as k e ≡ 0 → ((env : Env) → WorldBrings k (answer_of e) env) → IsPrepared group count steps p e []
  plain k is taken drew brings = prepared_nothing (taken_by e k is ∙ taken) (drawn_by e k is ∙ drew) (λ env box. by_kind k is env (brings env))

  timed : (k : Kind) → e.call.kind ≡ k → takes_as k e ≡ false → draws_as k e ≡ 0 → ((env : Env) → env.time ≡ e.reply → WorldBrings k (answer_of e) env)
      → IsPrepared group count steps p e (item.Clock p (cast_signed w64 e.reply) ∷ [])
  timed k is taken drew brings =
      let value = cast_unsigned w64 (cast_signed w64 e.reply) in
      record {
        after = Did (Clock p value) ∷ steps;
        comes = record { moves = λ rest n. (suc n, refl); states = λ q. refl; logs = λ q. refl };
        given = given_time count (history_of_steps steps) p e value quiet (taken_by e k is ∙ taken) (drawn_by e k is ∙ drew)
            (λ env time. by_kind k is env (brings env (time ∙ of_z-to_z w64 e.reply small)));
      }

  random : e.call.kind ≡ RandomCall → IsPrepared group count steps p e (random_items p e)
  random is = by_test (e.reply == minus_one) refl where
    by_test : (bad : Bool) → (e.reply == minus_one) ≡ bad → IsPrepared group count steps p e (cond bad [] (item.Random p e.incoming ∷ []))
    by_test true bad =
        prepared_nothing (taken_by e RandomCall is) (drawn_by e RandomCall is ∙ ap (λ b. cond b 0 (length e.incoming)) bad)
        (λ env box. by_kind RandomCall is env (subst (λ b. Unless b (take (length e.incoming) env.pool ≡ e.incoming)) (sym bad) tt))
    by_test false good = record {
      after = Did (Random p e.incoming) ∷ steps;
      comes = record { moves = λ rest n. (suc n, refl); states = λ q. refl; logs = λ q. refl };
      given = given_bytes count (history_of_steps steps) p e e.incoming quiet (taken_by e RandomCall is)
          (drawn_by e RandomCall is ∙ ap (λ b. cond b 0 (length e.incoming)) good)
          (λ env pool. by_kind RandomCall is env (subst (λ b. Unless b (take (length e.incoming) env.pool ≡ e.incoming)) (sym good) (ap (take (length e.incoming)) pool ∙ whole e.incoming)));
    } where
      whole : (xs : List ℕ) → take (length xs) xs ≡ xs
      whole [] = refl
      whole (x ∷ xs) = ap (λ ys. x ∷ ys) (whole xs)

  -- the kinds that take datagrams: where one was taken it comes from outside
  datagrams : (k : Kind) → e.call.kind ≡ k → draws_as k e ≡ 0
      → (takes_as k e ≡ false → (env : Env) → env.mailbox ≡ [] → WorldBrings k (answer_of e) env)
      → (takes_as k e ≡ true → (env : Env) → env.mailbox ≡ datagram_as e.tag e.incoming ∷ [] → WorldBrings k (answer_of e) env)
      → IsPrepared group count steps p e (datagram_items p e)
  datagrams k is drew none some = by_test (is_taken e) refl where
    by_test : (taken : Bool) → is_taken e ≡ taken → IsPrepared group count steps p e (cond taken (item.Inject p (datagram_as e.tag e.incoming) ∷ []) [])
    by_test true taken = record {
      after = Did (Inject p (datagram_as e.tag e.incoming)) ∷ steps;
      comes = record { moves = λ rest n. (suc n, refl); states = λ q. refl; logs = λ q. refl };
      given = given_datagram count (history_of_steps steps) p e (datagram_as e.tag e.incoming) quiet taken (drawn_by e k is ∙ drew)
          (λ env box. by_kind k is env (some (sym (taken_by e k is) ∙ taken) env box));
    }
    by_test false taken = prepared_nothing taken (drawn_by e k is ∙ drew) (λ env box. by_kind k is env (none (sym (taken_by e k is) ∙ taken) env box))

  recv_none : not (e.reply == minus_one) ≡ false → (env : Env) → Unless (e.reply == minus_one) (IsHeadOfMailbox (answer_of e) env.mailbox)
  recv_none none env = by_test (e.reply == minus_one) none where
    by_test : (b : Bool) → not b ≡ false → Unless b (IsHeadOfMailbox (answer_of e) env.mailbox)
    by_test true none = tt
    by_test false none = cc

  first : (env : Env) → env.mailbox ≡ datagram_as e.tag e.incoming ∷ [] → IsHeadOfMailbox (answer_of e) env.mailbox
  first env box = ([], box)

  recv_some : (env : Env) → env.mailbox ≡ datagram_as e.tag e.incoming ∷ [] → Unless (e.reply == minus_one) (IsHeadOfMailbox (answer_of e) env.mailbox)
  recv_some env box = by_test (e.reply == minus_one) where
    by_test : (b : Bool) → Unless b (IsHeadOfMailbox (answer_of e) env.mailbox)
    by_test true = tt
    by_test false = first env box

  try_none : (not (e.reply == minus_one) && not (e.reply == minus_two)) ≡ false → (env : Env) → env.mailbox ≡ []
      → Unless (e.reply == minus_one) (MailboxMatchesAnswer (e.reply == minus_two) (answer_of e) env.mailbox)
  try_none none env box = by_test (e.reply == minus_one) (e.reply == minus_two) none where
    by_test : (a b : Bool) → (not a && not b) ≡ false → Unless a (MailboxMatchesAnswer b (answer_of e) env.mailbox)
    by_test true b none = tt
    by_test false true none = box
    by_test false false none = cc

  try_some : (not (e.reply == minus_one) && not (e.reply == minus_two)) ≡ true → (env : Env) → env.mailbox ≡ datagram_as e.tag e.incoming ∷ []
      → Unless (e.reply == minus_one) (MailboxMatchesAnswer (e.reply == minus_two) (answer_of e) env.mailbox)
  try_some some env box = by_test (e.reply == minus_one) (e.reply == minus_two) some where
    by_test : (a b : Bool) → (not a && not b) ≡ true → Unless a (MailboxMatchesAnswer b (answer_of e) env.mailbox)
    by_test true b some = tt
    by_test false true some = cc
    by_test false false some = first env box

  -- whatever the kind, the items of the world bring what the answer takes
  pub prepared : (k : Kind) → e.call.kind ≡ k → IsPrepared group count steps p e (world_items k p e)
  prepared Now is = timed Now is refl refl (λ env time. time)
  prepared SleepUntil is = timed SleepUntil is refl refl (λ env time. time)
  prepared RandomCall is = random is
  prepared Recv is = datagrams Recv is refl (λ none env box. recv_none none env) (λ some env box. recv_some env box)
  prepared TryRecv is = datagrams TryRecv is refl (λ none env box. try_none none env box) (λ some env box. try_some some env box)
  prepared k is = plain k is refl refl (λ env. tt)

-- ---- the signal

-- the items before the try make steps after which all that the event takes is there
pub record AreReady (group : GroupStart) (count : ℕ) (steps : List RunStep) (p : ℕ) (e : Entry) : Type 0 where
  pub after : List RunStep
  pub comes : Comes group steps (world_items e.call.kind p e ++ signal_items p e) after
  pub ready : IsReady count (history_of_steps after) p e

signalled : (group : GroupStart) (count : ℕ) (steps : List RunStep) (p : ℕ) (e : Entry) → IsGiven count (history_of_steps steps) p e
    → (after : List RunStep) × Comes group steps (signal_items p e) after × IsReady count (history_of_steps after) p e
signalled group count steps p e given = by_test (e.signal == 0) refl where
  by_test : (none : Bool) → (e.signal == 0) ≡ none
      → (after : List RunStep) × Comes group steps (cond none [] (item.Signal p e.signal ∷ [])) after × IsReady count (history_of_steps after) p e
  by_test true none = (steps, stays group steps, ready_without count (history_of_steps steps) p e given none)
  by_test false some = (
    Did (Signal p e.signal) ∷ steps,
    record { moves = λ rest n. (suc n, refl); states = λ q. refl; logs = λ q. refl },
    ready_with count (history_of_steps steps) p e given,
  )

pub regroup : {A : Type 0} (xs ys zs : List A) → (xs ++ ys) ++ zs ≡ xs ++ (ys ++ zs)
regroup [] ys zs = refl
regroup (x ∷ xs) ys zs = ap (λ l. x ∷ l) (regroup xs ys zs)

then_comes : (group : GroupStart) (steps between after : List RunStep) (first second : List Item) → Comes group steps first between → Comes group between second after → Comes group steps (first ++ second) after
then_comes group steps between after first second one other = record {
  moves = λ rest n.
      let a = one.moves (second ++ rest) n in
      let b = other.moves rest a.0 in
      (b.0, ap (λ items. after_items group n items (at_rest steps)) (regroup first second rest) ∙ a.1 ∙ b.1);
  states = λ q. other.states q ∙ one.states q;
  logs = λ q. other.logs q ∙ one.logs q;
}

pub are_ready : (group : GroupStart) (count : ℕ) (steps : List RunStep) (p : ℕ) (e : Entry) → AreQuiet count (history_of_steps steps) → e.reply < 2 ^ 64 → AreReady group count steps p e
are_ready group count steps p e quiet small =
    let world = prepared group count steps p e quiet small e.call.kind refl in
    let signal = signalled group count world.after p e world.given in
    record {
      after = signal.0;
      comes = then_comes group steps world.after signal.0 (world_items e.call.kind p e) (signal_items p e) world.comes signal.1;
      ready = signal.2;
    }
