-- What a write, a growth and a new value of a global leave of the marks.
use Rattle.std.proofs.Common.{◌≡◌, ◌<◌, ◌≤◌, ℕ, ◌*◌, zero, suc, Bool, true, false, cond, ◌&&◌, nat_lt, List, [], ◌∷◌, ◌++◌, length, get_or, replicate, length-append, refl, sym, ◌∙◌, subst, arith}
use Rattle.std.specs.Prelude.{slice_get, slice_set}
use Rattle.std.proofs.lemmas.Bool.Decides.{nat_tests}
use Rattle.std.proofs.lemmas.List.{length-replicate, length-set}
use Rattle.guest_memory.specs.Laws.{KeepsPages, NoLaterWhenGrown, NoLaterWhenWritten, StampsTell, TellsWhenGrown, TellsWhenWritten}
use Rattle.guest_memory.specs.Memory.{Memory, can_grow, no_stamps, zero_bytes}
use Rattle.guest_memory.specs.Stamps.{AreWithin}
use Rattle.wasm_types.specs.declared.code.Value.{Value}
use Rattle.wasm_store.specs.Marks.{MarkedByGrowth, MarkedTransitive, StoreMarksTell, MarksWithin, MarkedReflexive, SetMarks, WritesMark}
use Rattle.wasm_store.specs.Store.{Store}

-- ---- nothing, and one thing after the other

same_told : (number : ℕ) (memory : Memory) → StampsTell number memory memory
same_told number memory = record { grows = omega arith; longer = omega arith; pages = λ page h. record { stamp = refl; bytes = λ some inside. refl } }

pub same : MarkedReflexive
same g = record {
  later = record { number = refl; within = λ w. w };
  told = record { memory = same_told g.memory.number g.memory; places = refl; globals = λ n h. record { stamp = refl; value = λ some. refl }; size = λ h. (refl, refl) };
}

then_told : (number : ℕ) (a b c : Memory) → StampsTell number a b → StampsTell number b c → StampsTell number a c
then_told number a b c first later = record {
  grows = omega (arith, first.grows, later.grows);
  longer = omega (arith, first.longer, later.longer);
  pages = λ page h.
      let last = later.pages page h in
      let before = first.pages page (λ e. h (last.stamp ∙ e)) in
      record {
        stamp = last.stamp ∙ before.stamp;
        bytes = λ some inside. last.bytes (omega (arith, some, first.grows)) (omega (arith, inside, first.longer)) ∙ before.bytes some inside;
      };
}

then_tell : (number : ℕ) (a b c : Store) → StoreMarksTell number a b → StoreMarksTell number b c → StoreMarksTell number a c
then_tell number a b c first later = record {
  memory = then_told number a.memory b.memory c.memory first.memory later.memory;
  places = later.places ∙ first.places;
  globals = λ n h.
      let last = later.globals n h in
      let before = first.globals n (λ e. h (last.stamp ∙ e)) in
      record { stamp = last.stamp ∙ before.stamp; value = λ some. last.value (omega (arith, some, first.places)) ∙ before.value some };
  size = λ h.
      let last = later.size h in
      let before = first.size (λ e. h (last.0 ∙ e)) in
      (last.0 ∙ before.0, last.1 ∙ before.1);
}

pub follow : MarkedTransitive
follow a b c first later = record {
  later = record {
    number = later.later.number ∙ first.later.number;
    within = λ w.
        let before = subst (λ n. MarksWithin n b) (sym first.later.number) (first.later.within w) in
        subst (λ n. MarksWithin n c) first.later.number (later.later.within before);
  };
  told = then_tell a.memory.number a b c first.told (subst (λ n. StoreMarksTell n b c) first.later.number later.told);
}

-- ---- a new value of a global

set_within : (ss : List ℕ) (n number : ℕ) → AreWithin number ss → AreWithin number (slice_set ss n number)
set_within [] n number w = w
set_within (s ∷ ss) zero number w = (omega arith, w.1)
set_within (s ∷ ss) (suc n) number w = (w.0, set_within ss n number w.1)

set_stays : (ss : List ℕ) (n k number : ℕ) → (get_or (slice_set ss n number) k 0 ≡ number → ⊥) → get_or (slice_set ss n number) k 0 ≡ get_or ss k 0
set_stays [] n k number h = refl
set_stays (s ∷ ss) zero zero number h = absurd (h refl)
set_stays (s ∷ ss) zero (suc k) number h = refl
set_stays (s ∷ ss) (suc n) zero number h = refl
set_stays (s ∷ ss) (suc n) (suc k) number h = set_stays ss n k number h

-- where another global is set, by its stamp
value_stays : (ss : List ℕ) (vs : List Value) (n k number : ℕ) (v : Value) → (get_or (slice_set ss n number) k 0 ≡ number → ⊥) → k < length ss
    → slice_get (slice_set vs n v) k ≡ slice_get vs k
value_stays [] vs n k number v h some = absurd (omega arith)
value_stays (s ∷ ss) [] n k number v h some = refl
value_stays (s ∷ ss) (u ∷ vs) zero zero number v h some = absurd (h refl)
value_stays (s ∷ ss) (u ∷ vs) zero (suc k) number v h some = refl
value_stays (s ∷ ss) (u ∷ vs) (suc n) zero number v h some = refl
value_stays (s ∷ ss) (u ∷ vs) (suc n) (suc k) number v h some = value_stays ss vs n k number v h (omega arith)

pub set : SetMarks
set g n v = record {
  later = record {
    number = refl;
    within = λ w. record {
      stamps = w.stamps;
      global_stamps = set_within g.global_stamps n g.memory.number w.global_stamps;
      size_stamp = w.size_stamp;
      even = length-set g.global_stamps n g.memory.number ∙ w.even ∙ sym (length-set g.globals n v);
    };
  };
  told = record {
    memory = same_told g.memory.number g.memory;
    places = length-set g.global_stamps n g.memory.number;
    globals = λ k h. record {
      stamp = set_stays g.global_stamps n k g.memory.number h;
      value = λ some. value_stays g.global_stamps g.globals n k g.memory.number v h some;
    };
    size = λ h. (refl, refl);
  };
}

-- ---- the memory

pub written : NoLaterWhenWritten → TellsWhenWritten → KeepsPages → WritesMark
written later tells keeps g addr piece =
    let no_later = later g.memory addr piece in
    record {
      later = record {
        number = no_later.number;
        within = λ w. record { stamps = no_later.within w.stamps; global_stamps = w.global_stamps; size_stamp = w.size_stamp; even = w.even };
      };
      told = record {
        memory = tells g.memory addr piece;
        places = refl;
        globals = λ n h. record { stamp = refl; value = λ some. refl };
        size = λ h. (refl, keeps g.memory addr piece);
      };
    }

none_added : (ss : List ℕ) (pages : ℕ) → nat_lt 0 pages ≡ false → length (ss ++ no_stamps pages) ≡ length ss
unfolding no_stamps
none_added ss pages h =
    let none : pages ≤ 0 = grind (arith, nat_tests) in
    omega (arith, none, length-append ss (replicate {A = ℕ} (16 * pages) 0), length-replicate {A = ℕ} (16 * pages) 0)

either_within : (b : Bool) (number s : ℕ) → s ≤ number → cond b number s ≤ number
either_within true number s h = omega arith
either_within false number s h = h

pub grown : NoLaterWhenGrown → TellsWhenGrown → MarkedByGrowth
grown later tells g pages =
    let no_later = later g.memory pages in
    record {
      later = record {
        number = no_later.number;
        within = λ w. record {
          stamps = no_later.within w.stamps;
          global_stamps = w.global_stamps;
          size_stamp = either_within (nat_lt 0 pages && can_grow g.memory pages) g.memory.number g.size_stamp w.size_stamp;
          even = w.even;
        };
      };
      told = record {
        memory = tells g.memory pages;
        places = refl;
        globals = λ n h. record { stamp = refl; value = λ some. refl };
        size = by_tests (nat_lt 0 pages) refl (can_grow g.memory pages);
      };
    }
  where
    larger : Memory
    larger = record g.memory { bytes = g.memory.bytes ++ zero_bytes (65536 * pages); stamps = g.memory.stamps ++ no_stamps pages }

    by_tests : (some : Bool) → nat_lt 0 pages ≡ some → (can : Bool) → (cond (some && can) g.memory.number g.size_stamp ≡ g.memory.number → ⊥)
        → (cond (some && can) g.memory.number g.size_stamp ≡ g.size_stamp) × (length (cond can larger g.memory).stamps ≡ length g.memory.stamps)
    by_tests true e true h = absurd (h refl)
    by_tests true e false h = (refl, refl)
    by_tests false e true h = (refl, none_added g.memory.stamps pages e)
    by_tests false e false h = (refl, refl)
