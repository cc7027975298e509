-- What follows of the names that were asked for by computing, which crates above need too.
use Rattle.std.specs.Prelude.{◌≡◌, ℕ, List, [], ◌++◌, Option, Some, None, OnOk, Result, Ok, Err}
use Rattle.std.proofs.Common.{ap, append-nil, append_assoc, refl, sym, ◌∙◌}
use Rattle.fri_outside.specs.Outside.{Counts, with_asked}
use Rattle.command_run.specs.Asked.{AsksAll, AsksFirst}

asked_none : (asked : Option (List (List ℕ))) → asked ≡ with_asked [] asked
asked_none None = refl
asked_none (Some names) = ap Some (sym (append-nil names))

asked_more : (first then : List (List ℕ)) (asked : Option (List (List ℕ))) → with_asked then (with_asked first asked) ≡ with_asked (first ++ then) asked
asked_more first then None = refl
asked_more first then (Some names) = ap Some (append_assoc names first then)

-- none was asked for
pub asks_none : (old new : Counts) → new.asked ≡ old.asked → AsksAll [] old new
asks_none old new same = same ∙ asked_none old.asked

pub begins_asking : (names : List (List ℕ)) (old new : Counts) → new.asked ≡ old.asked → AsksFirst names old new
begins_asking names old new same = record { first = []; rest = names; in_order = refl; asked = asks_none old new same }

-- these, and then those
pub asks_then : (first then : List (List ℕ)) (old between new : Counts) → AsksAll first old between → AsksAll then between new → AsksAll (first ++ then) old new
asks_then first then old between new one two = two ∙ ap (with_asked then) one ∙ asked_more first then old.asked

pub asks_first_then : (first then : List (List ℕ)) (old between new : Counts) → AsksAll first old between → AsksFirst then between new → AsksFirst (first ++ then) old new
asks_first_then first then old between new one two = record {
  first = first ++ two.first;
  rest = two.rest;
  in_order = ap (λ (names : List (List ℕ)). first ++ names) two.in_order ∙ sym (append_assoc first two.first two.rest);
  asked = asks_then first two.first old between new one two.asked;
}

-- these, of which more were to come
pub asks_before : (names more : List (List ℕ)) (old new : Counts) → AsksFirst names old new → AsksFirst (names ++ more) old new
asks_before names more old new asks = record {
  first = asks.first;
  rest = asks.rest ++ more;
  in_order = ap (λ (all : List (List ℕ)). all ++ more) asks.in_order ∙ append_assoc asks.first asks.rest more;
  asked = asks.asked;
}

pub all_are_first : (names : List (List ℕ)) (old new : Counts) → AsksAll names old new → AsksFirst names old new
all_are_first names old new asked = record { first = names; rest = []; in_order = sym (append-nil names); asked = asked }

-- and none after them
pub asks_no_more : (names : List (List ℕ)) (old between new : Counts) → AsksAll names old between → new.asked ≡ between.asked → AsksAll names old new
asks_no_more names old between new asked same = same ∙ asked

pub asks_first_only : (names : List (List ℕ)) (old between new : Counts) → AsksFirst names old between → new.asked ≡ between.asked → AsksFirst names old new
asks_first_only names old between new asks same = record { first = asks.first; rest = asks.rest; in_order = asks.in_order; asked = same ∙ asks.asked }

-- ---- one name after the other

-- of these names those in front were asked for, and these are still to come
pub record AsksUpTo (names rest : List (List ℕ)) (old new : Counts) : Type 0 where
  pub done : List (List ℕ)
  pub in_order : names ≡ done ++ rest
  pub asked : AsksAll done old new

pub up_to_none : (names : List (List ℕ)) (old : Counts) → AsksUpTo names names old old
up_to_none names old = record { done = []; in_order = refl; asked = asks_none old old refl }

pub up_to_more : (names part rest next : List (List ℕ)) (old between new : Counts) → AsksUpTo names next old between → next ≡ part ++ rest → AsksAll part between new → AsksUpTo names rest old new
up_to_more names part rest next old between new so_far is more = record {
  done = so_far.done ++ part;
  in_order = so_far.in_order ∙ ap (λ (names : List (List ℕ)). so_far.done ++ names) is ∙ sym (append_assoc so_far.done part rest);
  asked = asks_then so_far.done part old between new so_far.asked more;
}

pub up_to_stopped : (names part rest next : List (List ℕ)) (old between new : Counts) → AsksUpTo names next old between → next ≡ part ++ rest → AsksFirst part between new → AsksFirst names old new
up_to_stopped names part rest next old between new so_far is more =
    let all = asks_first_then so_far.done (part ++ rest) old between new so_far.asked (asks_before part rest between new more) in record {
      first = all.first;
      rest = all.rest;
      in_order = so_far.in_order ∙ ap (λ (names : List (List ℕ)). so_far.done ++ names) is ∙ all.in_order;
      asked = all.asked;
    }

pub up_to_here : (names rest : List (List ℕ)) (old new : Counts) → AsksUpTo names rest old new → AsksFirst names old new
up_to_here names rest old new so_far = record { first = so_far.done; rest = rest; in_order = so_far.in_order; asked = so_far.asked }

pub up_to_all : (names : List (List ℕ)) (old new : Counts) → AsksUpTo names [] old new → AsksAll names old new
up_to_all names old new so_far = so_far.asked ∙ ap (λ (done : List (List ℕ)). with_asked done old.asked) (sym (so_far.in_order ∙ append-nil so_far.done))

-- whatever it came to
pub on_any : {T E P : Type 0} (result : Result T E) → P → OnOk result P
on_any (Ok value) holds = holds
on_any (Err e) holds = tt
