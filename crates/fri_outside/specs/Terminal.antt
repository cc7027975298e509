-- Terminals: what is heard and what is said, and in which order.
use Rattle.std.specs.Prelude.{ℕ, List, [], ◌∷◌, ◌++◌, flat_map, Option, None, option_map}

-- a time at which more was asked for: what had been said by then, as far as that is told, and the bytes that were given
pub record Asking : Type 0 where
  pub said : Option (List ℕ)
  pub given : List ℕ

-- what is heard: the bytes that are left, how many reads failed, and each time at which more was given, the first one
-- first. The bytes and the times are told or not
pub record Hearing : Type 0 where
  pub left : Option (List ℕ)
  pub faults : ℕ
  pub asked : Option (List Asking)

-- nothing is heard
abbrev pub deaf_hearing : Hearing
deaf_hearing = record { left = None; faults = 0; asked = None }

-- the times at which more was given, where they are told, and one more
abbrev pub with_asking : Option (List ℕ) → List ℕ → Option (List Asking) → Option (List Asking)
with_asking said given asked = option_map (λ askings. askings ++ record { said = said; given = given } ∷ []) asked

-- the bytes of some askings, one after the other
abbrev pub given_in_askings : List Asking → List ℕ
given_in_askings askings = flat_map (λ asking. asking.given) askings
