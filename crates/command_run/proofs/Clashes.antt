-- A test of what is made of items, and the first that passes it.
use Rattle.std.proofs.Common.{◌≡◌, ◌||◌, Bool, true, false, cond, List, [], ◌∷◌, ◌∙◌, map, Option, Some, None, option_map, ap, refl}
use Rattle.std.specs.Prelude.{find}
use Rattle.std.specs.List.{list_any}

pub any_of_map : {X Y : Type 0} (p : Y → Bool) (h : X → Y) (xs : List X) → list_any p (map h xs) ≡ list_any (λ x. p (h x)) xs
any_of_map p h [] = refl
any_of_map p h (x ∷ xs) = ap (λ (b : Bool). p (h x) || b) (any_of_map p h xs)

first_by : {X Y : Type 0} (h : X → Y) (x : X) (b : Bool) (o : Option X) → option_map h (cond b (Some x) o) ≡ cond b (Some (h x)) (option_map h o)
first_by h x true o = refl
first_by h x false o = refl

pub find_in_map : {X Y : Type 0} (p : Y → Bool) (h : X → Y) (xs : List X) → option_map h (find (λ x. p (h x)) xs) ≡ find p (map h xs)
find_in_map p h [] = refl
find_in_map p h (x ∷ xs) = first_by h x (p (h x)) (find (λ x. p (h x)) xs) ∙ ap (cond (p (h x)) (Some (h x))) (find_in_map p h xs)

pub map_again : {X Y Z : Type 0} (g : X → Y) (h : Y → Z) (o : Option X) (found : Option Y) → option_map g o ≡ found → option_map (λ x. h (g x)) o ≡ option_map h found
map_again g h None found is = ap (option_map h) is
map_again g h (Some x) found is = ap (option_map h) is
