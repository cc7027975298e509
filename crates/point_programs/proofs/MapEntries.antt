-- The entries of a map, as variables.
use Rattle.std.proofs.Common.{◌≡◌, ℕ, Bool, true, false, cond, ◌||◌, List, [], ◌∷◌, Option, Some, is_some, ℤ, refl, sym, ap, ◌∙◌}
use Rattle.std.specs.Cmp.Lexicographic.{nat_list_eq_equiv}
use Rattle.std.specs.Global.{Vec}
use Rattle.std.specs.Map.{lookup, set_value}
use Rattle.std.specs.Option.{option_flatten}
use Rattle.std.specs.Prelude.{bytes_eq}
use Rattle.indexmap.specs.IndexMap.{insert_entry}
use Rattle.point_programs.specs.inside.Kept.{variable, variables_of}
use Rattle.point_programs.specs.Variables.{Variable, is_mentioned, variable_value, with_value}

-- the key is this name
abbrev named : List ℕ → Vec ℕ → Bool
named name key = bytes_eq name key.items

abbrev Entries : Type 0
Entries = List (Vec ℕ × Option ℤ)

turned : (name : List ℕ) (key : Vec ℕ) → named name key ≡ bytes_eq key.items name
turned name key = nat_list_eq_equiv.symm name key.items

-- a name that is found is mentioned
some_or : (b : Bool) (v : Option ℤ) (o : Option (Option ℤ)) (m : Bool) → is_some o ≡ m → is_some (cond b (Some v) o) ≡ (b || m)
some_or true v o m h = refl
some_or false v o m h = h

pub found_mentioned : (name : List ℕ) (es : Entries) → is_some (lookup (named name) es) ≡ is_mentioned (variables_of es) name
found_mentioned name [] = refl
found_mentioned name (e ∷ es) =
    ap (λ (b : Bool). is_some (cond b (Some e.1) (lookup (named name) es))) (turned name e.0)
    ∙ some_or (bytes_eq e.0.items name) e.1 (lookup (named name) es) (is_mentioned (variables_of es) name) (found_mentioned name es)

-- what is found is the value
flat_or : (b : Bool) (v : Option ℤ) (o : Option (Option ℤ)) (w : Option ℤ) → option_flatten o ≡ w → option_flatten (cond b (Some v) o) ≡ cond b v w
flat_or true v o w h = refl
flat_or false v o w h = h

pub found_value : (name : List ℕ) (es : Entries) → option_flatten (lookup (named name) es) ≡ variable_value (variables_of es) name
found_value name [] = refl
found_value name (e ∷ es) =
    ap (λ (b : Bool). option_flatten (cond b (Some e.1) (lookup (named name) es))) (turned name e.0)
    ∙ flat_or (bytes_eq e.0.items name) e.1 (lookup (named name) es) (variable_value (variables_of es) name) (found_value name es)

-- either of two entries in front, and those after it
seen_or : (b : Bool) (e f : Vec ℕ × Option ℤ) (es fs : Entries) (vs : List Variable) → variables_of fs ≡ vs → variables_of (cond b (f ∷ es) (e ∷ fs)) ≡ cond b (variable f ∷ variables_of es) (variable e ∷ vs)
seen_or true e f es fs vs h = refl
seen_or false e f es fs vs h = ap (λ (us : List Variable). variable e ∷ us) h

-- an entry that is inserted is the variable with its value
pub inserted : (key : Vec ℕ) (value : Option ℤ) (es : Entries) → variables_of (insert_entry (λ (k : Vec ℕ). named k.items) es key value) ≡ with_value (variables_of es) key.items value
inserted key value [] = refl
inserted key value (e ∷ es) =
    ap (λ (b : Bool). variables_of (cond b ((e.0, value) ∷ es) (e ∷ insert_entry (λ (k : Vec ℕ). named k.items) es key value))) (turned key.items e.0)
    ∙ seen_or (bytes_eq e.0.items key.items) e (e.0, value) es (insert_entry (λ (k : Vec ℕ). named k.items) es key value) (with_value (variables_of es) key.items value) (inserted key value es)

-- so is one that is found and gets it
set_or : (b : Bool) (v old : Option ℤ) (o : Option (Option ℤ)) (e f : Vec ℕ × Option ℤ) (es fs : Entries) (vs : List Variable)
    → cond b (Some v) o ≡ Some old → (o ≡ Some old → variables_of fs ≡ vs) → variables_of (cond b (f ∷ es) (e ∷ fs)) ≡ cond b (variable f ∷ variables_of es) (variable e ∷ vs)
set_or true v old o e f es fs vs h rest = refl
set_or false v old o e f es fs vs h rest = ap (λ (us : List Variable). variable e ∷ us) (rest h)

pub written : (name : List ℕ) (value old : Option ℤ) (es : Entries) → lookup (named name) es ≡ Some old → variables_of (set_value (named name) es value) ≡ with_value (variables_of es) name value
written name value old [] h = cc
written name value old (e ∷ es) h =
    ap (λ (b : Bool). variables_of (cond b ((e.0, value) ∷ es) (e ∷ set_value (named name) es value))) (turned name e.0)
    ∙ set_or (bytes_eq e.0.items name) e.1 old (lookup (named name) es) e (e.0, value) es (set_value (named name) es value) (with_value (variables_of es) name value)
    (sym (ap (λ (b : Bool). cond b (Some e.1) (lookup (named name) es)) (turned name e.0)) ∙ h)
    (written name value old es)
