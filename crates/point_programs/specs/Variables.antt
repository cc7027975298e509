-- The variables of a session, in the order in which they were first mentioned.
use Rattle.std.specs.Prelude.{◌≡◌, ℕ, List, [], ◌∷◌, ◌++◌, length, nat_le, Bool, bytes_eq, Option, None, ℤ, if◌then◌else◌}
use Rattle.std.specs.List.{list_any}

-- a variable: its name, and its value, None for undef
abbrev pub Variable : Type 0
Variable = List ℕ × Option ℤ

abbrev pub is_mentioned : List Variable → List ℕ → Bool
is_mentioned variables name = list_any (λ v. bytes_eq v.0 name) variables

-- the value of a variable, which is undef where it was never set
abbrev pub variable_value : List Variable → List ℕ → Option ℤ
variable_value [] name = None
variable_value (v ∷ variables) name = if bytes_eq v.0 name then v.1 else variable_value variables name

-- with this value of a variable, which comes last where it was not mentioned before
abbrev pub with_value : List Variable → List ℕ → Option ℤ → List Variable
with_value [] name value = (name, value) ∷ []
with_value (v ∷ variables) name value = if bytes_eq v.0 name then (v.0, value) ∷ variables else v ∷ with_value variables name value

-- a variable is mentioned: where it was not before, it comes last and is undef
abbrev pub mention : List Variable → List ℕ → List Variable
mention variables name = if is_mentioned variables name then variables else variables ++ (name, None) ∷ []

-- these are mentioned, one after the other
abbrev pub mention_all : List Variable → List (List ℕ) → List Variable
mention_all variables [] = variables
mention_all variables (name ∷ names) = mention_all (mention variables name) names

-- the names are all mentioned where that makes no more than so many variables, and else none is; which is told
abbrev pub MentionsVariables : ℕ → List Variable → List (List ℕ) → List Variable → Bool → Type 0
MentionsVariables most old names new done = (done ≡ nat_le (length (mention_all old names)) most) × (new ≡ (if done then mention_all old names else old))
