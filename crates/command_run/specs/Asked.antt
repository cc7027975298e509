-- Which names a command asks the files for, and in which order.
use Rattle.std.specs.Prelude.{◌≡◌, ℕ, List, [], ◌∷◌, ◌++◌, Bool, bytes_eq, map, string_bytes, if◌then◌else◌}
use Rattle.std.specs.List.{list_any}
use Rattle.fri_outside.specs.Outside.{Counts, with_asked}
use Rattle.command_run.specs.declared.status.Status.{Status}
use Rattle.command_run.specs.declared.status.Status.TheVariants as ends
use Rattle.command_run.specs.declared.kept.ModuleFiles.{ModuleFiles}

-- all these names were asked for, in their order, and nothing else was
abbrev pub AsksAll : List (List ℕ) → Counts → Counts → Type 0
AsksAll names old new = new.asked ≡ with_asked names old.asked

-- the first of these names were asked for, in their order, and nothing else was
pub record AsksFirst (names : List (List ℕ)) (old new : Counts) : Type 0 where
  pub first : List (List ℕ)
  pub rest : List (List ℕ)
  pub in_order : names ≡ first ++ rest
  pub asked : AsksAll first old new

-- a name is one of these
abbrev pub is_named : List (List ℕ) → List ℕ → Bool
is_named names name = list_any (λ other. bytes_eq other name) names

-- a name, unless it is one of those
abbrev pub unless_named : List (List ℕ) → List ℕ → List (List ℕ)
unless_named earlier name = if is_named earlier name then [] else name ∷ []

-- these names after those, each the first time that it comes
abbrev pub first_named : List (List ℕ) → List (List ℕ) → List (List ℕ)
first_named earlier [] = []
first_named earlier (name ∷ names) = unless_named earlier name ++ first_named (earlier ++ unless_named earlier name) names

-- the names of the files whose modules are kept, in the order in which they were read
abbrev pub kept_names : ModuleFiles → List (List ℕ)
kept_names files = map (λ file. string_bytes file.name) files.kept.items

-- statuses 0 and 1: the work was done
abbrev pub IsWorkStatus : Status → Type 0
IsWorkStatus ends.Done = Unit {0}
IsWorkStatus ends.Diverged = Unit {0}
IsWorkStatus answer = ⊥

-- a call whose inputs these are asked for the first of them, in their order and for nothing else, and for all if its work was
-- done
pub record AsksInputs (inputs : List (List ℕ)) (old new : Counts) (answer : Status) : Type 0 where
  pub first : AsksFirst inputs old new
  pub all : IsWorkStatus answer → AsksAll inputs old new
