-- The image of a process: what it has in its memory, and what it printed.
use Rattle.std.specs.Prelude.{ℕ, List, [], ◌∷◌, ◌++◌, codes}

-- the file of its memory
abbrev pub mem_name : List ℕ → List ℕ
mem_name name = name ++ codes ".mem"

-- the file of what it printed
abbrev pub out_name : List ℕ → List ℕ
out_name name = name ++ codes ".out"

abbrev pub image_files : List ℕ → List ℕ → List ℕ → List (List ℕ × List ℕ)
image_files name memory printed = (mem_name name, memory) ∷ (out_name name, printed) ∷ []
