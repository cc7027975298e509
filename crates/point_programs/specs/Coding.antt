-- A code for statements: a list of words that gives them back. A word makes a statement of the sequences read last, and
-- puts it in front of the one before those.
use Rattle.std.specs.Prelude.{◌≡◌, ℕ, List, [], ◌∷◌, nat_eq, if◌then◌else◌, refl}
use Rattle.std.proofs.Common.{ap, ◌∙◌, ◌⊎◌, inl, inr}
use Rattle.std.specs.Coded.{Coded, code_by, coded×, coded⊎, coded_ℕ, coded_list}
use Rattle.expression_text.specs.Coding.{expression_code}
use Rattle.expression_text.specs.Expression.{Expression}
use Rattle.point_programs.specs.Tree.{SaidItem, Words, Value, NodeOfEvent, Statement, Set, Say, Stop, If, Statements, End, Then}

-- ---- items

abbrev of_item : SaidItem → List ℕ ⊎ (Expression ⊎ ℕ)
of_item (Words bytes) = inl bytes
of_item (Value x) = inr (inl x)
of_item NodeOfEvent = inr (inr 0)

abbrev item_in : List ℕ ⊎ (Expression ⊎ ℕ) → SaidItem
item_in (inl bytes) = Words bytes
item_in (inr (inl x)) = Value x
item_in (inr (inr n)) = NodeOfEvent

pub item_back : (i : SaidItem) → item_in (of_item i) ≡ i
item_back (Words bytes) = refl
item_back (Value x) = refl
item_back NodeOfEvent = refl

abbrev item_code : Coded SaidItem
item_code = code_by (List ℕ ⊎ (Expression ⊎ ℕ)) (coded⊎ (coded_list coded_ℕ) (coded⊎ expression_code coded_ℕ)) of_item item_in item_back

-- ---- words

-- of a statement that is set, of one that is said, of a choice, or the number of what has no part
abbrev Word : Type 0
Word = (List ℕ × Expression) ⊎ (List SaidItem ⊎ (Expression ⊎ ℕ))

abbrev word_code : Coded Word
word_code = coded⊎ (coded× (coded_list coded_ℕ) expression_code) (coded⊎ (coded_list item_code) (coded⊎ expression_code coded_ℕ))

-- a statement in front of the sequence read last
abbrev put : Statement → List Statements → List Statements
put s [] = []
put s (rest ∷ more) = Then s rest ∷ more

abbrev put_if : Expression → List Statements → List Statements
put_if x [] = []
put_if x (on_false ∷ []) = []
put_if x (on_false ∷ (on_true ∷ more)) = put (If x on_true on_false) more

abbrev read_word : Word → List Statements → List Statements
read_word (inl set) read = put (Set set.0 set.1) read
read_word (inr (inl items)) read = put (Say items) read
read_word (inr (inr (inl x))) read = put_if x read
read_word (inr (inr (inr n))) read = if nat_eq n 0 then End ∷ read else put Stop read

abbrev read_words : List Word → List Statements → List Statements
read_words [] read = read
read_words (w ∷ ws) read = read_words ws (read_word w read)

abbrev first_read : List Statements → Statements
first_read [] = End
first_read (p ∷ more) = p

abbrev statements_in : List Word → Statements
statements_in ws = first_read (read_words ws [])

abbrev mutual
  -- a statement's words, in front of others; those of the sequence after it stand before them
  write : Statement → List Word → List Word
  write (Set name x) ws = inl (name, x) ∷ ws
  write (Say items) ws = inr (inl items) ∷ ws
  write Stop ws = inr (inr (inr 1)) ∷ ws
  write (If x on_true on_false) ws = write_all on_true (write_all on_false (inr (inr (inl x)) ∷ ws))

  write_all : Statements → List Word → List Word
  write_all End ws = inr (inr (inr 0)) ∷ ws
  write_all (Then first rest) ws = write_all rest (write first ws)

mutual
  read_write : (s : Statement) (ws : List Word) (rest : Statements) (read : List Statements)
      → read_words (write s ws) (rest ∷ read) ≡ read_words ws (Then s rest ∷ read)
  read_write (Set name x) ws rest read = refl
  read_write (Say items) ws rest read = refl
  read_write Stop ws rest read = refl
  read_write (If x on_true on_false) ws rest read =
      read_write_statements on_true (write_all on_false (inr (inr (inl x)) ∷ ws)) (rest ∷ read)
      ∙ read_write_statements on_false (inr (inr (inl x)) ∷ ws) (on_true ∷ (rest ∷ read))

  pub read_write_statements : (p : Statements) (ws : List Word) (read : List Statements) → read_words (write_all p ws) read ≡ read_words ws (p ∷ read)
  read_write_statements End ws read = refl
  read_write_statements (Then first rest) ws read = read_write_statements rest (write first ws) read ∙ read_write first ws rest read

abbrev pub statements_code : Coded Statements
statements_code = code_by (List Word) (coded_list word_code) (λ p. write_all p []) statements_in (λ p. ap first_read (read_write_statements p [] []))
