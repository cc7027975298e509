-- Steps of reading, one after the other.
use Rattle.std.proofs.Common.{◌≡◌, ℕ, suc, zero, ◌+◌, ◌-◌, List, [], ◌∷◌, codes, drop, map, slice_get, Option, Some, None, Result, Ok, Err, Bool, true, false, if◌then◌else◌, refl, sym, ap, ◌∙◌, arith}
use Rattle.std.proofs.lemmas.List.{drop-drop}
use Rattle.std.specs.Global.{Vec}
use Rattle.std.specs.Option.{option_and_then}
use Rattle.expression_text.specs.declared.error.ExprError.{ExprError}
use Rattle.expression_text.specs.declared.error.ExprError.TheVariants.{Syntax, NoNode, TooDeep, Nested, NoMemory}
use Rattle.expression_text.specs.Computed.{expression_spelled}
use Rattle.expression_text.specs.Lexing.{LexedLine, token_texts}
use Rattle.expression_text.specs.Expression.{Expression, expression_of}
use Rattle.expression_text.specs.declared.expr.Expr.{Expr}
use Rattle.std.specs.Result.{is_ok}
use Rattle.point_programs.specs.declared.program.Stmt.TheVariants as stmt
use Rattle.point_programs.specs.inside.TreeLaws.{statement_of-if}
use Rattle.point_programs.specs.declared.program.Stmt.{Stmt}
use Rattle.point_programs.specs.inside.Parsed.{ReadAsTokens}
use Rattle.point_programs.specs.Reading.{LeftTokens, ReadOfTokens, after_token, else_part, expression, if_statement, item, names_event_node, node_or_value, braced_part, program_in, separated_items, statement, string_of, string_or_value, then_reads}
use Rattle.point_programs.specs.Tree.{SaidItem, Words, Value, NodeOfEvent, Statement, Statements, End, Then, sequence, statement_of, statements}
use Rattle.point_programs.proofs.ReadTokens.{at_end, at_token, drop_one, first_is}

-- where a first step is refused, so is the whole
pub refused_first : {A B C D : Type 0} (f : A → B) (g : C → D) (line : LexedLine) (wanted : ReadOfTokens B) (next : B → LeftTokens → ReadOfTokens D) (whole : ReadOfTokens D) (e : ExprError) → whole ≡ then_reads wanted next → ReadAsTokens f line wanted (Err e) → ReadAsTokens g line whole (Err e)
refused_first f g line wanted next whole (Syntax column) is h = (h.0, is ∙ ap (λ (r : ReadOfTokens _). then_reads r next) h.1, h.2)
refused_first f g line wanted next whole NoMemory is h = tt
refused_first f g line wanted next whole NoNode is h = h
refused_first f g line wanted next whole TooDeep is h = h
refused_first f g line wanted next whole Nested is h = h

words_at : (names ts : List (List ℕ)) (n : ℕ) (body : List ℕ) (t : Option (List ℕ)) → slice_get ts n ≡ t → option_and_then string_of t ≡ Some body → item names (drop n ts) ≡ Ok (Words body, drop (n + 1) ts)
words_at names ts n body None e h = absurd (cc)
words_at names ts n body (Some t) e h = rw (at_token ts n t e) (ap (λ (o : Option (List ℕ)). string_or_value names o t (drop (n + 1) ts)) h)

-- an item that is a string
pub item_words : (names ts : List (List ℕ)) (n : ℕ) (body : List ℕ) → option_and_then string_of (slice_get ts n) ≡ Some body → item names (drop n ts) ≡ Ok (Words body, drop (n + 1) ts)
item_words names ts n body h = words_at names ts n body (slice_get ts n) refl h

-- the value of what was read
abbrev pub as_value : Expression → LeftTokens → ReadOfTokens SaidItem
as_value x left = Ok (Value x, left)

nothing_read : (names : List (List ℕ)) → then_reads (expression names []) as_value ≡ Err []
unfolding expression_spelled
nothing_read names = refl

item_at : (names ts : List (List ℕ)) (n : ℕ) (t : List ℕ) (b : Bool) → slice_get ts n ≡ Some t → string_of t ≡ None → names_event_node (drop n ts) ≡ b → item names (drop n ts) ≡ node_or_value names b (drop n ts)
item_at names ts n t b e h is =
    let here = at_token ts n t e in
    let first : item names (t ∷ drop (n + 1) ts) ≡ node_or_value names (names_event_node (t ∷ drop (n + 1) ts)) (t ∷ drop (n + 1) ts) = ap (λ (o : Option (List ℕ)). string_or_value names o t (drop (n + 1) ts)) h in
    ap (item names) here ∙ first ∙ ap (λ (us : LeftTokens). node_or_value names (names_event_node us) us) (sym here) ∙ ap (λ (b : Bool). node_or_value names b (drop n ts)) is

value_at : (names ts : List (List ℕ)) (n : ℕ) (t : Option (List ℕ)) → slice_get ts n ≡ t → option_and_then string_of t ≡ None → names_event_node (drop n ts) ≡ false → item names (drop n ts) ≡ then_reads (expression names (drop n ts)) as_value
value_at names ts n None e h is = rw (at_end ts n e) (sym (nothing_read names))
value_at names ts n (Some t) e h is = item_at names ts n t false e h is

-- one that is none
pub item_value : (names ts : List (List ℕ)) (n : ℕ) → option_and_then string_of (slice_get ts n) ≡ None → names_event_node (drop n ts) ≡ false → item names (drop n ts) ≡ then_reads (expression names (drop n ts)) as_value
item_value names ts n h is = value_at names ts n (slice_get ts n) refl h is

node_at : (names ts : List (List ℕ)) (n : ℕ) (t : Option (List ℕ)) → slice_get ts n ≡ t → option_and_then string_of t ≡ None → names_event_node (drop n ts) ≡ true → item names (drop n ts) ≡ Ok (NodeOfEvent, drop (n + 2) ts)
node_at names ts n None e h is = let never : ◌≡◌ {A = Bool} false true = ap names_event_node (sym (at_end ts n e)) ∙ is in absurd cc
node_at names ts n (Some t) e h is = item_at names ts n t true e h is ∙ ap (λ (left : LeftTokens). Ok (NodeOfEvent, left)) (drop-drop 2 n ts)

-- the node of the position's event
pub item_node : (names ts : List (List ℕ)) (n : ℕ) → option_and_then string_of (slice_get ts n) ≡ None → names_event_node (drop n ts) ≡ true → item names (drop n ts) ≡ Ok (NodeOfEvent, drop (n + 2) ts)
item_node names ts n h is = node_at names ts n (slice_get ts n) refl h is

-- the statements of a list
pub sequence_is : (list : List Stmt) → sequence (map {A = Stmt} statement_of list) ≡ statements list
sequence_is [] = refl
sequence_is (first ∷ rest) = ap (Then (statement_of first)) (sequence_is rest)

-- a whole of statements
abbrev pub as_sequence : List Statement → LeftTokens → ReadOfTokens Statements
as_sequence list left = Ok (sequence list, left)

-- a program in no level
pub no_levels : (levels : ℕ) (names ts : List (List ℕ)) → levels ≡ 0 → program_in levels names ts ≡ Err ts
no_levels levels names ts none = ap (λ (n : ℕ). program_in n names ts) none

-- a program in one level or more
pub program_at : (levels : ℕ) (names ts : List (List ℕ)) → (levels ≡ 0 → ⊥) → program_in levels names ts ≡ then_reads (separated_items (codes ";") (statement (program_in (levels - 1) names) names) ts) as_sequence
program_at zero names ts some = absurd (some refl)
program_at (suc levels) names ts some =
    let e : levels ≡ suc levels - 1 = omega arith in
    ap (λ (n : ℕ). then_reads (separated_items (codes ";") (statement (program_in n names) names) ts) as_sequence) e

-- statements were read, or refused
pub sequence_as : (line : LexedLine) (wanted : ReadOfTokens (List Statement)) (whole : ReadOfTokens Statements) (r : Result (Vec Stmt × ℕ) ExprError) → whole ≡ then_reads wanted as_sequence → ReadAsTokens (λ (v : Vec Stmt). map {A = Stmt} statement_of v.items) line wanted r → ReadAsTokens (λ (v : Vec Stmt). statements v.items) line whole r
sequence_as line wanted whole (Ok r) is h =
    is ∙ (ap (λ (r : ReadOfTokens (List Statement)). then_reads r as_sequence) h ∙ ap (λ (s : Statements). Ok (s, drop r.1 (token_texts line))) (sequence_is r.0.items))
sequence_as line wanted whole (Err e) is h =
    refused_first (λ (v : Vec Stmt). map {A = Stmt} statement_of v.items) (λ (v : Vec Stmt). statements v.items) line wanted as_sequence whole e is h

-- a choice was read
pub choice_read : (inside : LeftTokens → ReadOfTokens Statements) (names : List (List ℕ)) (ts behind_test behind_true left : LeftTokens) (x : Expr) (on_true on_false : Vec Stmt) → expression names ts ≡ Ok (expression_of x, behind_test) → braced_part inside behind_test ≡ Ok (statements on_true.items, behind_true) → else_part inside behind_true ≡ Ok (statements on_false.items, left) → if_statement inside names ts ≡ Ok (statement_of (stmt.If x on_true on_false), left)
choice_read inside names ts behind_test behind_true left x on_true on_false test first second =
    rw (test, first, second) (ap (λ (s : Statement). Ok (s, left)) (sym (statement_of-if x on_true on_false)))

-- a part where a test holds, and else none
abbrev part_if : Bool → ReadOfTokens Statements → LeftTokens → ReadOfTokens Statements
part_if b read left = if b then read else Ok (End, left)

else_there : (inside : LeftTokens → ReadOfTokens Statements) (left : LeftTokens) → is_ok (after_token (codes "else") left) ≡ true → else_part inside left ≡ braced_part inside (drop 1 left)
else_there inside [] e = absurd (cc)
else_there inside (t ∷ left) e = ap (λ (b : Bool). part_if b (braced_part inside left) (t ∷ left)) (sym (first_is (codes "else") t left) ∙ e)

-- a second part after `else`
pub else_is : (inside : LeftTokens → ReadOfTokens Statements) (ts : LeftTokens) (n : ℕ) → is_ok (after_token (codes "else") (drop n ts)) ≡ true → else_part inside (drop n ts) ≡ braced_part inside (drop (n + 1) ts)
else_is inside ts n e = else_there inside (drop n ts) e ∙ ap (braced_part inside) (drop_one ts n)
