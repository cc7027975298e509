-- A code for expressions: a list of words, each a kind and numbers, that gives them back. A word makes an expression
-- of those read last.
use Rattle.std.specs.Prelude.{◌≡◌, ℕ, List, [], ◌∷◌, Some, None, nat_eq, get_or, if◌then◌else◌, refl}
use Rattle.std.proofs.Common.{ap, ◌∙◌}
use Rattle.std.specs.Coded.{Coded, code_by, coded×, coded_ℕ, coded_list}
use Rattle.expression_text.specs.declared.expr.Agg.{Agg}
use Rattle.expression_text.specs.declared.expr.Agg.TheVariants as agg
use Rattle.expression_text.specs.declared.expr.Binary.{Binary}
use Rattle.expression_text.specs.declared.expr.Binary.TheVariants as binary
use Rattle.expression_text.specs.declared.expr.NodeName.{NodeName}
use Rattle.expression_text.specs.declared.expr.NodeName.TheVariants as named
use Rattle.expression_text.specs.declared.expr.Unary.{Unary}
use Rattle.expression_text.specs.declared.expr.Unary.TheVariants as unary
use Rattle.expression_text.specs.declared.expr.Width.{Width}
use Rattle.expression_text.specs.declared.expr.Width.TheVariants as width
use Rattle.expression_text.specs.Expression.{Expression, Number, Var, One, Two, Over, Load, Global, Clock, Events, Size, LastThread, HasEnded}

abbrev Word : Type 0
Word = ℕ × List ℕ

-- ---- the parts of an expression, and their numbers

abbrev of_unary : Unary → ℕ
of_unary unary.Minus = 0
of_unary unary.Not = 1

abbrev unary_in : ℕ → Unary
unary_in n = if nat_eq n 0 then unary.Minus else unary.Not

unary_back : (op : Unary) → unary_in (of_unary op) ≡ op
unary_back unary.Minus = refl
unary_back unary.Not = refl

abbrev of_binary : Binary → ℕ
of_binary binary.Or = 0
of_binary binary.And = 1
of_binary binary.Eq = 2
of_binary binary.Ne = 3
of_binary binary.Lt = 4
of_binary binary.Le = 5
of_binary binary.Gt = 6
of_binary binary.Ge = 7
of_binary binary.Add = 8
of_binary binary.Sub = 9
of_binary binary.Mul = 10
of_binary binary.Div = 11
of_binary binary.Rem = 12

abbrev binary_in : ℕ → Binary
binary_in n =
    if nat_eq n 0 then binary.Or else
    if nat_eq n 1 then binary.And else
    if nat_eq n 2 then binary.Eq else
    if nat_eq n 3 then binary.Ne else
    if nat_eq n 4 then binary.Lt else
    if nat_eq n 5 then binary.Le else
    if nat_eq n 6 then binary.Gt else
    if nat_eq n 7 then binary.Ge else
    if nat_eq n 8 then binary.Add else
    if nat_eq n 9 then binary.Sub else
    if nat_eq n 10 then binary.Mul else
    if nat_eq n 11 then binary.Div else
    binary.Rem

binary_back : (op : Binary) → binary_in (of_binary op) ≡ op
binary_back binary.Or = refl
binary_back binary.And = refl
binary_back binary.Eq = refl
binary_back binary.Ne = refl
binary_back binary.Lt = refl
binary_back binary.Le = refl
binary_back binary.Gt = refl
binary_back binary.Ge = refl
binary_back binary.Add = refl
binary_back binary.Sub = refl
binary_back binary.Mul = refl
binary_back binary.Div = refl
binary_back binary.Rem = refl

abbrev of_agg : Agg → ℕ
of_agg agg.Sum = 0
of_agg agg.Min = 1
of_agg agg.Max = 2
of_agg agg.Count = 3

abbrev agg_in : ℕ → Agg
agg_in n = if nat_eq n 0 then agg.Sum else if nat_eq n 1 then agg.Min else if nat_eq n 2 then agg.Max else agg.Count

agg_back : (a : Agg) → agg_in (of_agg a) ≡ a
agg_back agg.Sum = refl
agg_back agg.Min = refl
agg_back agg.Max = refl
agg_back agg.Count = refl

abbrev of_width : Width → ℕ
of_width width.U8 = 0
of_width width.U16 = 1
of_width width.U32 = 2
of_width width.I8 = 3
of_width width.I16 = 4
of_width width.I32 = 5
of_width width.I64 = 6

abbrev width_in : ℕ → Width
width_in n =
    if nat_eq n 0 then width.U8 else
    if nat_eq n 1 then width.U16 else
    if nat_eq n 2 then width.U32 else
    if nat_eq n 3 then width.I8 else
    if nat_eq n 4 then width.I16 else
    if nat_eq n 5 then width.I32 else
    width.I64

width_back : (w : Width) → width_in (of_width w) ≡ w
width_back width.U8 = refl
width_back width.U16 = refl
width_back width.U32 = refl
width_back width.I8 = refl
width_back width.I16 = refl
width_back width.I32 = refl
width_back width.I64 = refl

abbrev of_node : NodeName → List ℕ
of_node named.Each = []
of_node (named.Named None) = 0 ∷ []
of_node (named.Named (Some n)) = 1 ∷ (n ∷ [])
of_node named.OfEvent = 2 ∷ []

abbrev node_in : List ℕ → NodeName
node_in [] = named.Each
node_in (kind ∷ ns) =
    if nat_eq kind 0 then named.Named None else
    if nat_eq kind 1 then named.Named (Some (get_or ns 0 0)) else
    named.OfEvent

node_back : (name : NodeName) → node_in (of_node name) ≡ name
node_back named.Each = refl
node_back (named.Named None) = refl
node_back (named.Named (Some n)) = refl
node_back named.OfEvent = refl

-- a number that is in front of a node
abbrev first_in : List ℕ → ℕ
first_in ns = get_or ns 0 0

abbrev rest_in : List ℕ → List ℕ
rest_in [] = []
rest_in (n ∷ ns) = ns

-- ---- words

-- an expression with none inside it, by its kind
abbrev leaf_in : ℕ → List ℕ → Expression
leaf_in kind ns =
    if nat_eq kind 0 then Number (first_in ns) else
    if nat_eq kind 1 then Var ns else
    if nat_eq kind 2 then Global (node_in (rest_in ns)) (first_in ns) else
    if nat_eq kind 3 then Clock (node_in ns) else
    if nat_eq kind 4 then Events (node_in ns) else
    if nat_eq kind 5 then Size (node_in ns) else
    if nat_eq kind 10 then LastThread (node_in ns) else
    HasEnded (node_in ns)

-- an expression over the one read last, by its kind
abbrev over_last : ℕ → List ℕ → List Expression → List Expression
over_last kind ns [] = []
over_last kind ns (x ∷ more) =
    if nat_eq kind 6 then One (unary_in (first_in ns)) x ∷ more else
    if nat_eq kind 7 then Over (agg_in (first_in ns)) x ∷ more else
    Load (node_in (rest_in ns)) (width_in (first_in ns)) x ∷ more

-- an operator between the two read last
abbrev between : List ℕ → List Expression → List Expression
between ns [] = []
between ns (y ∷ []) = []
between ns (y ∷ (x ∷ more)) = Two (binary_in (first_in ns)) x y ∷ more

abbrev read_word : ℕ → List ℕ → List Expression → List Expression
read_word kind ns read =
    if nat_eq kind 6 then over_last 6 ns read else
    if nat_eq kind 7 then over_last 7 ns read else
    if nat_eq kind 8 then over_last 8 ns read else
    if nat_eq kind 9 then between ns read else
    leaf_in kind ns ∷ read

abbrev read_words : List Word → List Expression → List Expression
read_words [] read = read
read_words (w ∷ ws) read = read_words ws (read_word w.0 w.1 read)

abbrev first_read : List Expression → Expression
first_read [] = Number 0
first_read (x ∷ more) = x

abbrev tree_in : List Word → Expression
tree_in ws = first_read (read_words ws [])

-- an expression's words, in front of others
abbrev write : Expression → List Word → List Word
write (Number n) ws = (0, n ∷ []) ∷ ws
write (Var name) ws = (1, name) ∷ ws
write (One op x) ws = write x ((6, of_unary op ∷ []) ∷ ws)
write (Two op x y) ws = write x (write y ((9, of_binary op ∷ []) ∷ ws))
write (Over a x) ws = write x ((7, of_agg a ∷ []) ∷ ws)
write (Load name w x) ws = write x ((8, of_width w ∷ of_node name) ∷ ws)
write (Global name n) ws = (2, n ∷ of_node name) ∷ ws
write (Clock name) ws = (3, of_node name) ∷ ws
write (Events name) ws = (4, of_node name) ∷ ws
write (Size name) ws = (5, of_node name) ∷ ws
write (LastThread name) ws = (10, of_node name) ∷ ws
write (HasEnded name) ws = (11, of_node name) ∷ ws

pub read_write : (x : Expression) (ws : List Word) (read : List Expression) → read_words (write x ws) read ≡ read_words ws (x ∷ read)
read_write (Number n) ws read = refl
read_write (Var name) ws read = refl
read_write (One op x) ws read =
    read_write x ((6, of_unary op ∷ []) ∷ ws) read ∙ ap (λ o. read_words ws (One o x ∷ read)) (unary_back op)
read_write (Two op x y) ws read =
    read_write x (write y ((9, of_binary op ∷ []) ∷ ws)) read
    ∙ read_write y ((9, of_binary op ∷ []) ∷ ws) (x ∷ read)
    ∙ ap (λ o. read_words ws (Two o x y ∷ read)) (binary_back op)
read_write (Over a x) ws read = read_write x ((7, of_agg a ∷ []) ∷ ws) read ∙ ap (λ o. read_words ws (Over o x ∷ read)) (agg_back a)
read_write (Load name w x) ws read =
    read_write x ((8, of_width w ∷ of_node name) ∷ ws) read
    ∙ ap (λ n. read_words ws (Load n (width_in (of_width w)) x ∷ read)) (node_back name)
    ∙ ap (λ v. read_words ws (Load name v x ∷ read)) (width_back w)
read_write (Global name n) ws read = ap (λ m. read_words ws (Global m n ∷ read)) (node_back name)
read_write (Clock name) ws read = ap (λ m. read_words ws (Clock m ∷ read)) (node_back name)
read_write (Events name) ws read = ap (λ m. read_words ws (Events m ∷ read)) (node_back name)
read_write (Size name) ws read = ap (λ m. read_words ws (Size m ∷ read)) (node_back name)
read_write (LastThread name) ws read = ap (λ m. read_words ws (LastThread m ∷ read)) (node_back name)
read_write (HasEnded name) ws read = ap (λ m. read_words ws (HasEnded m ∷ read)) (node_back name)

abbrev pub expression_code : Coded Expression
expression_code = code_by (List Word) (coded_list (coded× coded_ℕ (coded_list coded_ℕ))) (λ x. write x []) tree_in (λ x. ap first_read (read_write x [] []))
