-- What is computed of tokens is what they spell.
use Rattle.std.proofs.Common.{◌≡◌, ◌↔◌, ℕ, zero, suc, ◌<◌, ◌≤◌, Bool, true, false, cond, List, [], ◌∷◌, ◌++◌, length, take, Option, Some, None, ◌⊎◌, inl, inr, refl, sym, ap, ◌∙◌, subst, append_assoc, arith, add-one}
use Rattle.std.specs.Prelude.{bytes_eq, codes, is_some}
use Rattle.expression_text.specs.declared.expr.NodeName.TheVariants as node
use Rattle.expression_text.specs.declared.expr.Binary.{Binary}
use Rattle.expression_text.specs.declared.expr.Binary.TheVariants as binary
use Rattle.expression_text.specs.declared.stack.Half.TheVariants as half
use Rattle.expression_text.specs.declared.stack.Opening.{Opening}
use Rattle.expression_text.specs.declared.stack.Opening.TheVariants as opening
use Rattle.expression_text.specs.Spelling.{binary_of, binary_sign, is_word}
use Rattle.expression_text.specs.Expression.{Expression}
use Rattle.expression_text.specs.Grammar.{IsExpr, BeginsExpr, TakesExpr}
use Rattle.expression_text.specs.Machine.{Front, Have, Inside, Left, MachineState, More, Part, PendingOperator, Want, close, closing, enclose_expression, have_as, is_closed_with, lead_token, machine_step, machine_steps, settle_operators, went_only_if, whole}
use Rattle.expression_text.specs.Computed.{whole_expression_if, expression_spelled, begins_some_expression, viable_tokens}
use Rattle.expression_text.proofs.KnownWords.{at_read, binary_is, same_bytes}
use Rattle.expression_text.proofs.MachineReads.{steps_append, steps_keep, stands_begins, whole_says, whole_again, begins_reads}

says : (names ts : List (List ℕ)) (x : Expression) (o : Option MachineState) → machine_steps names (Some (Want [])) ts ≡ o → whole_expression_if o ≡ Some x → IsExpr names ts x
says names ts x None e w = absurd cc
says names ts x (Some st) e w = whole_says names st ts x (steps_keep names (Want []) [] ts st refl e) w

pub expressions : (names ts : List (List ℕ)) (x : Expression) → (expression_spelled names ts ≡ Some x) ↔ IsExpr names ts x
unfolding expression_spelled
expressions names ts x = (
  λ e. says names ts x (machine_steps names (Some (Want [])) ts) refl e,
  λ h. let again = whole_again names ts x h in ap whole_expression_if again.1 ∙ again.2,
)

begins_says : (names ts : List (List ℕ)) (o : Option MachineState) → machine_steps names (Some (Want [])) ts ≡ o → is_some o ≡ true → BeginsExpr names ts
begins_says names ts None e w = absurd cc
begins_says names ts (Some st) e w = stands_begins names st ts (steps_keep names (Want []) [] ts st refl e)

pub begins_is : (names ts : List (List ℕ)) → (begins_some_expression names ts ≡ true) ↔ BeginsExpr names ts
unfolding begins_some_expression
begins_is names ts = (
  λ e. begins_says names ts (machine_steps names (Some (Want [])) ts) refl e,
  λ h. let r = begins_reads names ts h in ap is_some r.1,
)

-- ---- behind an at sign and an exclamation mark

node_steps : (names ts : List (List ℕ)) → machine_steps names (Some (Want [])) (codes "@" ∷ codes "!" ∷ ts) ≡ machine_steps names (Some (Part [] (half.Node node.OfEvent))) ts
node_steps names ts = ap (λ (o : Option MachineState). machine_steps names o (codes "!" ∷ ts)) (at_read names [])

no_steps : (names ts : List (List ℕ)) → machine_steps names None ts ≡ None
no_steps names [] = refl
no_steps names (t ∷ ts) = refl

dot_by : (names ts : List (List ℕ)) (t : List ℕ) (st : MachineState) (b : Bool) → bytes_eq t (codes ".") ≡ b → machine_steps names (lead_token [] (went_only_if b (More (half.Dotted node.OfEvent)))) ts ≡ Some st
    → (more : List (List ℕ)) × (t ∷ ts ≡ codes "." ∷ more)
dot_by names ts t st true is e = (ts, ap (λ (u : List ℕ). u ∷ ts) (same_bytes t (codes ".") is))
dot_by names ts t st false is e = let never : ◌≡◌ {A = Option MachineState} None (Some st) = sym (no_steps names ts) ∙ e in absurd cc

dot_in : (names ts : List (List ℕ)) (st : MachineState) (x : Expression) → machine_steps names (Some (Part [] (half.Node node.OfEvent))) ts ≡ Some st → whole st ≡ Some x → (more : List (List ℕ)) × (ts ≡ codes "." ∷ more)
dot_in names [] st x e w =
    let same : Part [] (half.Node node.OfEvent) ≡ st = cc in
    let never : ◌≡◌ {A = Option Expression} None (Some x) = ap whole same ∙ w in
    absurd cc
dot_in names (t ∷ ts) st x e w = dot_by names ts t st (bytes_eq t (codes ".")) refl e

pub dotted_is : (names ts : List (List ℕ)) (x : Expression) → IsExpr names (codes "@" ∷ codes "!" ∷ ts) x → (more : List (List ℕ)) × (ts ≡ codes "." ∷ more)
dotted_is names ts x h =
    let again = whole_again names (codes "@" ∷ codes "!" ∷ ts) x h in
    dot_in names ts again.0 x (sym (node_steps names ts) ∙ again.1) again.2

-- ---- how many tokens begin an expression

tested : (b : Bool) → (b ≡ true) ⊎ (b ≡ false)
tested true = inl refl
tested false = inr refl

-- ---- a word behind an expression

sign_no_word : (op : Binary) → is_word (binary_sign op) ≡ false
sign_no_word binary.Or = refl
sign_no_word binary.And = refl
sign_no_word binary.Eq = refl
sign_no_word binary.Ne = refl
sign_no_word binary.Lt = refl
sign_no_word binary.Le = refl
sign_no_word binary.Gt = refl
sign_no_word binary.Ge = refl
sign_no_word binary.Add = refl
sign_no_word binary.Sub = refl
sign_no_word binary.Mul = refl
sign_no_word binary.Div = refl
sign_no_word binary.Rem = refl

closing_no_word : (o : Opening) → is_word (closing o) ≡ false
closing_no_word opening.Bracket = refl
closing_no_word (opening.Call a) = refl
closing_no_word (opening.Load node w) = refl

no_word : (word sign : List ℕ) → is_word word ≡ true → is_word sign ≡ false → word ≡ sign → ⊥
no_word word sign w n e = let never : ◌≡◌ {A = Bool} true false = sym w ∙ ap is_word e ∙ n in absurd cc

word_operates : (word : List ℕ) → is_word word ≡ true → (o : Option Binary) → binary_of word ≡ o → o ≡ None
word_operates word w None e = refl
word_operates word w (Some op) e = absurd (no_word word (binary_sign op) w (sign_no_word op) (binary_is word op e))

word_closes : (word : List ℕ) → is_word word ≡ true → (o : Opening) → is_closed_with o word ≡ false
word_closes word w o = elim (tested (bytes_eq word (closing o))) [
  | inl t ↦ absurd (no_word word (closing o) w (closing_no_word o) (same_bytes word (closing o) t))
  | inr f ↦ f
]

word_in : (word : List ℕ) → is_word word ≡ true → (s : List PendingOperator) (x : Expression) → close word (s, x) ≡ None
word_in word w [] x = refl
word_in word w (Left op y ∷ s) x = refl
word_in word w (Front op ∷ s) x = refl
word_in word w (Inside o ∷ s) x = ap (λ (b : Bool). cond b (Some (Have s (enclose_expression o x))) None) (word_closes word w o)

word_step : (names : List (List ℕ)) (word : List ℕ) (st : MachineState) (x : Expression) → is_word word ≡ true → whole st ≡ Some x → machine_step names st word ≡ None
word_step names word (Want s) x w h = absurd cc
word_step names word (Part s p) x w h = absurd cc
word_step names word (Have s y) x w h =
    let p = settle_operators 0 s y in
    ap (λ (o : Option Binary). have_as o s y word) (word_operates word w (binary_of word) refl) ∙ word_in word w p.0 p.1

-- no word follows it
pub word_ends : (names ts : List (List ℕ)) (word : List ℕ) (x : Expression) → is_word word ≡ true → IsExpr names ts x → BeginsExpr names (ts ++ word ∷ []) → ⊥
word_ends names ts word x w h b =
    let again = whole_again names ts x h in
    let r = begins_reads names (ts ++ word ∷ []) b in
    let never : ◌≡◌ {A = Option MachineState} None (Some r.0) =
    sym (steps_append names (Some (Want [])) ts (word ∷ []) ∙ ap (λ (o : Option MachineState). machine_steps names o (word ∷ [])) again.1
    ∙ ap (λ (o : Option MachineState). machine_steps names o []) (word_step names word again.0 x w again.2)) ∙ r.1 in
    cc

-- what begins an expression does so from its first tokens on
begins_front : (names a b : List (List ℕ)) → BeginsExpr names (a ++ b) → BeginsExpr names a
begins_front names a b h = record { rest = b ++ h.rest; whole = h.whole; spelled = subst (λ (ts : List (List ℕ)). IsExpr names ts h.whole) (append_assoc a b h.rest) h.spelled }

not_begun : (names ts : List (List ℕ)) → (BeginsExpr names ts → ⊥) → begins_some_expression names ts ≡ false
not_begun names ts never = elim (tested (begins_some_expression names ts)) [ inl t ↦ absurd (never ((begins_is names ts).0 t)) | inr f ↦ f ]

viable_behind : (names before ts : List (List ℕ)) (n : ℕ) → n ≤ length ts → BeginsExpr names (before ++ take n ts) → (n < length ts → BeginsExpr names (before ++ take (suc n) ts) → ⊥) → viable_tokens names before ts ≡ n
viable_behind names before [] n within begins longest = omega arith
viable_behind names before (t ∷ ts) zero within begins longest = rw (not_begun names (before ++ t ∷ []) (longest (omega arith))) refl
viable_behind names before (t ∷ ts) (suc n) within begins longest =
    let regroup : (m : ℕ) → (before ++ t ∷ []) ++ take m ts ≡ before ++ (t ∷ take m ts) = λ m. append_assoc before (t ∷ []) (take m ts) in
    let on : BeginsExpr names ((before ++ t ∷ []) ++ take n ts) = subst (BeginsExpr names) (sym (regroup n)) begins in
    let first : begins_some_expression names (before ++ t ∷ []) ≡ true = (begins_is names (before ++ t ∷ [])).1 (begins_front names (before ++ t ∷ []) (take n ts) on) in
    rw first (ap suc (viable_behind names (before ++ t ∷ []) ts n (omega arith) on (λ lt b. longest (omega arith) (subst (BeginsExpr names) (regroup (suc n)) b))))

pub viable_is : (names ts : List (List ℕ)) (n : ℕ) → TakesExpr names ts n → viable_tokens names [] ts ≡ n
viable_is names ts n h = viable_behind names [] ts n h.within h.begins (λ lt b. h.longest lt (subst (λ (m : ℕ). BeginsExpr names (take m ts)) (sym (add-one n)) b))
