-- The stack of the program.
use Rattle.std.proofs.Common.{◌≡◌, ℕ, suc, ◌<◌, ◌≤◌, ◌-◌, ◌==◌, ◌&&◌, true, false, List, [], ◌∷◌, ◌++◌, length, slice_get, Option, Some, None, refl, sym, ap, ◌∙◌, arith, vec_len}
use Rattle.std.proofs.lemmas.Bool.{le-leb, lt-leb, eqb-false}
use Rattle.std.specs.Global.{Vec}
use Rattle.expression_text.specs.declared.expr.Unary.{Unary}
use Rattle.expression_text.specs.declared.expr.Binary.{Binary}
use Rattle.expression_text.specs.declared.expr.Expr.{Expr}
use Rattle.expression_text.specs.declared.stack.Opening.{Opening}
use Rattle.expression_text.specs.declared.stack.Frame.{Frame}
use Rattle.expression_text.specs.declared.stack.Frame.TheVariants as frame
use Rattle.expression_text.specs.declared.stack.Step.{Step}
use Rattle.expression_text.specs.declared.stack.Step.TheVariants as stepped
use Rattle.expression_text.specs.Grammar.{operator_level, left_level}
use Rattle.expression_text.specs.Expression.{Expression, One, Two, expression_of}
use Rattle.expression_text.specs.Machine.{PendingOperator, Left, Inside, MachineState, Want, Have, settle_operators, compares_left, after_operator, close, whole_expression, whole}
use Rattle.expression_text.specs.inside.Frames.{pending_of_frame, pile_operators, GivesStep, ClosesOpening}
use Rattle.expression_text.proofs.SettledOperators.{whole_settled}

pub pile_push : (under : List PendingOperator) (fs : List Frame) (f : Frame) → pile_operators under (fs ++ f ∷ []) ≡ pending_of_frame f ∷ pile_operators under fs
pile_push under [] f = refl
pile_push under (g ∷ fs) f = pile_push (pending_of_frame g ∷ under) fs f

pub popped : (old new : List Frame) (f g : Frame) → old ≡ new ++ f ∷ [] → f ≡ g → pile_operators [] old ≡ pending_of_frame g ∷ pile_operators [] new
popped old new f g e is = rw (e, is) (pile_push [] new g)

pub front_step : (least : ℕ) (old new : List Frame) (f : Frame) (op : Unary) (x y : Expr) (total : List PendingOperator × Expression) → old ≡ new ++ f ∷ [] → f ≡ frame.Front op → y ≡ x
    → settle_operators least (pile_operators [] old) (expression_of x) ≡ total → settle_operators least (pile_operators [] new) (One op (expression_of y)) ≡ total
front_step least old new f op x y total e is same so_far =
    ap (λ (z : Expr). settle_operators least (pile_operators [] new) (One op (expression_of z))) same ∙ sym (ap (λ (s : List PendingOperator). settle_operators least s (expression_of x)) (popped old new f (frame.Front op) e is)) ∙ so_far

pub left_step : (least : ℕ) (old new : List Frame) (f : Frame) (op : Binary) (x y a b : Expr) (total : List PendingOperator × Expression) → old ≡ new ++ f ∷ [] → f ≡ frame.Left op a → b ≡ a → y ≡ x → least ≤ operator_level op
    → settle_operators least (pile_operators [] old) (expression_of x) ≡ total → settle_operators least (pile_operators [] new) (Two op (expression_of b) (expression_of y)) ≡ total
left_step least old new f op x y a b total e is left same le so_far =
    ap (λ (z : Expr). settle_operators least (pile_operators [] new) (Two op (expression_of z) (expression_of y))) left
    ∙ ap (λ (z : Expr). settle_operators least (pile_operators [] new) (Two op (expression_of a) (expression_of z))) same
    ∙ sym (ap (λ (s : List PendingOperator). settle_operators least s (expression_of x)) (popped old new f (frame.Left op a) e is) ∙ rw (le-leb least (operator_level op) le) refl) ∙ so_far

pub left_stops : (least : ℕ) (old new back : List Frame) (f : Frame) (op : Binary) (x a : Expr) (total : List PendingOperator × Expression) → old ≡ new ++ f ∷ [] → f ≡ frame.Left op a → back ≡ new ++ frame.Left op a ∷ [] → operator_level op < least
    → settle_operators least (pile_operators [] old) (expression_of x) ≡ total → total ≡ (pile_operators [] back, expression_of x)
left_stops least old new back f op x a total e is pushed lt so_far =
    sym so_far ∙ ap (λ (s : List PendingOperator). settle_operators least s (expression_of x)) (popped old new f (frame.Left op a) e is) ∙ rw (lt-leb least (operator_level op) lt) (ap (λ (s : List PendingOperator). (s, expression_of x)) (sym (popped back new (frame.Left op a) (frame.Left op a) pushed refl)))

pub inside_stops : (least : ℕ) (old new back : List Frame) (f : Frame) (o : Opening) (x : Expr) (total : List PendingOperator × Expression) → old ≡ new ++ f ∷ [] → f ≡ frame.Inside o → back ≡ new ++ frame.Inside o ∷ []
    → settle_operators least (pile_operators [] old) (expression_of x) ≡ total → total ≡ (pile_operators [] back, expression_of x)
inside_stops least old new back f o x total e is pushed so_far =
    sym so_far ∙ ap (λ (s : List PendingOperator). settle_operators least s (expression_of x)) (popped old new f (frame.Inside o) e is) ∙ ap (λ (s : List PendingOperator). (s, expression_of x)) (sym (popped back new (frame.Inside o) (frame.Inside o) pushed refl))

pub pile_last : (under : List PendingOperator) (fs : List Frame) (f : Frame) → ◌≡◌ {A = Option Frame} (Some f) (slice_get fs (length fs - 1)) → (rest : List PendingOperator) × (pile_operators under fs ≡ pending_of_frame f ∷ rest)
pile_last under [] f e = absurd cc
pile_last under (g ∷ []) f e = (under, let i : f ≡ g = cc in ap (λ (h : Frame). pending_of_frame h ∷ under) (sym i))
pile_last under (g ∷ h ∷ fs) f e =
    let less : suc (suc (length fs)) - 1 ≡ suc (length fs) = omega arith in
    let same : suc (length fs) - 1 ≡ length fs = omega arith in
    pile_last (pending_of_frame g ∷ under) (h ∷ fs) f (rw same (rw less at e))

compares_first : (f : Frame) (s : List PendingOperator) → compares_left (pending_of_frame f ∷ s) ≡ compares_left (pending_of_frame f ∷ [])
compares_first (frame.Left op x) s = refl
compares_first (frame.Front op) s = refl
compares_first (frame.Inside o) s = refl

pub compares_last : (fs : List Frame) (f : Frame) → ◌≡◌ {A = Option Frame} (Some f) (slice_get fs (length fs - 1)) → compares_left (pending_of_frame f ∷ []) ≡ compares_left (pile_operators [] fs)
compares_last fs f e = let p = pile_last [] fs f e in sym (compares_first f p.0) ∙ ap compares_left (sym p.1)

pub chains_refused : (op : Binary) (s t : List PendingOperator) (x y : Expression) → settle_operators (left_level op) s x ≡ (t, y) → (operator_level op == 2 && compares_left t) ≡ true → (after_operator op (settle_operators (left_level op) s x) ≡ None) × (whole (Have t y) ≡ whole (Have s x))
chains_refused op s t x y e b = (ap (after_operator op) e ∙ rw b refl, whole_settled (left_level op) s x t y e)

pub operator_taken : (op : Binary) (s t u : List PendingOperator) (x y : Expression) → settle_operators (left_level op) s x ≡ (t, y) → (operator_level op == 2 && compares_left t) ≡ false → u ≡ Left op y ∷ t → after_operator op (settle_operators (left_level op) s x) ≡ Some (Want u)
operator_taken op s t u x y e b is = ap (after_operator op) e ∙ rw b (ap (λ (v : List PendingOperator). Some (Want v)) (sym is))

-- nothing is open
pub close_refused : (t : List ℕ) (s v u : List PendingOperator) (x y : Expression) → settle_operators 0 s x ≡ (v, y) → close t (v, y) ≡ None → u ≡ v → (close t (settle_operators 0 s x) ≡ None) × (whole (Have u y) ≡ whole (Have s x))
close_refused t s v u x y e none is = (ap (close t) e ∙ none, ap (λ (w : List PendingOperator). whole (Have w y)) is ∙ whole_settled 0 s x v y e)

alone_pile : (p : PendingOperator) (under : List PendingOperator) (fs : List Frame) (x : Expression) → whole_expression (pile_operators (p ∷ under) fs, x) ≡ None
alone_pile p under [] x = refl
alone_pile p under (g ∷ fs) x = alone_pile (pending_of_frame g) (p ∷ under) fs x

pub alone_none : (fs : List Frame) (x : Expression) → (length fs ≡ 0 → ⊥) → whole_expression (pile_operators [] fs, x) ≡ None
alone_none [] x h = absurd (h refl)
alone_none (f ∷ fs) x h = alone_pile (pending_of_frame f) [] fs x

-- what an opening last and a token give
pub closed_step : (t : List ℕ) (s v u : List PendingOperator) (x y : Expression) (o : Opening) (fs : List Frame) (r : Step) → settle_operators 0 s x ≡ (u, y) → u ≡ Inside o ∷ v → ClosesOpening (record { opening = o; inner = y; below = v }) t fs r → GivesStep (close t (settle_operators 0 s x)) (Have s x) fs r
closed_step t s v u x y o fs (stepped.Next m) e top h =
    ap (close t) (e ∙ ap (λ (w : List PendingOperator). (w, y)) top) ∙ rw h.0 (ap (λ (st : MachineState). Some st) (sym h.1))
closed_step t s v u x y o fs (stepped.Refused m) e top h =
    let all : settle_operators 0 s x ≡ (Inside o ∷ v, y) = e ∙ ap (λ (w : List PendingOperator). (w, y)) top in
    (ap (close t) all ∙ rw h.0 refl, ap whole h.1 ∙ whole_settled 0 s x (Inside o ∷ v) y all)

pub not_empty : (v : Vec Frame) → (vec_len v == 0) ≡ false → length v.items ≡ 0 → ⊥
not_empty v some e = eqb-false (vec_len v) 0 some (v.ok.0 ∙ e)
