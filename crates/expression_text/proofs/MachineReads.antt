-- The machine reads exactly what the grammar spells, and stops exactly where no expression goes on.
use Rattle.std.proofs.Common.{◌≡◌, ℕ, zero, suc, ◌<◌, ◌≤◌, Bool, true, false, cond, nat_le, inl, inr, List, [], ◌∷◌, ◌++◌, Option, Some, None, refl, sym, ap, ◌∙◌, subst, append_assoc, arith}
use Rattle.std.specs.Prelude.{bytes_eq, codes}
use Rattle.std.proofs.lemmas.List.{append-nil}
use Rattle.std.proofs.lemmas.Bool.{leb-true, leb-false, le-leb}
use Rattle.expression_text.specs.declared.expr.Unary.{Unary}
use Rattle.expression_text.specs.declared.expr.Binary.{Binary}
use Rattle.expression_text.specs.declared.expr.Agg.{Agg}
use Rattle.expression_text.specs.declared.expr.NodeName.{NodeName}
use Rattle.expression_text.specs.declared.expr.NodeName.TheVariants as node
use Rattle.expression_text.specs.declared.stack.Opening.{Opening}
use Rattle.expression_text.specs.declared.stack.Opening.TheVariants as opening
use Rattle.expression_text.specs.declared.stack.Half.{Half}
use Rattle.expression_text.specs.declared.stack.Half.TheVariants as half
use Rattle.expression_text.specs.declared.word.PlaceWord.{PlaceWord}
use Rattle.expression_text.specs.declared.word.PlaceWord.TheVariants as place
use Rattle.expression_text.specs.Expression.{Expression, Number, One, Two, Over, Var, Load, Global, Clock, Events, Size, LastThread, HasEnded}
use Rattle.expression_text.specs.Spelling.{is_word, number_of, node_spelled, binary_sign, binary_of, unary_sign, unary_of, agg_word, agg_of, place_word, place_of}
use Rattle.expression_text.specs.Grammar.{UNARY, FIRST, operator_level, left_level, IsExprAtLevel, higher, two, one, number, variable, brackets, over, load, global, clock, events, size, last_thread, has_ended, IsExpr, BeginsExpr}
use Rattle.expression_text.specs.Machine.{PendingOperator, Left, Front, Inside, MachineState, Want, Have, Part, settle_operators, after_operator, closing, is_closed_with, enclose_expression, close, TokenWent, More, Whole, Opens, went_when, went_only_if, at_place, begin_as, begun_by_token, onward_token, lead_token, step_wanting_sign, step_wanting_number, have_as, machine_step, machine_steps, whole_expression, whole}
use Rattle.expression_text.proofs.SettledOperators.{tested, left_high, left_low, Fits, fits_more, fits_unary, settle_stops, operator_goes, operator_gave}
use Rattle.expression_text.proofs.KnownWords.{same_bytes, binary_is, binary_again, unary_is, agg_is, place_is, place_again, sign_read, agg_read, bracket_read, dollar_read, at_read, closing_again, zero_is}

module _ (names : List (List ℕ)) where
  -- what is spelled at a level is spelled at each lower one
  pub weaken : (m k : ℕ) (ts : List (List ℕ)) (x : Expression) → k ≤ m → IsExprAtLevel names m ts x → IsExprAtLevel names k ts x
  weaken zero k ts x le h = subst (λ (j : ℕ). IsExprAtLevel names j ts x) (let e : zero ≡ k = omega arith in e) h
  weaken (suc m) k ts x le h = elim (tested (nat_le k m)) [
    | inl t ↦ weaken m k ts x (leb-true k m t) (higher h)
    | inr f ↦ subst (λ (j : ℕ). IsExprAtLevel names j ts x) (let e : suc m ≡ k = omega (arith, leb-false k m f) in e) h
  ]

  -- ---- what is spelled is read

  pub steps_append : (o : Option MachineState) (a b : List (List ℕ)) → machine_steps names o (a ++ b) ≡ machine_steps names (machine_steps names o a) b
  steps_append None [] [] = refl
  steps_append None [] (k ∷ ks) = refl
  steps_append None (k ∷ a) [] = refl
  steps_append None (k ∷ a) (j ∷ b) = refl
  steps_append (Some st) [] b = refl
  steps_append (Some st) (k ∷ a) b = steps_append (machine_step names st k) a b

  steps_none : (ks : List (List ℕ)) → machine_steps names None ks ≡ None
  steps_none [] = refl
  steps_none (k ∷ ks) = refl

  reached : (o : Option MachineState) (ks : List (List ℕ)) (st : MachineState) → machine_steps names o ks ≡ Some st → (st : MachineState) × (o ≡ Some st)
  reached None ks st e = absurd (let f = sym (steps_none ks) ∙ e in cc)
  reached (Some st) ks last e = (st, refl)

  -- the tokens lead from an operand that is wanted to one that is had, and it settles as x does
  pub record Reads (k : ℕ) (s : List PendingOperator) (ts : List (List ℕ)) (x : Expression) : Type 0 where
    pub after : List PendingOperator
    pub last : Expression
    pub reads : machine_steps names (Some (Want s)) ts ≡ Some (Have after last)
    pub settles : (m : ℕ) → m ≤ k → settle_operators m after last ≡ settle_operators m s x

  -- what is enclosed, with the token that closes it
  closed : (o : Opening) (s : List PendingOperator) (a : List (List ℕ)) (x : Expression) → Reads 0 (Inside o ∷ s) a x → machine_steps names (Some (Want (Inside o ∷ s))) (a ++ closing o ∷ []) ≡ Some (Have s (enclose_expression o x))
  closed o s a x r =
      let k = closing o in
      let p : settle_operators 0 r.after r.last ≡ (Inside o ∷ s, x) = r.settles 0 (omega arith) in
      let again = closing_again o in
      let q : machine_step names (Have r.after r.last) k ≡ Some (Have s (enclose_expression o x)) =
      ap (λ (b : Option Binary). have_as b r.after r.last k) again.0 ∙ ap (close k) p ∙ ap (λ (b : Bool). cond b (Some (Have s (enclose_expression o x))) None) again.1 in
      steps_append (Some (Want (Inside o ∷ s))) a (k ∷ []) ∙ ap (λ (o : Option MachineState). machine_steps names o (k ∷ [])) r.reads ∙ ap (λ (o : Option MachineState). machine_steps names o []) q

  -- a fixed sequence in front of the rest
  variable_steps : (s : List PendingOperator) (word : List ℕ) → is_word word ≡ true → machine_steps names (Some (Want s)) (codes "$" ∷ word ∷ []) ≡ Some (Have s (Var word))
  variable_steps s word e =
      ap (λ (o : Option MachineState). machine_steps names o (word ∷ [])) (dollar_read names s) ∙ ap (λ (b : Bool). machine_steps names (lead_token s (went_only_if b (Whole (Var word)))) []) e

  agg_steps : (s : List PendingOperator) (a : Agg) (rest : List (List ℕ)) → machine_steps names (Some (Want s)) (agg_word a ∷ codes "(" ∷ rest) ≡ machine_steps names (Some (Want (Inside (opening.Call a) ∷ s))) rest
  agg_steps s a rest = ap (λ (o : Option MachineState). machine_steps names o (codes "(" ∷ rest)) (agg_read names s a)

  place_steps : (s : List PendingOperator) (name : List ℕ) (node : NodeName) (p : PlaceWord) (rest : List (List ℕ)) → node_spelled names name ≡ Some node → machine_steps names (Some (Want s)) (codes "@" ∷ name ∷ codes "." ∷ place_word p ∷ rest) ≡ machine_steps names (lead_token s (Some (at_place node p))) rest
  place_steps s name node p rest e =
      ap (λ (o : Option MachineState). machine_steps names o (name ∷ codes "." ∷ place_word p ∷ rest)) (at_read names s)
      ∙ ap (λ (o : Option NodeName). machine_steps names (lead_token s (went_when o (λ n. More (half.Node n)))) (codes "." ∷ place_word p ∷ rest)) e
      ∙ ap (λ (o : Option PlaceWord). machine_steps names (lead_token s (went_when o (at_place node))) rest) (place_again p)

  global_steps : (s : List PendingOperator) (name : List ℕ) (node : NodeName) (word : List ℕ) (n : ℕ) → node_spelled names name ≡ Some node → number_of word ≡ Some n → machine_steps names (Some (Want s)) (codes "@" ∷ name ∷ codes "." ∷ codes "global" ∷ codes "[" ∷ word ∷ codes "]" ∷ []) ≡ Some (Have s (Global node n))
  global_steps s name node word n e f =
      place_steps s name node place.Global (codes "[" ∷ word ∷ codes "]" ∷ []) e
      ∙ ap (λ (o : Option ℕ). machine_steps names (lead_token s (went_when o (λ k. More (half.Indexed node k)))) (codes "]" ∷ [])) f

  pub read_again : {k : ℕ} {ts : List (List ℕ)} {x : Expression} → IsExprAtLevel names k ts x → (s : List PendingOperator) → Fits k s → Reads k s ts x
  read_again {k} {ts} {x} (higher h) s fits =
      let r = read_again h s (fits_more k (suc k) s (omega arith) fits) in
      record { after = r.after; last = r.last; reads = r.reads; settles = λ m le. r.settles m (omega arith) }
  read_again (two {a} {b} {x} {y} op p q) s fits =
      let first = read_again p s (fits_more (operator_level op) (left_level op) s (left_high op) fits) in
      let second = read_again q (Left op x ∷ s) (let lt : operator_level op < suc (operator_level op) = omega arith in lt) in
      let stops : settle_operators (left_level op) first.after first.last ≡ (s, x) = first.settles (left_level op) (omega arith) ∙ settle_stops (left_level op) s x (left_low op) (fits_more (operator_level op) (left_level op) s (left_high op) fits) in
      let sign = binary_sign op in
      let goes : machine_step names (Have first.after first.last) sign ≡ Some (Want (Left op x ∷ s)) =
      ap (λ (b : Option Binary). have_as b first.after first.last sign) (binary_again op) ∙ ap (after_operator op) stops ∙ operator_goes op s x fits in
      record {
        after = second.after;
        last = second.last;
        reads = steps_append (Some (Want s)) a (sign ∷ b) ∙ ap (λ (o : Option MachineState). machine_steps names o (sign ∷ b)) first.reads ∙ ap (λ (o : Option MachineState). machine_steps names o b) goes ∙ second.reads;
        settles = λ m le. second.settles m (omega arith) ∙ (rw (le-leb m (operator_level op) le) refl);
      }
  read_again (one {a} {x} op p) s fits =
      let r = read_again p (Front op ∷ s) (let le : UNARY ≤ UNARY = omega arith in le) in
      record { after = r.after; last = r.last; reads = ap (λ (o : Option MachineState). machine_steps names o a) (sign_read names s op) ∙ r.reads; settles = r.settles }
  read_again (number word n e) s fits = record { after = s; last = Number n; reads = ap (λ (o : Option ℕ). machine_steps names (step_wanting_number o s word) []) e; settles = λ m le. refl }
  read_again (variable word e) s fits = record { after = s; last = Var word; reads = variable_steps s word e; settles = λ m le. refl }
  read_again (brackets {a} {x} p) s fits =
      let inner = closed opening.Bracket s a x (read_again p (Inside opening.Bracket ∷ s) tt) in
      record { after = s; last = x; reads = ap (λ (o : Option MachineState). machine_steps names o (a ++ codes ")" ∷ [])) (bracket_read names s) ∙ inner; settles = λ m le. refl }
  read_again (over {a} {x} agg p) s fits =
      let inner = closed (opening.Call agg) s a x (read_again p (Inside (opening.Call agg) ∷ s) tt) in
      record { after = s; last = Over agg x; reads = agg_steps s agg (a ++ codes ")" ∷ []) ∙ inner; settles = λ m le. refl }
  read_again (load {a} {x} name node width e p) s fits =
      let o = opening.Load node width in
      let inner = closed o s a x (read_again p (Inside o ∷ s) tt) in
      record { after = s; last = Load node width x; reads = place_steps s name node (place.Load width) (codes "[" ∷ (a ++ codes "]" ∷ [])) e ∙ inner; settles = λ m le. refl }
  read_again (global name node word n e f) s fits = record { after = s; last = Global node n; reads = global_steps s name node word n e f; settles = λ m le. refl }
  read_again (clock name node e) s fits = record { after = s; last = Clock node; reads = place_steps s name node place.Clock [] e; settles = λ m le. refl }
  read_again (events name node e) s fits = record { after = s; last = Events node; reads = place_steps s name node place.Events [] e; settles = λ m le. refl }
  read_again (size name node e) s fits = record { after = s; last = Size node; reads = place_steps s name node place.Size [] e; settles = λ m le. refl }
  read_again (last_thread name node e) s fits = record { after = s; last = LastThread node; reads = place_steps s name node place.Thread [] e; settles = λ m le. refl }
  read_again (has_ended name node e) s fits = record { after = s; last = HasEnded node; reads = place_steps s name node place.Ended [] e; settles = λ m le. refl }

  -- what is spelled is a whole expression
  pub whole_again : (ts : List (List ℕ)) (x : Expression) → IsExpr names ts x → (st : MachineState) × (machine_steps names (Some (Want [])) ts ≡ Some st) × (whole st ≡ Some x)
  whole_again ts x h =
      let r = read_again h [] tt in
      (Have r.after r.last, r.reads, ap whole_expression (r.settles 0 (omega arith)))

  -- what begins an expression is read
  pub begins_reads : (ts : List (List ℕ)) → BeginsExpr names ts → (st : MachineState) × (machine_steps names (Some (Want [])) ts ≡ Some st)
  begins_reads ts b =
      let r = read_again b.spelled [] tt in
      reached (machine_steps names (Some (Want [])) ts) b.rest (Have r.after r.last) (sym (steps_append (Some (Want [])) ts b.rest) ∙ r.reads)

  -- ---- what the machine reads is spelled

  -- the tokens that open
  abbrev pub IsOpening : Opening → List (List ℕ) → Type 0
  IsOpening opening.Bracket ts = ts ≡ codes "(" ∷ []
  IsOpening (opening.Call agg) ts = ts ≡ agg_word agg ∷ codes "(" ∷ []
  IsOpening (opening.Load node width) ts = (name : List ℕ) × (node_spelled names name ≡ Some node) × (ts ≡ codes "@" ∷ name ∷ codes "." ∷ place_word (place.Load width) ∷ codes "[" ∷ [])

  -- the tokens that begin an operand
  abbrev pub IsHalf : Half → List (List ℕ) → Type 0
  IsHalf half.Dollar ts = ts ≡ codes "$" ∷ []
  IsHalf half.At ts = ts ≡ codes "@" ∷ []
  IsHalf (half.Node n) ts = (name : List ℕ) × (node_spelled names name ≡ Some n) × (ts ≡ codes "@" ∷ name ∷ [])
  IsHalf (half.Dotted n) ts = (name : List ℕ) × (node_spelled names name ≡ Some n) × (ts ≡ codes "@" ∷ name ∷ codes "." ∷ [])
  IsHalf (half.Sized n width) ts = (name : List ℕ) × (node_spelled names name ≡ Some n) × (ts ≡ codes "@" ∷ name ∷ codes "." ∷ place_word (place.Load width) ∷ [])
  IsHalf (half.GlobalOf n) ts = (name : List ℕ) × (node_spelled names name ≡ Some n) × (ts ≡ codes "@" ∷ name ∷ codes "." ∷ codes "global" ∷ [])
  IsHalf (half.Indexing n) ts = (name : List ℕ) × (node_spelled names name ≡ Some n) × (ts ≡ codes "@" ∷ name ∷ codes "." ∷ codes "global" ∷ codes "[" ∷ [])
  IsHalf (half.Indexed n k) ts = (name word : List ℕ) × (node_spelled names name ≡ Some n) × (number_of word ≡ Some k) × (ts ≡ codes "@" ∷ name ∷ codes "." ∷ codes "global" ∷ codes "[" ∷ word ∷ [])
  IsHalf (half.Named agg) ts = ts ≡ agg_word agg ∷ []

  -- the outcome of an operand that has begun
  abbrev pub Came : TokenWent → List (List ℕ) → Type 0
  Came (More h) ts = IsHalf h ts
  Came (Whole x) ts = IsExprAtLevel names FIRST ts x
  Came (Opens o) ts = IsOpening o ts

  -- the tokens that lead to what waits
  abbrev pub Leads : List PendingOperator → List (List ℕ) → Type 0
  Leads [] w = w ≡ []
  Leads (Left op x ∷ s) w = (b a : List (List ℕ)) × (w ≡ b ++ (a ++ binary_sign op ∷ [])) × Leads s b × IsExprAtLevel names (left_level op) a x × Fits (operator_level op) s
  Leads (Front op ∷ s) w = (b : List (List ℕ)) × (w ≡ b ++ unary_sign op ∷ []) × Leads s b
  Leads (Inside o ∷ s) w = (b ts : List (List ℕ)) × (w ≡ b ++ ts) × Leads s b × IsOpening o ts

  -- the tokens that lead to a state
  abbrev pub Stands : MachineState → List (List ℕ) → Type 0
  Stands (Want s) w = Leads s w
  Stands (Have s x) w = (b a : List (List ℕ)) × (w ≡ b ++ a) × Leads s b × IsExprAtLevel names FIRST a x
  Stands (Part s h) w = (b ts : List (List ℕ)) × (w ≡ b ++ ts) × Leads s b × IsHalf h ts

  -- what waits and an operand of this level
  pub record Settled (m : ℕ) (w : List (List ℕ)) (p : List PendingOperator × Expression) : Type 0 where
    pub before : List (List ℕ)
    pub after : List (List ℕ)
    pub parts : w ≡ before ++ after
    pub leads : Leads p.0 before
    pub spelled : IsExprAtLevel names m after p.1
    pub fits : Fits m p.0

  moved : (m : ℕ) (v w : List (List ℕ)) (p q : List PendingOperator × Expression) → v ≡ w → p ≡ q → Settled m v p → Settled m w q
  moved m v w p q e f h = subst (λ (r : List PendingOperator × Expression). Settled m w r) f (subst (λ (u : List (List ℕ)). Settled m u p) e h)

  settle_keeps : (m k : ℕ) (s : List PendingOperator) (x : Expression) (b a : List (List ℕ)) → m ≤ 4 → m ≤ k → Fits k s → Leads s b → IsExprAtLevel names k a x → Settled m (b ++ a) (settle_operators m s x)
  settle_keeps m k [] x b a small le fits leads h = record { before = b; after = a; parts = refl; leads = leads; spelled = weaken k m a x le h; fits = tt }
  settle_keeps m k (Left op y ∷ s) x b a small le fits leads h =
      elim (tested (nat_le m (operator_level op))) [
        | inl t ↦
            let both : IsExprAtLevel names (operator_level op) (leads.1 ++ binary_sign op ∷ a) (Two op y x) = two op leads.4 (weaken k (suc (operator_level op)) a x fits h) in
            let rest = settle_keeps m (operator_level op) s (Two op y x) leads.0 (leads.1 ++ binary_sign op ∷ a) small (leb-true m (operator_level op) t) leads.5 leads.3 both in
            let parts : leads.0 ++ (leads.1 ++ binary_sign op ∷ a) ≡ b ++ a = rw leads.2 (simp append_assoc) in
            moved m _ _ (settle_operators m s (Two op y x)) (settle_operators m (Left op y ∷ s) x) parts (rw t refl) rest
        | inr f ↦
            moved m _ _ (Left op y ∷ s, x) (settle_operators m (Left op y ∷ s) x) (let e : b ++ a ≡ b ++ a = refl in e) (rw f refl) (record { before = b; after = a; parts = refl; leads = leads; spelled = weaken k m a x le h; fits = leb-false m (operator_level op) f })
      ]
  settle_keeps m k (Front op ∷ s) x b a small le fits leads h =
      let both : IsExprAtLevel names UNARY (unary_sign op ∷ a) (One op x) = one op (weaken k UNARY a x fits h) in
      let rest = settle_keeps m UNARY s (One op x) leads.0 (unary_sign op ∷ a) small (omega arith) (fits_unary UNARY s (omega arith)) leads.2 both in
      let parts : leads.0 ++ (unary_sign op ∷ a) ≡ b ++ a = rw leads.1 (simp append_assoc) in
      moved m _ _ (settle_operators m s (One op x)) (settle_operators m (Front op ∷ s) x) parts refl rest
  settle_keeps m k (Inside o ∷ s) x b a small le fits leads h = record { before = b; after = a; parts = refl; leads = leads; spelled = weaken k m a x le h; fits = tt }

  operator_keeps : (op : Binary) (p : List PendingOperator × Expression) (w : List (List ℕ)) (st : MachineState) → Settled (left_level op) w p → after_operator op p ≡ Some st → Stands st (w ++ binary_sign op ∷ [])
  operator_keeps op p w st h e =
      let gave = operator_gave op p.0 p.1 st h.fits e in
      let is : Want (Left op p.1 ∷ p.0) ≡ st = let g = gave.0 in cc in
      let parts : w ++ binary_sign op ∷ [] ≡ h.before ++ (h.after ++ binary_sign op ∷ []) = rw h.parts (simp append_assoc) in
      subst (λ (t : MachineState). Stands t (w ++ binary_sign op ∷ [])) is (h.before, h.after, parts, h.leads, h.spelled, gave.1)

  kept : (b : Bool) (x y : MachineState) → cond b (Some x) None ≡ Some y → (b ≡ true) × (x ≡ y)
  kept true x y e = (refl, cc)
  kept false x y e = absurd cc

  stood : (a b : MachineState) (w : List (List ℕ)) → ◌≡◌ {A = Option MachineState} (Some a) (Some b) → Stands a w → Stands b w
  stood a b w e h = subst (λ (t : MachineState). Stands t w) (let i : a ≡ b = cc in i) h

  -- what opens, what is in it and what closes it
  enclosed_closed : (o : Opening) (ts a : List (List ℕ)) (x : Expression) → IsOpening o ts → IsExprAtLevel names 0 a x → IsExprAtLevel names FIRST (ts ++ (a ++ closing o ∷ [])) (enclose_expression o x)
  enclosed_closed opening.Bracket ts a x i h = rw i (brackets h)
  enclosed_closed (opening.Call agg) ts a x i h = rw i (over agg h)
  enclosed_closed (opening.Load node width) ts a x i h = rw i.2 (load i.0 node width i.1 h)

  enclosed_first : (o : Opening) (k : List ℕ) (ts a : List (List ℕ)) (x : Expression) → IsOpening o ts → IsExprAtLevel names 0 a x → is_closed_with o k ≡ true → IsExprAtLevel names FIRST (ts ++ (a ++ k ∷ [])) (enclose_expression o x)
  enclosed_first o k ts a x i h e = subst (λ (t : List ℕ). IsExprAtLevel names FIRST (ts ++ (a ++ t ∷ [])) (enclose_expression o x)) (sym (same_bytes k (closing o) e)) (enclosed_closed o ts a x i h)

  close_keeps : (k : List ℕ) (s : List PendingOperator) (x : Expression) (w : List (List ℕ)) (st : MachineState) → Settled 0 w (s, x) → close k (s, x) ≡ Some st → Stands st (w ++ k ∷ [])
  close_keeps k [] x w st h e = absurd cc
  close_keeps k (Left op y ∷ s) x w st h e = absurd cc
  close_keeps k (Front op ∷ s) x w st h e = absurd cc
  close_keeps k (Inside o ∷ s) x w st h e =
      let c = kept (is_closed_with o k) (Have s (enclose_expression o x)) st e in
      let l = h.leads in
      let parts : w ++ k ∷ [] ≡ l.0 ++ (l.1 ++ (h.after ++ k ∷ [])) = rw (h.parts, l.2) (simp append_assoc) in
      subst (λ (t : MachineState). Stands t (w ++ k ∷ [])) c.1 (l.0, l.1 ++ (h.after ++ k ∷ []), parts, l.3, enclosed_first o k l.1 h.after x l.4 h.spelled c.0)

  have_keeps : (s : List PendingOperator) (x : Expression) (w b a : List (List ℕ)) (k : List ℕ) (st : MachineState) (o : Option Binary) → binary_of k ≡ o → w ≡ b ++ a → Leads s b → IsExprAtLevel names FIRST a x → have_as o s x k ≡ Some st → Stands st (w ++ k ∷ [])
  have_keeps s x w b a k st (Some op) is parts leads h e =
      let settled = settle_keeps (left_level op) FIRST s x b a (left_low op) (omega (arith, left_low op)) (fits_unary FIRST s (omega arith)) leads h in
      subst (λ (t : List ℕ). Stands st (w ++ t ∷ [])) (sym (binary_is k op is)) (operator_keeps op (settle_operators (left_level op) s x) w st (moved (left_level op) _ w _ _ (sym parts) refl settled) e)
  have_keeps s x w b a k st None is parts leads h e =
      let settled = settle_keeps 0 FIRST s x b a (omega arith) (omega arith) (fits_unary FIRST s (omega arith)) leads h in
      let p = settle_operators 0 s x in
      close_keeps k p.0 p.1 w st (moved 0 _ w _ _ (sym parts) refl settled) e

  when_some : {A : Type 0} (o : Option A) (f : A → TokenWent) (g : TokenWent) → went_when o f ≡ Some g → (a : A) × (o ≡ Some a) × (f a ≡ g)
  when_some None f g e = absurd cc
  when_some (Some a) f g e = (a, refl, cc)

  came : (a b : TokenWent) (ts : List (List ℕ)) → a ≡ b → Came a ts → Came b ts
  came a b ts e h = subst (λ (g : TokenWent). Came g ts) e h

  given_some : (b : Bool) (f g : TokenWent) → went_only_if b f ≡ Some g → (b ≡ true) × (f ≡ g)
  given_some true f g e = (refl, cc)
  given_some false f g e = absurd cc

  -- a token where only this one is given
  single : (text sign : List ℕ) (f g : TokenWent) → went_only_if (bytes_eq text sign) f ≡ Some g → (text ∷ [] ≡ sign ∷ []) × (f ≡ g)
  single text sign f g e =
      let p = given_some (bytes_eq text sign) f g e in (ap (λ (t : List ℕ). t ∷ []) (same_bytes text sign p.0), p.1)

  begin_as_keeps : (o : Option Agg) (k : List ℕ) (g : TokenWent) → agg_of k ≡ o → begin_as o k ≡ Some g → Came g (k ∷ [])
  begin_as_keeps (Some agg) k g i e = came (More (half.Named agg)) g _ (cc) (ap (λ (t : List ℕ). t ∷ []) (agg_is k agg i))
  begin_as_keeps None k g i e =
      elim (tested (bytes_eq k (codes "("))) [
        | inl y ↦ came (Opens opening.Bracket) g _ (let f = rw y at e in cc) (ap (λ (t : List ℕ). t ∷ []) (same_bytes k (codes "(") y))
        | inr n ↦
            let f = rw n at e in
            elim (tested (bytes_eq k (codes "$"))) [
              | inl y ↦ came (More half.Dollar) g _ (let d = rw y at f in cc) (ap (λ (t : List ℕ). t ∷ []) (same_bytes k (codes "$") y))
              | inr m ↦ let p = single k (codes "@") (More half.At) g (rw m at f) in came (More half.At) g _ p.1 p.0
            ]
      ]

  begin_keeps : (k : List ℕ) (g : TokenWent) → begun_by_token k ≡ Some g → Came g (k ∷ [])
  begin_keeps k g e = begin_as_keeps (agg_of k) k g refl e

  place_keeps : (name : List ℕ) (n : NodeName) (p : PlaceWord) → node_spelled names name ≡ Some n → Came (at_place n p) (codes "@" ∷ name ∷ codes "." ∷ place_word p ∷ [])
  place_keeps name n (place.Load width) e = (name, e, refl)
  place_keeps name n place.Global e = (name, e, refl)
  place_keeps name n place.Clock e = clock name n e
  place_keeps name n place.Events e = events name n e
  place_keeps name n place.Size e = size name n e
  place_keeps name n place.Thread e = last_thread name n e
  place_keeps name n place.Ended e = has_ended name n e

  onward_keeps : (h : Half) (k : List ℕ) (ts : List (List ℕ)) (g : TokenWent) → IsHalf h ts → onward_token names h k ≡ Some g → Came g (ts ++ k ∷ [])
  onward_keeps half.Dollar k ts g h e = let p = given_some (is_word k) _ g e in came (Whole (Var k)) g _ p.1 (rw h (variable k p.0))
  onward_keeps half.At k ts g h e = let p = when_some (node_spelled names k) _ g e in came (More (half.Node p.0)) g _ p.2 (k, p.1, rw h refl)
  onward_keeps (half.Node n) k ts g h e = let p = single k (codes ".") _ g e in came (More (half.Dotted n)) g _ p.1 (h.0, h.1, rw (h.2, p.0) refl)
  onward_keeps (half.Dotted n) k ts g h e =
      let p = when_some (place_of k) _ g e in
      let parts : ts ++ k ∷ [] ≡ codes "@" ∷ h.0 ∷ codes "." ∷ place_word p.0 ∷ [] =
      ap (λ (u : List (List ℕ)). u ++ k ∷ []) h.2 ∙ ap (λ (w : List ℕ). codes "@" ∷ h.0 ∷ codes "." ∷ w ∷ []) (place_is k p.0 p.1) in
      came (at_place n p.0) g _ p.2 (subst (λ (u : List (List ℕ)). Came (at_place n p.0) u) (sym parts) (place_keeps h.0 n p.0 h.1))
  onward_keeps (half.Sized n width) k ts g h e = let p = single k (codes "[") _ g e in came (Opens (opening.Load n width)) g _ p.1 (h.0, h.1, rw (h.2, p.0) refl)
  onward_keeps (half.GlobalOf n) k ts g h e = let p = single k (codes "[") _ g e in came (More (half.Indexing n)) g _ p.1 (h.0, h.1, rw (h.2, p.0) refl)
  onward_keeps (half.Indexing n) k ts g h e = let p = when_some (number_of k) _ g e in came (More (half.Indexed n p.0)) g _ p.2 (h.0, k, h.1, p.1, rw h.2 refl)
  onward_keeps (half.Indexed n m) k ts g h e = let p = single k (codes "]") _ g e in came (Whole (Global n m)) g _ p.1 (rw (h.4, p.0) (global h.0 n h.1 m h.2 h.3))
  onward_keeps (half.Named agg) k ts g h e = let p = single k (codes "(") _ g e in came (Opens (opening.Call agg)) g _ p.1 (rw (h, p.0) refl)

  lead_keeps : (s : List PendingOperator) (o : Option TokenWent) (b ts : List (List ℕ)) (st : MachineState) → Leads s b → ((g : TokenWent) → o ≡ Some g → Came g ts) → lead_token s o ≡ Some st → Stands st (b ++ ts)
  lead_keeps s None b ts st leads h e = absurd cc
  lead_keeps s (Some (More half)) b ts st leads h e = stood (Part s half) st _ e (b, ts, refl, leads, h (More half) refl)
  lead_keeps s (Some (Whole x)) b ts st leads h e = stood (Have s x) st _ e (b, ts, refl, leads, h (Whole x) refl)
  lead_keeps s (Some (Opens o)) b ts st leads h e = stood (Want (Inside o ∷ s)) st _ e (b, ts, refl, leads, h (Opens o) refl)

  want_sign_keeps : (s : List PendingOperator) (w : List (List ℕ)) (k : List ℕ) (o : Option Unary) (st : MachineState) → unary_of k ≡ o → Leads s w → step_wanting_sign o s k ≡ Some st → Stands st (w ++ k ∷ [])
  want_sign_keeps s w k None st i h e = lead_keeps s (begun_by_token k) w (k ∷ []) st h (begin_keeps k) e
  want_sign_keeps s w k (Some op) st i h e = stood (Want (Front op ∷ s)) st _ e (w, ap (λ (t : List ℕ). w ++ t ∷ []) (unary_is k op i), h)

  want_keeps : (s : List PendingOperator) (w : List (List ℕ)) (k : List ℕ) (o : Option ℕ) (st : MachineState) → number_of k ≡ o → Leads s w → step_wanting_number o s k ≡ Some st → Stands st (w ++ k ∷ [])
  want_keeps s w k (Some n) st i h e = stood (Have s (Number n)) st _ e (w, k ∷ [], refl, h, number k n i)
  want_keeps s w k None st i h e = want_sign_keeps s w k (unary_of k) st refl h e

  pub step_keeps : (st : MachineState) (w : List (List ℕ)) (k : List ℕ) (next : MachineState) → Stands st w → machine_step names st k ≡ Some next → Stands next (w ++ k ∷ [])
  step_keeps (Want s) w k next h e = want_keeps s w k (number_of k) next refl h e
  step_keeps (Have s x) w k next h e = have_keeps s x w h.0 h.1 k next (binary_of k) refl h.2 h.3 h.4 e
  step_keeps (Part s p) w k next h e =
      subst (λ (u : List (List ℕ)). Stands next u) (let parts : h.0 ++ (h.1 ++ k ∷ []) ≡ w ++ k ∷ [] = rw h.2 (simp append_assoc) in parts)
      (lead_keeps s (onward_token names p k) h.0 (h.1 ++ k ∷ []) next h.3 (λ g i. onward_keeps p k h.1 g h.4 i) e)

  pub steps_keep : (st : MachineState) (w ks : List (List ℕ)) (last : MachineState) → Stands st w → machine_steps names (Some st) ks ≡ Some last → Stands last (w ++ ks)
  steps_keep st w [] last h e = subst (λ (t : MachineState). Stands t (w ++ [])) (let i : st ≡ last = cc in i) (subst (λ (u : List (List ℕ)). Stands st u) (sym (append-nil w)) h)
  steps_keep st w (k ∷ ks) last h e =
      let first = reached (machine_step names st k) ks last e in
      let more : machine_steps names (Some first.0) ks ≡ Some last = ap (λ (o : Option MachineState). machine_steps names o ks) (sym first.1) ∙ e in
      subst (λ (u : List (List ℕ)). Stands last u) (append_assoc w (k ∷ []) ks) (steps_keep first.0 (w ++ k ∷ []) ks last (step_keeps st w k first.0 h first.1) more)

  -- ---- what was taken goes on to a whole expression

  begins_less : (ts more : List (List ℕ)) → BeginsExpr names (ts ++ more) → BeginsExpr names ts
  begins_less ts more b = record { rest = more ++ b.rest; whole = b.whole; spelled = subst (λ (u : List (List ℕ)). IsExpr names u b.whole) (append_assoc ts more b.rest) b.spelled }

  begins_is : (a b : List (List ℕ)) → a ≡ b → BeginsExpr names a → BeginsExpr names b
  begins_is a b e h = subst (BeginsExpr names) e h

  completes : (k : ℕ) (s : List PendingOperator) (x : Expression) (b a : List (List ℕ)) → Leads s b → Fits k s → IsExprAtLevel names k a x → BeginsExpr names (b ++ a)
  completes k [] x b a leads fits h =
      begins_is a (b ++ a) (rw leads refl) (record { rest = []; whole = x; spelled = subst (λ (u : List (List ℕ)). IsExpr names u x) (sym (append-nil a)) (weaken k 0 a x (omega arith) h) })
  completes k (Left op y ∷ s) x b a leads fits h =
      let both : IsExprAtLevel names (operator_level op) (leads.1 ++ binary_sign op ∷ a) (Two op y x) = two op leads.4 (weaken k (suc (operator_level op)) a x fits h) in
      begins_is _ _ (let parts : leads.0 ++ (leads.1 ++ binary_sign op ∷ a) ≡ b ++ a = rw leads.2 (simp append_assoc) in parts)
      (completes (operator_level op) s (Two op y x) leads.0 (leads.1 ++ binary_sign op ∷ a) leads.3 leads.5 both)
  completes k (Front op ∷ s) x b a leads fits h =
      begins_is _ _ (let parts : leads.0 ++ (unary_sign op ∷ a) ≡ b ++ a = rw leads.1 (simp append_assoc) in parts)
      (completes UNARY s (One op x) leads.0 (unary_sign op ∷ a) leads.2 (fits_unary UNARY s (omega arith)) (one op (weaken k UNARY a x fits h)))
  completes k (Inside o ∷ s) x b a leads fits h =
      let c = closing o in
      let all = completes FIRST s (enclose_expression o x) leads.0 (leads.1 ++ (a ++ c ∷ [])) leads.3 (fits_unary FIRST s (omega arith)) (enclosed_closed o leads.1 a x leads.4 (weaken k 0 a x (omega arith) h)) in
      begins_less (b ++ a) (c ∷ []) (begins_is _ _ (let parts : leads.0 ++ (leads.1 ++ (a ++ c ∷ [])) ≡ (b ++ a) ++ c ∷ [] = rw leads.2 (simp append_assoc) in parts) all)

  -- an operand that has begun goes on to a whole one
  abbrev Completes : List (List ℕ) → Type 0
  Completes ts = (more : List (List ℕ)) × (x : Expression) × IsExprAtLevel names FIRST (ts ++ more) x

  zero_in : IsExprAtLevel names 0 (codes "0" ∷ []) (Number 0)
  zero_in = weaken FIRST 0 _ _ (omega arith) (number (codes "0") 0 zero_is)

  half_finishes : (h : Half) (ts : List (List ℕ)) → IsHalf h ts → Completes ts
  half_finishes half.Dollar ts h = (codes "a" ∷ [], Var (codes "a"), rw h (variable (codes "a") refl))
  half_finishes half.At ts h = (codes "!" ∷ codes "." ∷ codes "clock" ∷ [], Clock node.OfEvent, rw h (clock (codes "!") node.OfEvent refl))
  half_finishes (half.Node n) ts h = (codes "." ∷ codes "clock" ∷ [], Clock n, rw h.2 (clock h.0 n h.1))
  half_finishes (half.Dotted n) ts h = (codes "clock" ∷ [], Clock n, rw h.2 (clock h.0 n h.1))
  half_finishes (half.Sized n width) ts h = (codes "[" ∷ codes "0" ∷ codes "]" ∷ [], Load n width (Number 0), rw h.2 (load h.0 n width h.1 zero_in))
  half_finishes (half.GlobalOf n) ts h = (codes "[" ∷ codes "0" ∷ codes "]" ∷ [], Global n 0, rw h.2 (global h.0 n (codes "0") 0 h.1 zero_is))
  half_finishes (half.Indexing n) ts h = (codes "0" ∷ codes "]" ∷ [], Global n 0, rw h.2 (global h.0 n (codes "0") 0 h.1 zero_is))
  half_finishes (half.Indexed n k) ts h = (codes "]" ∷ [], Global n k, rw h.4 (global h.0 n h.1 k h.2 h.3))
  half_finishes (half.Named agg) ts h = (codes "(" ∷ codes "0" ∷ codes ")" ∷ [], Over agg (Number 0), rw h (over agg zero_in))

  want_begins : (s : List PendingOperator) (w : List (List ℕ)) → Leads s w → BeginsExpr names w
  want_begins s w h = begins_less w (codes "0" ∷ []) (completes FIRST s (Number 0) w (codes "0" ∷ []) h (fits_unary FIRST s (omega arith)) (number (codes "0") 0 zero_is))

  pub stands_begins : (st : MachineState) (w : List (List ℕ)) → Stands st w → BeginsExpr names w
  stands_begins (Want s) w h = want_begins s w h
  stands_begins (Have s x) w h = begins_is _ _ (sym h.2) (completes FIRST s x h.0 h.1 h.3 (fits_unary FIRST s (omega arith)) h.4)
  stands_begins (Part s p) w h =
      let f = half_finishes p h.1 h.4 in
      let all = completes FIRST s f.1 h.0 (h.1 ++ f.0) h.3 (fits_unary FIRST s (omega arith)) f.2 in
      begins_less w f.0 (begins_is _ _ (let parts : h.0 ++ (h.1 ++ f.0) ≡ w ++ f.0 = rw h.2 (simp append_assoc) in parts) all)

  -- ---- what the machine gives

  alone_cases : (s : List PendingOperator) (y : Expression) (w : List (List ℕ)) (x : Expression) → Settled 0 w (s, y) → whole_expression (s, y) ≡ Some x → IsExpr names w x
  alone_cases [] y w x h e =
      let parts : h.after ≡ w = sym (h.parts ∙ ap (λ (b : List (List ℕ)). b ++ h.after) h.leads) in
      subst (λ (z : Expression). IsExpr names w z) (let i : y ≡ x = cc in i) (subst (λ (u : List (List ℕ)). IsExpr names u y) parts h.spelled)
  alone_cases (f ∷ s) y w x h e = absurd cc

  alone_says : (p : List PendingOperator × Expression) (w : List (List ℕ)) (x : Expression) → Settled 0 w p → whole_expression p ≡ Some x → IsExpr names w x
  alone_says p w x h e = alone_cases p.0 p.1 w x h e

  pub whole_says : (st : MachineState) (w : List (List ℕ)) (x : Expression) → Stands st w → whole st ≡ Some x → IsExpr names w x
  whole_says (Want s) w x h e = absurd cc
  whole_says (Part s p) w x h e = absurd cc
  whole_says (Have s y) w x h e =
      let settled = moved 0 _ w _ _ (sym h.2) refl (settle_keeps 0 FIRST s y h.0 h.1 (omega arith) (omega arith) (fits_unary FIRST s (omega arith)) h.3 h.4) in
      alone_says (settle_operators 0 s y) w x settled e

  -- a list of tokens spells one expression
  pub one_tree : (ts : List (List ℕ)) (x y : Expression) → IsExpr names ts x → IsExpr names ts y → x ≡ y
  one_tree ts x y h k =
      let a = whole_again ts x h in
      let b = whole_again ts y k in
      let same : ◌≡◌ {A = Option MachineState} (Some a.0) (Some b.0) = sym a.1 ∙ b.1 in
      let st : a.0 ≡ b.0 = cc in
      let e : ◌≡◌ {A = Option Expression} (Some x) (Some y) = sym a.2 ∙ ap whole st ∙ b.2 in
      cc
