-- Points as the code holds them, and as they are meant.
use Rattle.std.proofs.Common.{◌≡◌, ◌∙◌, ℕ, zero, suc, ◌+◌, ◌<◌, Bool, true, false, not, cond, nat_eq, ◌||◌, List, [], ◌∷◌, ◌++◌, length, drop, filter, get_or, map, nat_lt, Some, None, refl, sym, ap, append_assoc, slice_index_or, arith}
use Rattle.std.specs.Prelude.{IfSome, slice_set}
use Rattle.std.specs.List.{flat_map, list_any, position, position_or_len, prefix_len}
use Rattle.std.proofs.lemmas.Bool.{ltb-true}
use Rattle.std.proofs.lemmas.List.{length-map, drop_more}
use Rattle.point_programs.specs.declared.program.Program.{Program}
use Rattle.point_programs.specs.Tree.{program_body}
use Rattle.shell_points.specs.declared.point.Point.{Point as Held}
use Rattle.shell_points.specs.Points.{Point, has_point, index_of_point, point_text, with_program, without_point}
use Rattle.shell_points.specs.inside.Meanings.{point}

pub held_same : (ps : List Held) (n : ℕ) → list_any (λ (p : Held). nat_eq p.number n) ps ≡ has_point (map {A = Held} point ps) n
held_same [] n = refl
held_same (p ∷ ps) n = ap (λ (b : Bool). nat_eq p.number n || b) (held_same ps n)

kept : (b : Bool) (p : Held) (us : List Held) (vs : List Point) → map {A = Held} point us ≡ vs
    → map {A = Held} point (cond b (p ∷ us) us) ≡ cond b (point p ∷ vs) vs
kept true p us vs e = ap (λ (l : List Point). point p ∷ l) e
kept false p us vs e = e

pub without_same : (ps : List Held) (n : ℕ) → map {A = Held} point (filter (λ (p : Held). not (nat_eq p.number n)) ps) ≡ without_point (map {A = Held} point ps) n
without_same [] n = refl
without_same (p ∷ ps) n = kept (not (nat_eq p.number n)) p (filter (λ (p : Held). not (nat_eq p.number n)) ps) (without_point (map {A = Held} point ps) n) (without_same ps n)

ahead_same : (ps : List Held) (n : ℕ) → prefix_len (λ (p : Held). not (nat_eq p.number n)) ps ≡ prefix_len (λ (p : Point). not (nat_eq p.number n)) (map {A = Held} point ps)
ahead_same [] n = refl
ahead_same (p ∷ ps) n = ap (λ (k : ℕ). cond (not (nat_eq p.number n)) (1 + k) 0) (ahead_same ps n)

pub places_same : (ps : List Held) (n : ℕ) → position (λ (p : Held). nat_eq p.number n) ps ≡ index_of_point (map {A = Held} point ps) n
places_same ps n =
    ap (λ (k : ℕ). cond (nat_lt k (length ps)) (Some k) None) (ahead_same ps n)
    ∙ ap (λ (l : ℕ). cond (nat_lt (position_or_len (λ (p : Point). nat_eq p.number n) (map {A = Held} point ps)) l) (Some (position_or_len (λ (p : Point). nat_eq p.number n) (map {A = Held} point ps))) None)
    (sym (length-map ps point))

some_below : (k n : ℕ) (b : Bool) → nat_lt k n ≡ b → IfSome (cond b (Some k) None) (λ place. place < n)
some_below k n true e = ltb-true k n e
some_below k n false e = tt

pub place_within : (ps : List Point) (n : ℕ) → IfSome (index_of_point ps n) (λ place. place < length ps)
place_within ps n = some_below (position_or_len (λ (p : Point). nat_eq p.number n) ps) (length ps) _ refl

-- one point's line more
pub listed : (text next whole : List ℕ) (ps : List Held) (i : ℕ) (p d : Held) → i < length ps → p ≡ slice_index_or ps i d → next ≡ text ++ point_text (point p)
    → text ++ flat_map point_text (map {A = Held} point (drop i ps)) ≡ whole → next ++ flat_map point_text (map {A = Held} point (drop (i + 1) ps)) ≡ whole
listed text next whole ps i p d below same is so_far =
    let rest = flat_map point_text (map {A = Held} point (drop (i + 1) ps)) in
    ap (λ (t : List ℕ). t ++ rest) is
    ∙ append_assoc text (point_text (point p)) rest
    ∙ ap (λ (t : List ℕ). text ++ t) (ap (λ (q : Held). point_text (point q) ++ rest) same ∙ sym (ap (λ (l : List Held). flat_map point_text (map {A = Held} point l)) (drop_more ps i d below)))
    ∙ so_far

-- the point at a place has a program
pub put_same : (ps : List Held) (k : ℕ) (e : Held) (p : Program) → k < length ps → get_or ps k e ≡ e
    → map {A = Held} point (slice_set ps k (record { number = e.number; text = e.text; trigger = e.trigger; condition = e.condition; program = Some p })) ≡ with_program (map {A = Held} point ps) k (program_body p)
put_same [] k e p within here = absurd (omega (arith, within))
put_same (q ∷ ps) zero e p within here = ap (λ (r : Held). point (record { number = r.number; text = r.text; trigger = r.trigger; condition = r.condition; program = Some p }) ∷ map {A = Held} point ps) (sym here)
put_same (q ∷ ps) (suc k) e p within here = ap (λ (rest : List Point). point q ∷ rest) (put_same ps k e p (omega (arith, within)) here)
