use Rattle.std.proofs.Common.{◌≡◌, ℕ, ◌-◌, ◌<◌, ◌≤◌, ◌∙◌, List, length, take, drop, Some, Bool, map, ap, sym, refl, arith, length-drop}
use Rattle.std.proofs.lemmas.List.{length-take-le}
use Rattle.expression_text.specs.Front.{longest_token}
use Rattle.expression_text.specs.Lexing.{PlacedToken, is_too_deep}
use Rattle.expression_text.proofs.OneCut.{slice_rest, cut_blank, cut_token, cut_bad, cut_all, moves}
use Rattle.expression_text.proofs.lexer.lex.Goals as goal

pub loop-at-preserved-then-is_blank : goal.loop-at-preserved-then-is_blank
loop-at-preserved-then-is_blank c =
    cut_blank c.args.line.now _ c.loop-at.at c.loop-at.tokens.items (slice_rest c.args.line.now c.loop-at.at) c.loop-at.invariant c.loop-at-test.true (sym c.is_blank.ensures ∙ c.if-is_blank.true)

pub returns-in_default : goal.returns-in_default
returns-in_default c =
    cut_bad c.args.line.now _ c.loop-at.at _ c.loop-at.tokens.items (slice_rest c.args.line.now c.loop-at.at) c.loop-at.invariant c.loop-at-test.true (sym c.is_blank.ensures ∙ c.if-is_blank.false) (sym c.in_default.ensures) refl

-- the token is a part of the line, with a byte or more
goes : (line : List ℕ) (at n : ℕ) → longest_token (take (length line - at) (drop at line)) ≡ Some n → (0 < n) × (n ≤ length line - at) × (n ≡ length (take n (take (length line - at) (drop at line))))
goes line at n e =
    let m = moves (drop at line) n (ap longest_token (sym (slice_rest line at)) ∙ e) in
    let within : n ≤ length line - at = omega (arith, m.1, length-drop at line) in
    let long : length (take (length line - at) (drop at line)) ≡ length line - at = length-take-le (length line - at) (drop at line) (omega (arith, length-drop at line)) in
    (m.0, within, sym (length-take-le n (take (length line - at) (drop at line)) (omega arith)))

pub slice_bounds-push-end : goal.slice_bounds-push-end
slice_bounds-push-end c = (goes c.args.line.now c.loop-at.at c.in-Some.length (sym c.in-Some.ensures)).2

pub overflow_add-at-in-loop-at : goal.overflow_add-at-in-loop-at
overflow_add-at-in-loop-at c =
    let g = goes c.args.line.now c.loop-at.at c.in-Some.length (sym c.in-Some.ensures) in
    let within = g.1 in
    omega arith

pub loop-at-smaller : goal.loop-at-smaller
loop-at-smaller c =
    let g = goes c.args.line.now c.loop-at.at c.in-Some.length (sym c.in-Some.ensures) in
    let some = g.0 in
    let within = g.1 in
    omega arith

pub loop-at-preserved : goal.loop-at-preserved
loop-at-preserved c =
    cut_token c.args.line.now _ c.loop-at.at c.in-Some.length _ c.loop-at.tokens.items c.push.new.self.items (slice_rest c.args.line.now c.loop-at.at) c.loop-at.invariant (sym c.in-Some.ensures) refl c.in_ok-push.ensures.items

abbrev depth_of : List PlacedToken → Bool
depth_of tokens = is_too_deep (map (λ t. t.text) tokens)

pub returns-then-is_too_deep : goal.returns-then-is_too_deep
returns-then-is_too_deep c =
    (c.loop-at.tokens.items, cut_all c.args.line.now c.loop-at.at c.loop-at.tokens.items c.loop-at.invariant c.loop-at-test.false, sym (c.is_too_deep.ensures ∙ ap depth_of c.deref.ensures.value) ∙ c.if-is_too_deep.true)

pub returns : goal.returns
returns c =
    (cut_all c.args.line.now c.loop-at.at c.loop-at.tokens.items c.loop-at.invariant c.loop-at-test.false, refl, sym (c.is_too_deep.ensures ∙ ap depth_of c.deref.ensures.value) ∙ c.if-is_too_deep.false)
