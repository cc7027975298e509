use Rattle.std.proofs.Common.{◌≡◌, ◌≤◌, map, drop}
use Rattle.expression_text.specs.Lexing.{brackets_go_deep}
use Rattle.expression_text.proofs.lexer.is_too_deep.Given as goal

abbrev pub invariant-loop-token : goal.invariant-loop-token
invariant-loop-token l = record {
  small : l.depth ≤ 64;
  same : brackets_go_deep l.depth (map (λ t. t.text) (drop l.token-index l.tokens)) ≡ brackets_go_deep 0 (map (λ t. t.text) l.tokens);
}
