use Rattle.std.proofs.Common.{List, ℕ, Some, sym, ap, ◌∙◌}
use Rattle.expression_text.specs.Lexing.{token_texts}
use Rattle.point_programs.specs.Reading.{word_of}
use Rattle.point_programs.proofs.ReadTokens.{not_taken, taken}
use Rattle.point_programs.proofs.token.read_word.Goals as goal

pub returns-in_default-clause-read : goal.returns-in_default-clause-read
returns-in_default-clause-read c =
    not_taken word_of c.args.tokens.now c.args.at c.column.result (sym c.in_default.ensures.word) c.column.ensures

pub returns-clause-read : goal.returns-clause-read
returns-clause-read c =
    taken word_of (token_texts c.args.tokens.now) c.args.at c.in_ok-word.word (sym c.in-Some.ensures.word ∙ ap (λ (w : List ℕ). Some w) (sym c.in_ok-word.ensures))
