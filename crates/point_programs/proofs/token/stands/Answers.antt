use Rattle.std.proofs.Common.{ap, bytes_eq, sym, ◌∙◌}
use Rattle.std.proofs.lemmas.Option.{slice_get_within}
use Rattle.expression_text.specs.Lexing.{token_texts}
use Rattle.point_programs.proofs.ReadTokens.{stands_here, stands_nowhere}
use Rattle.point_programs.proofs.token.stands.Goals as goal

pub returns-in-Some-clause-text : goal.returns-in-Some-clause-text
returns-in-Some-clause-text c =
    c.eq.ensures
    ∙ (ap (bytes_eq c.in-Some.found.now) c.as_bytes.ensures.value ∙ sym (stands_here c.args.text.now (token_texts c.args.tokens.now) c.args.at c.in-Some.found.now (sym c.in-Some.ensures.text)))

pub returns-in-Some-clause-within : goal.returns-in-Some-clause-within
returns-in-Some-clause-within c = λ _. slice_get_within (token_texts c.args.tokens.now) c.args.at c.in-Some.found.now (sym c.in-Some.ensures.text)

pub returns-in-None-clause-text : goal.returns-in-None-clause-text
returns-in-None-clause-text c = sym (stands_nowhere c.args.text.now (token_texts c.args.tokens.now) c.args.at (sym c.in-None.ensures.text))
