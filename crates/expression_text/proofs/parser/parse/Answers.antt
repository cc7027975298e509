use Rattle.std.proofs.Common.{◌<◌, length, arith, sym}
use Rattle.std.proofs.lemmas.Option.{slice_get_within}
use Rattle.expression_text.specs.Lexing.{token_texts}
use Rattle.expression_text.specs.inside.Frames.{machine_state}
use Rattle.expression_text.proofs.ParseResults.{went_on, stopped, all_taken}
use Rattle.expression_text.proofs.parser.parse.Goals as goal

pub loop-text-smaller : goal.loop-text-smaller
loop-text-smaller c =
    let there : c.loop-text.at < length (token_texts c.args.tokens.now) = slice_get_within (token_texts c.args.tokens.now) c.loop-text.at c.in-Some.text.now (sym c.in-Some.ensures.text) in
    omega arith

pub loop-text-preserved : goal.loop-text-preserved
loop-text-preserved c =
    went_on c.args.names.now (token_texts c.args.tokens.now) c.args.from c.loop-text.at c.in-Some.text.now (machine_state c.loop-text.frames.items c.loop-text.mode) c.advance.new.frames.items c.in_ok-next.field-0 c.in-Next.next
    c.loop-text.invariant (sym c.in-Some.ensures.text) c.in-Next.is c.in_ok-next.ensures

pub returns-in-Refused : goal.returns-in-Refused
returns-in-Refused c =
    stopped c.args.names.now c.args.tokens.now c.args.from c.loop-text.at c.in-Some.text.now (machine_state c.loop-text.frames.items c.loop-text.mode) c.advance.new.frames.items c.in_ok-next.field-0 c.in-Refused.last c.finish.result
    c.loop-text.invariant (sym c.in-Some.ensures.text) c.in-Refused.is c.in_ok-next.ensures c.finish.ensures

pub returns : goal.returns
returns c =
    all_taken c.args.names.now c.args.tokens.now c.args.from c.loop-text.at _ c.finish-2.result c.loop-text.invariant (sym c.in_default.ensures.text) c.finish-2.ensures
