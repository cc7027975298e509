use Rattle.std.proofs.Common.{codes, drop, map, refl, sym, ◌∙◌, arith}
use Rattle.std.specs.Global.{Vec}
use Rattle.std.proofs.lemmas.Result.{err_from_is_err_and}
use Rattle.expression_text.specs.Lexing.{token_texts}
use Rattle.point_programs.specs.declared.program.SayItem.{SayItem}
use Rattle.point_programs.specs.Reading.{item}
use Rattle.point_programs.specs.Tree.{item_of}
use Rattle.point_programs.proofs.ReadSeparated.{ended, refused_among, went_on}
use Rattle.point_programs.proofs.parser.read_items.Goals as goal

pub returns-in_err-item-clause-read : goal.returns-in_err-item-clause-read
returns-in_err-item-clause-read c =
    let ts = token_texts c.args.tokens.now in
    let p = err_from_is_err_and c.from_residual.result c.from_residual.ensures.1 in
    rw (p.1, p.2)
    (refused_among item_of (λ (v : Vec SayItem). map item_of v.items) c.args.tokens.now (codes ",") (item c.args.names.now) (drop c.args.from ts) (map item_of c.loop-items.items.items) (drop c.loop-items.at ts) c.in_err-item.field-0.0
    c.loop-items.invariant.reached refl c.in_err-item.ensures.read)

pub returns-then-not-stands-clause-read : goal.returns-then-not-stands-clause-read
returns-then-not-stands-clause-read c =
    let ts = token_texts c.args.tokens.now in
    ended item_of (codes ",") (item c.args.names.now) ts (drop c.args.from ts) c.loop-items.items.items c.push.new.self.items c.in_ok-item.item c.loop-items.at c.in_ok-item.next
    c.loop-items.invariant.reached refl c.in_ok-item.ensures.read c.in_ok-push.ensures.items (sym c.stands.ensures.text ∙ c.if-not-stands.true)

pub loop-items-preserved : goal.loop-items-preserved
loop-items-preserved c =
    let ts = token_texts c.args.tokens.now in
    record {
      reached = went_on item_of (codes ",") (item c.args.names.now) ts (drop c.args.from ts) c.loop-items.items.items c.push.new.self.items c.in_ok-item.item c.loop-items.at c.in_ok-item.next
          c.loop-items.invariant.reached refl c.in_ok-item.ensures.read c.in_ok-push.ensures.items (sym c.stands.ensures.text ∙ c.if-not-stands.false) c.in_ok-item.ensures.onward;
      onward = omega (arith, c.loop-items.invariant.onward, c.in_ok-item.ensures.onward);
    }
