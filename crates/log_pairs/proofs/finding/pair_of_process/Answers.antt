use Rattle.std.proofs.Common.{◌∙◌, ap, sym}
use Rattle.std.specs.Prelude.{option_map}
use Rattle.std.proofs.lemmas.Bool.{ne_eqb}
use Rattle.log_pairs.specs.Meanings.{pair_of}
use Rattle.log_pairs.proofs.PairPlaces.{found_at, found_none, got, item_at, none_more}
use Rattle.log_pairs.proofs.finding.pair_of_process.Goals as goal

pub returns-then-process : goal.returns-then-process
returns-then-process c = λ ls are.
    let here = item_at c.args.all.now c.loop-index.index c.index-all-index.result c.loop-index-test.true c.index-all-index.is in
    ap (option_map pair_of) (c.copied.ensures ∙ got c.args.pairs.now c.loop-index.index c.get.result c.get.ensures.lookup.0 c.get.ensures.lookup.1)
    ∙ found_at c.args.pairs.now c.args.all.now c.args.process c.loop-index.index c.index-all-index.result c.loop-index.invariant here (λ is loaded. sym c.if-process.true ∙ c.process.ensures is loaded) ls are

pub returns : goal.returns
returns c = λ ls are. found_none c.args.pairs.now c.args.all.now c.args.process c.loop-index.index c.loop-index.invariant c.loop-index-test.false ls are

pub loop-index-preserved : goal.loop-index-preserved
loop-index-preserved c =
    let here = item_at c.args.all.now c.loop-index.index c.index-all-index.result c.loop-index-test.true c.index-all-index.is in
    none_more c.args.all.now c.args.process c.loop-index.index c.index-all-index.result c.loop-index.invariant here
    (λ is loaded. ne_eqb is.head.process c.args.process (λ same. c.if-process.false (c.process.ensures is loaded ∙ same)))
