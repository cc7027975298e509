use Rattle.std.proofs.Common.{◌≡◌, ◌∙◌, ◌∷◌, ◌+◌, ap, drop, refl, sym}
use Rattle.std.proofs.lemmas.List.{drop_all, drop_more}
use Rattle.std.proofs.lemmas.Result.{err_from_is_err_and}
use Rattle.log_pairs.specs.declared.pairs.Loaded.{Loaded}
use Rattle.log_pairs.proofs.BegunReplays.{all_begun, beginning_stops, group_begun, one_begun, one_loaded}
use Rattle.log_pairs.proofs.OpenedReplays.{begun_opens, unbegun_stops}
use Rattle.log_pairs.proofs.pairs.begin_all.Goals as goal

pub begin_replay-requires : goal.begin_replay-requires
begin_replay-requires c =
    let all = c.args.all.now in
    let i = c.loop-loaded.loaded-index in
    let next : drop i all ≡ c.loaded-item.result ∷ drop (i + 1) all = drop_more all i _ c.loop-loaded-test.true ∙ ap (λ (x : Loaded). x ∷ drop (i + 1) all) (sym c.loaded-item.is) in
    one_loaded all (drop i all) (drop (i + 1) all) c.loaded-item.result c.loop-loaded.sorted.items c.loop-loaded.invariant next c.requires.loaded

pub returns-in_err-replay-clause-answer : goal.returns-in_err-replay-clause-answer
returns-in_err-replay-clause-answer c pairs told loaded =
    let all = c.args.all.now in
    let i = c.loop-loaded.loaded-index in
    let next : drop i all ≡ c.loaded-item.result ∷ drop (i + 1) all = drop_more all i _ c.loop-loaded-test.true ∙ ap (λ (x : Loaded). x ∷ drop (i + 1) all) (sym c.loaded-item.is) in
    let p = err_from_is_err_and c.from_residual.result c.from_residual.ensures.1 in
    rw (p.1, p.2) (unbegun_stops pairs told all all c.in_err-replay.field-0.0 loaded refl (beginning_stops all (drop i all) (drop (i + 1) all) c.loaded-item.result c.loop-loaded.sorted.items c.in_err-replay.field-0.0 c.loop-loaded.invariant next c.in_err-replay.ensures.answer))

pub returns-in_err-replay-clause-cause : goal.returns-in_err-replay-clause-cause
returns-in_err-replay-clause-cause c =
    let p = err_from_is_err_and c.from_residual.result c.from_residual.ensures.1 in
    rw (p.1, p.2) c.in_err-replay.ensures.cause

pub returns-in_err-replay-clause-still : goal.returns-in_err-replay-clause-still
returns-in_err-replay-clause-still c =
    let p = err_from_is_err_and c.from_residual.result c.from_residual.ensures.1 in
    rw (p.1, p.2) c.in_err-replay.ensures.still

pub loop-loaded-preserved : goal.loop-loaded-preserved
loop-loaded-preserved c =
    let all = c.args.all.now in
    let i = c.loop-loaded.loaded-index in
    let next : drop i all ≡ c.loaded-item.result ∷ drop (i + 1) all = drop_more all i _ c.loop-loaded-test.true ∙ ap (λ (x : Loaded). x ∷ drop (i + 1) all) (sym c.loaded-item.is) in
    one_begun all (drop i all) (drop (i + 1) all) c.loaded-item.result c.in_ok-replay.replay c.loop-loaded.sorted.items c.insert_replay.new.sorted.items c.loop-loaded.invariant next
    c.in_ok-replay.ensures.answer (c.in_ok-replay.ensures.fresh, c.in_ok-replay.ensures.at_head) c.in_ok-insert_replay.ensures

pub returns-clause-answer : goal.returns-clause-answer
returns-clause-answer c pairs told loaded =
    let all = c.args.all.now in
    let i = c.loop-loaded.loaded-index in
    begun_opens pairs told all all c.loop-loaded.sorted.items loaded refl (λ ls are.
    let b = all_begun all (drop i all) c.loop-loaded.sorted.items c.loop-loaded.invariant (drop_all i all c.loop-loaded-test.false) ls are in
    (b.begun, (b.comes, b.placed)))

pub returns-clause-replayers : goal.returns-clause-replayers
returns-clause-replayers c =
    let all = c.args.all.now in
    let i = c.loop-loaded.loaded-index in
    (group_begun all (drop i all) c.loop-loaded.sorted.items c.loop-loaded.invariant (drop_all i all c.loop-loaded-test.false) c.requires.loaded c.requires.apart).replayers

pub returns-clause-heads : goal.returns-clause-heads
returns-clause-heads c =
    let all = c.args.all.now in
    let i = c.loop-loaded.loaded-index in
    (group_begun all (drop i all) c.loop-loaded.sorted.items c.loop-loaded.invariant (drop_all i all c.loop-loaded-test.false) c.requires.loaded c.requires.apart).heads

pub returns-clause-at_heads : goal.returns-clause-at_heads
returns-clause-at_heads c =
    let all = c.args.all.now in
    let i = c.loop-loaded.loaded-index in
    (group_begun all (drop i all) c.loop-loaded.sorted.items c.loop-loaded.invariant (drop_all i all c.loop-loaded-test.false) c.requires.loaded c.requires.apart).at_heads
