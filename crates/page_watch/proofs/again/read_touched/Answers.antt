use Rattle.std.proofs.Common.{◌-◌, ◌<◌, ◌≤◌, List, length, map, refl, sym, ap, ◌∙◌, arith}
use Rattle.std.proofs.lemmas.List.FromFn.{length-map-range_with_len}
use Rattle.std.specs.Prelude.{nat_eq}
use Rattle.std.specs.List.{range_with_len}
use Rattle.expression_text.specs.Expression.{expression_of}
use Rattle.watch_expr.specs.Parts.{Part, part_count, nth_part}
use Rattle.page_watch.proofs.TouchedParts.{all_read, inside, next_read, part_here, so_many, this_part}
use Rattle.page_watch.proofs.again.read_touched.Goals as goal

pub index_mut-requires : goal.index_mut-requires
index_mut-requires g c =
    let V = g.V.TouchView in
    let v = c.args.v.now in
    let x = expression_of c.args.expr.now in
    let olds = c.args.parts.now.items in
    let many = so_many (V.states v (V.at v - 1)) (V.states v (V.at v)) (g.V.View.nodes v) x olds c.part_count-n-end.result c.requires.before
    (c.position.ensures.tells.even (V.at v - 1) (omega arith)) c.position.ensures.here c.part_count-n-end.ensures in
    let below : c.loop-n.n < length olds = omega (arith, many.0, c.loop-n-test.true) in
    let within = inside (nth_part (V.states v (V.at v)) x) (λ p. nat_eq (V.marks v p) (V.at v)) olds c.args.places c.loop-n.n c.loop-n.parts.items c.loop-n.all c.loop-n.touched c.loop-n.invariant below in
    omega (arith, within, c.loop-n.parts.ok.0)

pub read_if_touched-requires-clause-before : goal.read_if_touched-requires-clause-before
read_if_touched-requires-clause-before g c =
    let V = g.V.TouchView in
    let v = c.args.v.now in
    let x = expression_of c.args.expr.now in
    let olds = c.args.parts.now.items in
    let many = so_many (V.states v (V.at v - 1)) (V.states v (V.at v)) (g.V.View.nodes v) x olds c.part_count-n-end.result c.requires.before
    (c.position.ensures.tells.even (V.at v - 1) (omega arith)) c.position.ensures.here c.part_count-n-end.ensures in
    let below : c.loop-n.n < length olds = omega (arith, many.0, c.loop-n-test.true) in
    c.index_mut.ensures.value
    ∙ this_part (nth_part (V.states v (V.at v)) x) (λ p. nat_eq (V.marks v p) (V.at v)) olds c.args.places c.loop-n.n c.loop-n.parts.items c.loop-n.all c.loop-n.touched c.loop-n.invariant below c.index_mut.result.now
    ∙ part_here (nth_part (V.states v (V.at v - 1)) x) (part_count (length (V.states v (V.at v - 1))) x) c.loop-n.n olds c.index_mut.result.now c.requires.before below

pub loop-n-preserved : goal.loop-n-preserved
loop-n-preserved g c =
    let V = g.V.TouchView in
    let v = c.args.v.now in
    let x = expression_of c.args.expr.now in
    let olds = c.args.parts.now.items in
    let many = so_many (V.states v (V.at v - 1)) (V.states v (V.at v)) (g.V.View.nodes v) x olds c.part_count-n-end.result c.requires.before
    (c.position.ensures.tells.even (V.at v - 1) (omega arith)) c.position.ensures.here c.part_count-n-end.ensures in
    let below : c.loop-n.n < length olds = omega (arith, many.0, c.loop-n-test.true) in
    let e = c.in_ok-more.ensures in
    next_read (nth_part (V.states v (V.at v)) x) (λ p. nat_eq (V.marks v p) (V.at v)) olds c.args.places c.loop-n.n c.loop-n.parts.items c.loop-n.all c.loop-n.touched c.loop-n.invariant below
    c.index_mut.result.now c.read_if_touched.new.part c.in_ok-more.more c.in_ok-more.is_touched _ (sym c.index_mut.ensures.value) e.part e.touched refl e.all e.places

pub returns-clause-few : goal.returns-clause-few
returns-clause-few g c =
    let V = g.V.TouchView in
    let v = c.args.v.now in
    let x = expression_of c.args.expr.now in
    let f = nth_part (V.states v (V.at v)) x in
    let olds = c.args.parts.now.items in
    let many = so_many (V.states v (V.at v - 1)) (V.states v (V.at v)) (g.V.View.nodes v) x olds c.part_count-n-end.result c.requires.before
    (c.position.ensures.tells.even (V.at v - 1) (omega arith)) c.position.ensures.here c.part_count-n-end.ensures in
    let end : length olds ≤ c.loop-n.n = omega (arith, many.0, c.loop-n-test.false) in
    let all = all_read f (λ p. nat_eq (V.marks v p) (V.at v)) olds c.args.places c.loop-n.n c.loop-n.parts.items c.loop-n.all c.loop-n.touched c.loop-n.invariant end in
    omega (arith, ap (λ (ps : List Part). length ps) all.0, length-map-range_with_len f 0 (length olds), many.0)

pub returns-clause-parts : goal.returns-clause-parts
returns-clause-parts g c =
    let V = g.V.TouchView in
    let v = c.args.v.now in
    let x = expression_of c.args.expr.now in
    let f = nth_part (V.states v (V.at v)) x in
    let olds = c.args.parts.now.items in
    let many = so_many (V.states v (V.at v - 1)) (V.states v (V.at v)) (g.V.View.nodes v) x olds c.part_count-n-end.result c.requires.before
    (c.position.ensures.tells.even (V.at v - 1) (omega arith)) c.position.ensures.here c.part_count-n-end.ensures in
    let end : length olds ≤ c.loop-n.n = omega (arith, many.0, c.loop-n-test.false) in
    let all = all_read f (λ p. nat_eq (V.marks v p) (V.at v)) olds c.args.places c.loop-n.n c.loop-n.parts.items c.loop-n.all c.loop-n.touched c.loop-n.invariant end in
    all.0 ∙ ap (λ k. map f (range_with_len 0 k)) many.1

pub returns-clause-touched : goal.returns-clause-touched
returns-clause-touched g c =
    let V = g.V.TouchView in
    let v = c.args.v.now in
    let x = expression_of c.args.expr.now in
    let olds = c.args.parts.now.items in
    let many = so_many (V.states v (V.at v - 1)) (V.states v (V.at v)) (g.V.View.nodes v) x olds c.part_count-n-end.result c.requires.before
    (c.position.ensures.tells.even (V.at v - 1) (omega arith)) c.position.ensures.here c.part_count-n-end.ensures in
    let end : length olds ≤ c.loop-n.n = omega (arith, many.0, c.loop-n-test.false) in
    (all_read (nth_part (V.states v (V.at v)) x) (λ p. nat_eq (V.marks v p) (V.at v)) olds c.args.places c.loop-n.n c.loop-n.parts.items c.loop-n.all c.loop-n.touched c.loop-n.invariant end).1
