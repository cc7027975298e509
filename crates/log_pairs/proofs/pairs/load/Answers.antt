use Rattle.std.proofs.Common.{◌≡◌, ◌∙◌, ◌∷◌, ◌≤◌, [], None, Err, Ok, ap, arith, length, refl, rules, sym}
use Rattle.std.proofs.lemmas.Result.{err_from_is_err_and}
use Rattle.wasm_types.specs.Modules.{module_of as shown}
use Rattle.call_log.specs.Limits.{most_log}
use Rattle.log_pairs.specs.Pairs.{clash_of_logs}
use Rattle.log_pairs.specs.Meanings.{pair_of}
use Rattle.command_run.specs.AskedLaws.{all_are_first, asks_before, asks_first_then, asks_then}
use Rattle.command_run.specs.CountLaws.{counts_later, counts_none, counts_still}
use Rattle.log_pairs.proofs.LoadedPairs.{is_loaded, pair_read, read_as}
use Rattle.log_pairs.proofs.pairs.load.Goals as goal

pub returns-in_err-log-clause-cause : goal.returns-in_err-log-clause-cause
returns-in_err-log-clause-cause g c =
    let p = err_from_is_err_and c.from_residual-in_err-log.result c.from_residual-in_err-log.ensures.1 in
    rw (p.1, p.2) (c.in_err-log.ensures.cause (g.F.Files.counts c.args.files.now) (g.F.Files.counts c.take_log.new.files))

pub returns-in_err-log-clause-counts : goal.returns-in_err-log-clause-counts
returns-in_err-log-clause-counts g c =
    let e = c.in_err-log.field-0.0 in
    let both = counts_later _ _ _ (Ok tt) (counts_none _ _ _ c.in_ok-module.ensures.counts) (counts_none _ _ _ c.in_ok-bytes.ensures.counts) in
    let p = err_from_is_err_and c.from_residual-in_err-log.result c.from_residual-in_err-log.ensures.1 in
    rw (p.1, p.2) (counts_still _ _ _ (Err e) c.in_err-log.ensures.still both)

pub returns-clause-answer : goal.returns-clause-answer
returns-clause-answer g c folder told ls are =
    let log = c.in_ok-log.log in
    let few : length c.in_ok-bytes.bytes.items ≤ most_log = omega (arith, c.in_ok-bytes.ensures.within, c.in_ok-bytes.bytes.ok.0) in
    let unclashed : c.clash_of_logs.result ≡ None = search rules in
    let none : clash_of_logs ls log.head ≡ None = ap (clash_of_logs ls) (sym c.head.ensures) ∙ sym (c.clash_of_logs.ensures.answer ls are) ∙ unclashed in (
      read_as (pair_of c.args.pair) (shown c.in_ok-module.module) (log.head, log.left),
      (
        pair_read folder ls (pair_of c.args.pair) (shown c.in_ok-module.module) c.in_ok-bytes.bytes.items (log.head, log.left)
            (c.in_ok-module.ensures.answer folder told)
            (c.in_ok-bytes.ensures.answer folder (c.take.ensures.same ∙ told))
            c.in_ok-log.ensures.answer none,
        is_loaded c.exact_logs.ensures _ (pair_of c.args.pair) c.in_ok-bytes.bytes.items refl c.in_ok-log.ensures.spelled c.in_ok-log.ensures.answer few,
      ),
    )

pub returns-clause-fits : goal.returns-clause-fits
returns-clause-fits g c ls are =
    let log = c.in_ok-log.log in
    let few : length c.in_ok-bytes.bytes.items ≤ most_log = omega (arith, c.in_ok-bytes.ensures.within, c.in_ok-bytes.bytes.ok.0) in
    let unclashed : c.clash_of_logs.result ≡ None = search rules in (
      read_as (pair_of c.args.pair) (shown c.in_ok-module.module) (log.head, log.left),
      (
        is_loaded c.exact_logs.ensures _ (pair_of c.args.pair) c.in_ok-bytes.bytes.items refl c.in_ok-log.ensures.spelled c.in_ok-log.ensures.answer few,
        ap (clash_of_logs ls) (sym c.head.ensures) ∙ sym (c.clash_of_logs.ensures.answer ls are) ∙ unclashed,
      ),
    )

-- ---- the files that were asked for

pub returns-in_err-module-clause-asks : goal.returns-in_err-module-clause-asks
returns-in_err-module-clause-asks g c = asks_before _ (c.args.pair.log_file.now ∷ []) _ _ c.take.ensures.asks

pub returns-in_err-bytes-clause-asks : goal.returns-in_err-bytes-clause-asks
returns-in_err-bytes-clause-asks g c = asks_first_then _ _ (g.F.Files.counts c.args.files.now) (g.F.Files.counts c.take.new.files) (g.F.Files.counts c.take_log.new.files) c.in_ok-module.ensures.asks_all c.take_log.ensures.asks

pub returns-in_err-log-clause-asks : goal.returns-in_err-log-clause-asks
returns-in_err-log-clause-asks g c = all_are_first _ _ _ (asks_then _ _ (g.F.Files.counts c.args.files.now) (g.F.Files.counts c.take.new.files) (g.F.Files.counts c.take_log.new.files) c.in_ok-module.ensures.asks_all c.in_ok-bytes.ensures.asks_all)

pub returns-clause-asks : goal.returns-clause-asks
returns-clause-asks g c = all_are_first _ _ _ (asks_then _ _ (g.F.Files.counts c.args.files.now) (g.F.Files.counts c.take.new.files) (g.F.Files.counts c.take_log.new.files) c.in_ok-module.ensures.asks_all c.in_ok-bytes.ensures.asks_all)

pub returns-in-Some-clause-asks : goal.returns-in-Some-clause-asks
returns-in-Some-clause-asks g c = all_are_first _ _ _ (asks_then _ _ (g.F.Files.counts c.args.files.now) (g.F.Files.counts c.take.new.files) (g.F.Files.counts c.take_log.new.files) c.in_ok-module.ensures.asks_all c.in_ok-bytes.ensures.asks_all)

pub returns-clause-asks_all : goal.returns-clause-asks_all
returns-clause-asks_all g c = asks_then _ _ (g.F.Files.counts c.args.files.now) (g.F.Files.counts c.take.new.files) (g.F.Files.counts c.take_log.new.files) c.in_ok-module.ensures.asks_all c.in_ok-bytes.ensures.asks_all
