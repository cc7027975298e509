use Rattle.std.proofs.Common.{◌≡◌, ◌∙◌, ◌∷◌, ◌++◌, ◌+◌, List, Option, ap, drop, map, refl, subst, sym, ℕ}
use Rattle.std.proofs.lemmas.List.{drop_all, drop_more}
use Rattle.std.proofs.lemmas.Result.{err_from_is_err_and}
use Rattle.log_pairs.specs.declared.pairs.Loaded.{Loaded}
use Rattle.log_pairs.specs.Meanings.{AreLoadedPairs, pair_of}
use Rattle.log_pairs.proofs.OpenedReplays.{unread_stops}
use Rattle.log_pairs.proofs.LoadedPairs.{AreRead, all_read, none_read, one_read, reading_stops}
use Rattle.log_pairs.proofs.AskedPairs.{asking_pair, stopping_pair}
use Rattle.fri_outside.specs.Outside.{Folder}
use Rattle.command_run.specs.CountLaws.{counts_later, counts_none}
use Rattle.command_run.specs.Asked.{kept_names, unless_named}
use Rattle.command_run.specs.AskedLaws.{AsksUpTo, all_are_first, up_to_all, up_to_here, up_to_more, up_to_none, up_to_stopped}
use Rattle.command_run.specs.Kept.{AreOfFiles}
use Rattle.log_pairs.specs.declared.pairs.Pair.{Pair as PairFiles}
use Rattle.log_pairs.specs.Pairs.{files_of_pair, files_of_pairs, pair_inputs}
use Rattle.log_pairs.proofs.pairs.load_all.Goals as goal

pub loop-pair-init : goal.loop-pair-init
loop-pair-init g c = (
  subst (λ (items : List Loaded). AreRead (g.F.Files.told c.args.files.now) c.args.pairs.now c.args.pairs.now items) (sym c.new-all.ensures.items) (none_read (g.F.Files.told c.args.files.now) c.args.pairs.now),
  refl,
  record { reads = refl; writes = refl; misses = refl },
  c.new-modules.ensures.none (g.F.Files.told c.args.files.now),
  subst (λ (kept : List (List ℕ)). AsksUpTo (pair_inputs (map pair_of c.args.pairs.now)) (files_of_pairs kept (map pair_of c.args.pairs.now)) (g.F.Files.counts c.args.files.now) (g.F.Files.counts c.args.files.now))
      (sym c.new-modules.ensures.unnamed) (up_to_none (pair_inputs (map pair_of c.args.pairs.now)) (g.F.Files.counts c.args.files.now)),
)

pub load-requires : goal.load-requires
load-requires g c = subst (λ (told : Option Folder). AreOfFiles told c.loop-pair.modules) (sym c.loop-pair.invariant.1) c.loop-pair.invariant.3

pub returns-in_err-loaded-clause-answer : goal.returns-in_err-loaded-clause-answer
returns-in_err-loaded-clause-answer g c =
    let read = c.loop-pair.invariant in
    let pairs = c.args.pairs.now in
    let i = c.loop-pair.pair-index in
    let p = err_from_is_err_and c.from_residual.result c.from_residual.ensures.1 in
    rw (p.1, p.2) (unread_stops (map pair_of pairs) (g.F.Files.told c.args.files.now) c.in_err-loaded.field-0.0 (reading_stops (g.F.Files.told c.args.files.now) pairs (drop i pairs) (drop (i + 1) pairs) _ c.loop-pair.all.items c.in_err-loaded.field-0.0 read.0 (drop_more pairs i _ c.loop-pair-test.true)
    (λ folder is ls are. c.in_err-loaded.ensures.answer folder (read.1 ∙ is) ls (subst (λ (xs : List Loaded). AreLoadedPairs xs ls) (sym c.deref.ensures.value) are))))

pub loop-pair-preserved : goal.loop-pair-preserved
loop-pair-preserved g c =
    let read = c.loop-pair.invariant in
    let told = g.F.Files.told c.args.files.now in
    let pairs = c.args.pairs.now in
    let i = c.loop-pair.pair-index in
    let items = c.loop-pair.all.items in
    let next = drop_more pairs i _ c.loop-pair-test.true in (
      one_read told pairs (drop i pairs) (drop (i + 1) pairs) _ items c.push.new.self.items c.in_ok-loaded.loaded read.0 (drop_more pairs i _ c.loop-pair-test.true)
          (λ folder is ls are. c.in_ok-loaded.ensures.answer folder (read.1 ∙ is) ls (subst (λ (xs : List Loaded). AreLoadedPairs xs ls) (sym c.deref.ensures.value) are))
          (λ ls are. c.in_ok-loaded.ensures.fits ls (subst (λ (xs : List Loaded). AreLoadedPairs xs ls) (sym c.deref.ensures.value) are))
          c.in_ok-push.ensures.items,
      c.load.ensures.same ∙ read.1,
      counts_later _ _ _ _ read.2 (counts_none _ _ _ c.in_ok-loaded.ensures.counts),
      subst (λ (told : Option Folder). AreOfFiles told c.load.new.modules) read.1 c.load.ensures.kept,
      up_to_more (pair_inputs (map pair_of pairs)) _ _ _ _ (g.F.Files.counts c.loop-pair.files) _ read.4 (asking_pair c.loop-pair.modules c.load.new.modules pairs i _ next c.in_ok-loaded.ensures.named) c.in_ok-loaded.ensures.asks_all,
    )

pub returns-in_err-loaded-clause-asks : goal.returns-in_err-loaded-clause-asks
returns-in_err-loaded-clause-asks g c =
    let pairs = c.args.pairs.now in
    let i = c.loop-pair.pair-index in
    up_to_stopped (pair_inputs (map pair_of pairs)) _ _ _ _ _ _ c.loop-pair.invariant.4 (stopping_pair (kept_names c.loop-pair.modules) pairs i _ (drop_more pairs i _ c.loop-pair-test.true)) c.load.ensures.asks

pub returns-in_err-push-clause-asks : goal.returns-in_err-push-clause-asks
returns-in_err-push-clause-asks g c =
    let pairs = c.args.pairs.now in
    let i = c.loop-pair.pair-index in
    up_to_stopped (pair_inputs (map pair_of pairs)) _ _ _ _ _ _ c.loop-pair.invariant.4 (stopping_pair (kept_names c.loop-pair.modules) pairs i _ (drop_more pairs i _ c.loop-pair-test.true)) (all_are_first _ _ _ c.in_ok-loaded.ensures.asks_all)

pub returns-clause-asks_all : goal.returns-clause-asks_all
returns-clause-asks_all g c =
    let pairs = c.args.pairs.now in
    up_to_all (pair_inputs (map pair_of pairs)) _ _
    (subst (λ (rest : List PairFiles). AsksUpTo (pair_inputs (map pair_of pairs)) (files_of_pairs (kept_names c.loop-pair.modules) (map pair_of rest)) (g.F.Files.counts c.args.files.now) (g.F.Files.counts c.loop-pair.files))
    (drop_all c.loop-pair.pair-index pairs c.loop-pair-test.false) c.loop-pair.invariant.4)

pub returns-clause-asks : goal.returns-clause-asks
returns-clause-asks g c = up_to_here (pair_inputs (map pair_of c.args.pairs.now)) _ _ _ c.loop-pair.invariant.4

pub returns-clause-answer : goal.returns-clause-answer
returns-clause-answer g c =
    let pairs = c.args.pairs.now in
    let i = c.loop-pair.pair-index in
    all_read (g.F.Files.told c.args.files.now) pairs (drop i pairs) c.loop-pair.all.items c.loop-pair.invariant.0 (drop_all i pairs c.loop-pair-test.false)
