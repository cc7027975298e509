use Rattle.std.proofs.Common.{◌≡◌, ◌∙◌, nat_eq, rules, tests}
use Rattle.std.specs.List.{list_any}
use Rattle.std.proofs.lemmas.Iterator.{YieldsList-from_slice}
use Rattle.std.proofs.lemmas.Iterator.Search.{any_from_yields_List}
use Rattle.log_pairs.specs.declared.pairs.Loaded.{Loaded}
use Rattle.log_pairs.proofs.LogClashes.{processes_are}
use Rattle.log_pairs.proofs.pairs.has_process.Goals as goal

pub returns : goal.returns
returns c ls are =
    let is : c.any.result ≡ list_any (λ (l : Loaded). nat_eq l.log.head.process c.args.process) c.args.earlier.now =
    any_from_yields_List (λ (l : Loaded). nat_eq l.log.head.process c.args.process) _ _ c.any.result c.any.ensures.ran (YieldsList-from_slice c.args.earlier.now cc) (λ x b q k. search (rules, tests)) in
    is ∙ processes_are c.args.earlier.now ls c.args.process are
