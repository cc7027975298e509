use Rattle.std.proofs.Common.{◌≡◌, ◌∙◌, rules, tests}
use Rattle.std.specs.Prelude.{bytes_eq}
use Rattle.std.specs.List.{list_any}
use Rattle.std.proofs.lemmas.Iterator.{YieldsList-from_slice}
use Rattle.std.proofs.lemmas.Iterator.Search.{any_from_yields_List}
use Rattle.log_pairs.specs.declared.pairs.Loaded.{Loaded}
use Rattle.log_pairs.proofs.LogClashes.{names_are}
use Rattle.log_pairs.proofs.pairs.has_name.Goals as goal

pub returns : goal.returns
returns c ls are =
    let is : c.any.result ≡ list_any (λ (l : Loaded). bytes_eq l.log.head.name c.args.name.now) c.args.earlier.now =
    any_from_yields_List (λ (l : Loaded). bytes_eq l.log.head.name c.args.name.now) _ _ c.any.result c.any.ensures.ran (YieldsList-from_slice c.args.earlier.now cc) (λ x b q k. search (rules, tests)) in
    is ∙ names_are c.args.earlier.now ls c.args.name.now are
