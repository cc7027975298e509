use Rattle.std.proofs.Common.{◌≡◌, ◌∙◌, Bor, List, bytes_eq, rules, sym, tests, ℕ}
use Rattle.std.specs.List.{list_any}
use Rattle.std.proofs.lemmas.Iterator.{YieldsList-from_slice}
use Rattle.std.proofs.lemmas.Iterator.Search.{any_from_yields_List}
use Rattle.command_run.proofs.Clashes.{any_of_map}
use Rattle.command_run.proofs.apart.was_read.Goals as goal

pub returns : goal.returns
returns c =
    let read = c.args.read.now in
    let is : c.any.result ≡ list_any (λ (file : Bor (List ℕ)). bytes_eq c.args.name.now file.now) read =
    any_from_yields_List (λ (file : Bor (List ℕ)). bytes_eq c.args.name.now file.now) _ _ c.any.result c.any.ensures.ran (YieldsList-from_slice read cc) (λ x b q k. search (rules, tests)) in
    is ∙ sym (any_of_map (bytes_eq c.args.name.now) (λ (file : Bor (List ℕ)). file.now) read)
