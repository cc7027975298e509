use Rattle.std.proofs.Common.{◌≡◌, ◌∙◌, Bor, List, ℕ, rules, sym, tests}
use Rattle.std.specs.List.{list_all}
use Rattle.std.proofs.lemmas.Iterator.{YieldsList-from_slice}
use Rattle.std.proofs.lemmas.Iterator.Search.{all_from_yields_List}
use Rattle.std.proofs.lemmas.List.Folds.{list_all-map}
use Rattle.friday_app.specs.Command.{is_file_word}
use Rattle.friday_app.proofs.command.are_file_words.Goals as goal

pub returns : goal.returns
returns c =
    let names = c.args.names.now in
    let is : c.all.result ≡ list_all (λ (name : Bor (List ℕ)). is_file_word name.now) names =
    all_from_yields_List (λ (name : Bor (List ℕ)). is_file_word name.now) _ _ c.all.result c.all.ensures.ran (YieldsList-from_slice names cc) (λ x b q k. search (rules, tests)) in
    is ∙ sym (list_all-map is_file_word (λ name. name.now) names)
