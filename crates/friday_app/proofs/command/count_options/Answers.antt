use Rattle.std.proofs.Common.{◌≡◌, ◌∙◌, length, rules, string_bytes, tests}
use Rattle.std.specs.Prelude.{filter}
use Rattle.std.proofs.lemmas.Iterator.{YieldsList-from_slice}
use Rattle.std.proofs.lemmas.Iterator.Consumers.{YieldsList-from_filter, count_from_yields_List}
use Rattle.friday_app.specs.Command.{is_images}
use Rattle.friday_app.proofs.WordTests.{length-filter_map}
use Rattle.friday_app.proofs.command.count_options.Goals as goal

pub returns : goal.returns
returns c =
    let words = c.args.words.now in
    let is : c.count.result ≡ length (filter (λ word. is_images (string_bytes word)) words) =
    count_from_yields_List c.filter.result c.count.result c.count.ensures.ran
    (YieldsList-from_filter _ (λ word. is_images (string_bytes word)) (YieldsList-from_slice words cc) c.filter.ensures.closure (λ x b q k. search (rules, tests))) in
    is ∙ length-filter_map is_images string_bytes words
