use Rattle.std.proofs.Common.{◌≡◌, ◌∙◌, Bool, Bor, List, String, Global, find, map, option_map, rules, string_bytes, tests, ℕ}
use Rattle.std.proofs.lemmas.Iterator.{YieldsList-from_slice}
use Rattle.std.proofs.lemmas.Iterator.Search.{find_from_yields_List}
use Rattle.command_run.specs.Apart.{was_read}
use Rattle.command_run.proofs.Clashes.{find_in_map, map_again}
use Rattle.command_run.proofs.apart.first_clash.Goals as goal

pub returns : goal.returns
returns c =
    let read = map (λ (file : Bor (List ℕ)). file.now) c.args.read.now in
    let among : String Global → Bool = λ name. was_read read (string_bytes name) in
    let found : option_map (λ (name : Bor (String Global)). name.now) c.find.result ≡ find among c.args.made.now =
    find_from_yields_List among _ _ c.find.result c.find.ensures.ran (YieldsList-from_slice c.args.made.now cc) (λ x b q k. search (rules, tests)) in
    map_again (λ (name : Bor (String Global)). name.now) string_bytes c.find.result _ found ∙ find_in_map (was_read read) string_bytes c.args.made.now
