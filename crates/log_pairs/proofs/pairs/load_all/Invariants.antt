use Rattle.std.proofs.Common.{◌≡◌, drop, map}
use Rattle.std.specs.Prelude.{⊤, Ok}
use Rattle.log_pairs.proofs.LoadedPairs.{AreRead}
use Rattle.command_run.specs.Asked.{kept_names}
use Rattle.command_run.specs.AskedLaws.{AsksUpTo}
use Rattle.command_run.specs.Call.{CountsFaults}
use Rattle.log_pairs.specs.Meanings.{pair_of}
use Rattle.log_pairs.specs.Pairs.{files_of_pairs, pair_inputs}
use Rattle.command_run.specs.Kept.{AreOfFiles}
use Rattle.log_pairs.proofs.pairs.load_all.Given as goal

abbrev pub invariant-loop-pair : goal.invariant-loop-pair
invariant-loop-pair g l =
    AreRead (g.F.Files.told l.initial.files) l.pairs (drop l.pair-index l.pairs) l.all.items
    × (g.F.Files.told l.files ≡ g.F.Files.told l.initial.files)
    × CountsFaults {T = ⊤} (g.F.Files.counts l.initial.files) (g.F.Files.counts l.files) (Ok tt)
    × AreOfFiles (g.F.Files.told l.initial.files) l.modules
    × AsksUpTo (pair_inputs (map pair_of l.pairs)) (files_of_pairs (kept_names l.modules) (map pair_of (drop l.pair-index l.pairs))) (g.F.Files.counts l.initial.files) (g.F.Files.counts l.files)
