use Rattle.std.proofs.Common.{◌≡◌, map, take}
use Rattle.std.specs.Prelude.{⊤, Ok}
use Rattle.fri_outside.specs.Several.{with_files}
use Rattle.command_run.specs.Call.{CountsFaults}
use Rattle.cut_command.specs.inside.Meanings.{front_file}
use Rattle.cut_command.proofs.cutting.write_cuts.Given as goal

abbrev pub invariant-loop-front : goal.invariant-loop-front
invariant-loop-front g l =
    (g.F.Files.told l.files ≡ with_files (take l.front-index (map front_file l.fronts)) (g.F.Files.told l.initial.files))
    × CountsFaults {T = ⊤} (g.F.Files.counts l.initial.files) (g.F.Files.counts l.files) (Ok tt)
    × ((g.F.Files.counts l.files).asked ≡ (g.F.Files.counts l.initial.files).asked)
