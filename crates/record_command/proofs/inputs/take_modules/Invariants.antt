use Rattle.std.proofs.Common.{◌≡◌, drop, map}
use Rattle.std.specs.Prelude.{⊤, Ok}
use Rattle.wasm_types.specs.Modules.{module_of as shown}
use Rattle.record_command.proofs.GroupModules.{AreTaken}
use Rattle.command_run.specs.Asked.{first_named, kept_names}
use Rattle.command_run.specs.AskedLaws.{AsksUpTo}
use Rattle.command_run.specs.Call.{CountsFaults}
use Rattle.record_command.specs.Expected.{module_files}
use Rattle.command_run.specs.Kept.{AreOfFiles}
use Rattle.record_command.proofs.inputs.take_modules.Given as goal

abbrev pub invariant-loop-line : goal.invariant-loop-line
invariant-loop-line g l =
    AreTaken (g.F.Files.told l.initial.files) l.lines l.line-index (map shown l.modules.items)
    × (g.F.Files.told l.files ≡ g.F.Files.told l.initial.files)
    × CountsFaults {T = ⊤} (g.F.Files.counts l.initial.files) (g.F.Files.counts l.files) (Ok tt)
    × AreOfFiles (g.F.Files.told l.initial.files) l.read
    × AsksUpTo (module_files l.lines) (first_named (kept_names l.read) (map (λ line. line.«module») (drop l.line-index l.lines))) (g.F.Files.counts l.initial.files) (g.F.Files.counts l.files)
