-- The lines that refuse a line.
use Rattle.std.specs.Prelude.{ℕ, List, ◌++◌, codes, decimal}
use Rattle.shell_lines.specs.declared.refusal.LineRefusal.{LineRefusal}
use Rattle.shell_lines.specs.declared.refusal.LineRefusal.TheVariants as refusal

abbrev pub refusal_line : LineRefusal → List ℕ
refusal_line (refusal.Syntax column) = codes "? 1 syntax at column " ++ (decimal column ++ codes "\n")
refusal_line refusal.NoNode = codes "? 2 no node\n"
refusal_line refusal.TooDeep = codes "? 3 too deep\n"
refusal_line refusal.Nested = codes "? 4 nested\n"
refusal_line refusal.NamesVariable = codes "? 5 variable in a watch\n"
refusal_line refusal.NoPoint = codes "? 6 no such point\n"
refusal_line refusal.NoPosition = codes "? 7 no such position\n"
refusal_line refusal.TooLong = codes "? 8 line too long\n"
refusal_line refusal.TooMany = codes "? 9 too many\n"
refusal_line refusal.NoThread = codes "? 13 no such thread\n"
