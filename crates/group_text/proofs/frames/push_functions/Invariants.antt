use Rattle.std.proofs.Common.{◌≡◌, ◌++◌, drop}
use Rattle.std.specs.List.{flat_map}
use Rattle.group_text.specs.Texts.{function_text}
use Rattle.group_text.proofs.frames.push_functions.Given as goal

-- what is written, with the functions still to come, is the whole
abbrev pub invariant-loop-frame : goal.invariant-loop-frame
invariant-loop-frame l = l.text ++ flat_map function_text (drop l.frame-index l.frames) ≡ l.fn.text ++ flat_map function_text l.frames
