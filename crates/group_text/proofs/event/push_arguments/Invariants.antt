use Rattle.std.proofs.Common.{◌≡◌, ◌++◌, take}
use Rattle.std.specs.List.{flat_map}
use Rattle.group_text.specs.Texts.{argument_text, arguments_text}
use Rattle.group_text.proofs.event.push_arguments.Given as goal

-- what is written, with what the arguments still to come write, is the whole
abbrev pub invariant-loop-argument : goal.invariant-loop-argument
invariant-loop-argument l =
    l.text ++ flat_map (argument_text l.signature) (take l.argument-iterator.n l.argument-iterator.iter.rest.now) ≡ l.fn.text ++ arguments_text l.signature l.call
