use Rattle.std.proofs.Common.{◌≡◌, ◌-◌, ◌++◌, take}
use Rattle.call_log.specs.declared.version.Version.TheVariants.{Two}
use Rattle.call_log.specs.Entry.{encodings}
use Rattle.call_log.specs.Log.{entries_of, rewritten_log}
use Rattle.call_log.proofs.rewriting.rewrite.Given as goal

-- with the entries that are still to be written the log is whole
abbrev pub invariant-loop : goal.invariant-loop
invariant-loop l =
    l.out.items ++ encodings Two l.last (take (l.fn.most - l.counter) (entries_of l.left.left)) ≡ rewritten_log l.fn.log.head (take l.fn.most (entries_of l.fn.log.left))
