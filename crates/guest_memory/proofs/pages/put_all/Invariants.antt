use Rattle.std.proofs.Common.{◌≡◌, ◌≤◌, ◌-◌, length, take}
use Rattle.guest_memory.proofs.PageWrites.{Puts}
use Rattle.guest_memory.proofs.pages.put_all.Given as goal

abbrev pub invariant-loop-done : goal.invariant-loop-done
invariant-loop-done l = record {
  done : l.done ≤ length l.piece;
  len : length l.pages ≡ length l.initial.pages;
  puts : Puts l.initial.pages l.pages l.addr (take l.done l.piece) l.number;
}

abbrev pub decreases-loop-done : goal.decreases-loop-done
decreases-loop-done l = length l.piece - l.done
