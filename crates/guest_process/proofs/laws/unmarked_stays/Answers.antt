use Rattle.guest_process.proofs.EventMarks.{unmarked}
use Rattle.guest_process.proofs.laws.unmarked_stays.Goals as goal

pub returns : goal.returns
returns c =
    unmarked (record {
      keeps = c.never_stuck.ensures.stamps;
      tells = c.never_stuck.ensures.marks;
      written = c.marked.ensures.written;
      nothing = c.marked.ensures.nothing;
      follow = c.marked.ensures.follow;
    })
