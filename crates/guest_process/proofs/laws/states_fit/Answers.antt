use Rattle.guest_process.proofs.KeptFits.{state_kept}
use Rattle.guest_process.proofs.KeptSound.{sound_kept}
use Rattle.guest_process.proofs.FirstState.{started}
use Rattle.guest_process.proofs.laws.states_fit.Goals as goal

pub returns-clause-ranges : goal.returns-clause-ranges
returns-clause-ranges c =
    state_kept c.never_stuck.ensures.same_module (record {
      keeps = c.never_stuck.ensures.stamps;
      tells = c.never_stuck.ensures.marks;
      written = c.marked.ensures.written;
      nothing = c.marked.ensures.nothing;
      follow = c.marked.ensures.follow;
    })

pub returns-clause-sound : goal.returns-clause-sound
returns-clause-sound c = sound_kept c.never_stuck.ensures.same_module

pub returns-clause-started : goal.returns-clause-started
returns-clause-started c = started c.stamps_no_later.ensures.written c.stamps_no_later.ensures.fresh
