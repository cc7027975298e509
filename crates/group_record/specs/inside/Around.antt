-- The world around a process of a recorder, and what a call gets from it.
use Rattle.std.specs.Prelude.{ℕ, Bool, List, Option, Some, None}
use Rattle.lamport_tag.specs.declared.Tag.{Tag}
use Rattle.lib_calls.specs.declared.entry.Call.{Call}
use Rattle.lib_calls.specs.Answer.{Answer}
use Rattle.lossy_net.specs.declared.net.Front.{Front}
use Rattle.lossy_net.specs.Network.{mailbox_of}
use Rattle.guest_process.specs.declared.need.Need.{Need}
use Rattle.guest_process.specs.declared.need.Need.TheVariants as needs
use Rattle.guest_process.specs.Answers.{replies_with}
use Rattle.guest_process.specs.Live.{Env, chosen_signal, world_answer}
use Rattle.guest_process.specs.Meanings.{answered_at}
use Rattle.guest_process.specs.State.{State, thread_at}
use Rattle.group_world.specs.World.{World, has_pending, surroundings_of}

-- the world around process p, as it is kept
abbrev pub env_of : World → ℕ → Env
env_of w p = record {
  mailbox = mailbox_of w.net p;
  pool = (surroundings_of w p).pool;
  time = (surroundings_of w p).time;
  pending = has_pending w p;
  killed = (surroundings_of w p).killed;
}

-- a first datagram as it was found
abbrev pub seen_datagram : Front → Option Tag × List ℕ
seen_datagram front = (front.tag, front.payload.now)

-- the answer of the world to a call
abbrev pub world_gives : Call → ℕ → Env → Option Answer
world_gives c count env = world_answer c.kind c count env

-- the answer to a call, where it is given now
abbrev pub answer_by : Need → Call → ℕ → Env → Option Answer
answer_by (needs.Fixed reply) c count env = Some (replies_with reply)
answer_by needs.Blocked c count env = None
answer_by needs.World c count env = world_gives c count env

-- the handlers once thread t's call has this answer
abbrev pub handlers_at : State → ℕ → Answer → List (Option ℕ)
handlers_at S t a = (answered_at S t a (thread_at S t)).handlers

-- the signal that is delivered with this answer to a call of thread t
abbrev pub signal_with_answer : State → ℕ → Answer → Call → (ℕ → Bool) → ℕ
signal_with_answer S t a c pending = chosen_signal c.kind (handlers_at S t a) pending
