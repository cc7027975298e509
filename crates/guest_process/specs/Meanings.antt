-- What a process answers its caller: the need of a call, and the threads that can go on.
use Rattle.std.specs.Prelude.{ℕ, ◌==◌, Bool, false, List, [], Option, Some, None, is_some, if◌then◌else◌}
use Rattle.wasm_stack.specs.Thread.{functions_of}
use Rattle.lib_calls.specs.Answer.{Answer}
use Rattle.guest_process.specs.declared.end.End.{End}
use Rattle.guest_process.specs.declared.end.End.TheVariants.{Running, Trapped}
use Rattle.guest_process.specs.declared.need.Need.{Need as PlainNeed}
use Rattle.guest_process.specs.declared.need.Need.TheVariants as plainly
use Rattle.guest_process.specs.declared.waiting.Waiting.{Waiting}
use Rattle.guest_process.specs.Answers.{Need, Fixed, Blocked, World, effects_of_answer}
use Rattle.guest_process.specs.GoesOn.{handler}
use Rattle.guest_process.specs.State.{State, is_running, thread_at}

-- a need without the state that it makes
abbrev pub plain_need : Need → PlainNeed
plain_need (Fixed reply S) = plainly.Fixed reply
plain_need Blocked = plainly.Blocked
plain_need World = plainly.World

-- the thread with this number, where it is live and the process runs
abbrev pub able : State → ℕ → Option Waiting
able S t = if is_running S then thread_at S t else None

abbrev pub waiting_frames : Option Waiting → List ℕ
waiting_frames None = []
waiting_frames (Some w) = functions_of w.strand.thread

abbrev pub is_thread : ℕ → Option ℕ → Bool
is_thread t None = false
is_thread t (Some u) = u == t

abbrev pub frames_by_end : End → State → ℕ → List ℕ
frames_by_end Running S t = waiting_frames (thread_at S t)
frames_by_end (Trapped trap) S t = if is_thread t S.last_thread then S.trap_frames else []
frames_by_end _ S t = []

-- The functions of a thread's frames, the innermost first: where its call waits, and where it trapped. Another thread that
-- ended has none, and neither has one of a process that ended.
abbrev pub thread_frames : State → ℕ → List ℕ
thread_frames S t = frames_by_end S.end S t

-- the state after thread t's pending call got this answer, before it runs
abbrev pub answered_at : State → ℕ → Answer → Option Waiting → State
answered_at S t a None = S
answered_at S t a (Some w) = effects_of_answer w.call.kind S t w.call a

-- a signal has a handler then
abbrev pub handles_after : State → ℕ → Answer → ℕ → Bool
handles_after S t a signal = is_some (handler (answered_at S t a (thread_at S t)).handlers signal)
