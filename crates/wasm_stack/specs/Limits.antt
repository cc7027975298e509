-- Threads within their limits.
use Rattle.std.specs.Prelude.{◌<◌, ◌≤◌, length}
use Rattle.wasm_stack.specs.Thread.{Thread, most_frames, size_of_thread}
use Rattle.wasm_types.specs.Limits.{most_thread_size}

-- fewer frames wait than a thread may have, and it is no larger than a thread may be
pub record ThreadWithin (t : Thread) : Type 0 where
  pub frames : length t.callers < most_frames
  pub size : size_of_thread t ≤ most_thread_size
