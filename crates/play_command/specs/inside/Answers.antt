-- How a play of the code stands, and what its lines answer.
use Rattle.std.specs.Prelude.{◌≡◌, ℕ, false, is_some, List, map, Some, None, Result, Ok, Err}
use Rattle.schedule_text.specs.Schedule.{Schedule, run_count}
use Rattle.wasm_types.specs.Modules.{Module, module_of}
use Rattle.guest_process.specs.State.{State}
use Rattle.group_record.specs.Answer.{first_states, group_of}
use Rattle.group_record.specs.Live.{IsLiveAfter}
use Rattle.group_record.specs.Run.{run}
use Rattle.group_record.specs.declared.error.RecordError.{RecordError}
use Rattle.group_record.specs.declared.error.RecordError.TheVariants as errors
use Rattle.conversation.specs.Talker.{Answered, AnswersSo}
use Rattle.conversation.specs.declared.session.Go.{Go}
use Rattle.play_command.specs.Outcome.{opening_play}
use Rattle.play_command.specs.inside.Said.{said_of}
use Rattle.play_command.specs.Play.{PlayState, items_so_far, opening_line, played_run}
use Rattle.play_command.specs.declared.live_play.Play.{Play}
use Rattle.play_command.specs.declared.live_play.Playing.{Playing}

-- a play of the code stands where this play stands
pub record StandsInPlay (play : Play) (state : PlayState) : Type 0 where
  pub group : (first : List State) → first_states play.schedule.now (map module_of play.modules.now) ≡ Ok first → state.group ≡ group_of play.schedule.now first
  pub names : state.group.names ≡ play.names.items
  pub own : state.own ≡ play.schedule.now.items
  pub live : IsLiveAfter state.group (played_run state).steps play.live
  pub tries : play.tries ≡ run_count (items_so_far state)
  pub full : play.full ≡ is_some (played_run state).full

-- wherever a play stood, it stands there still, and says this
abbrev pub StaysAndSays : Play → List ℕ → Play → Type 0
StaysAndSays old text new = ((state : PlayState) → StandsInPlay old state → StandsInPlay new state) × (said_of new ≡ text)

-- a play began over this schedule and these modules, with its first line
pub record OpensWith (schedule : Schedule) (modules : List Module) (first : List State) (play : Play) (text : List ℕ) : Type 0 where
  pub schedule_is : play.schedule.now ≡ schedule
  pub modules_are : map module_of play.modules.now ≡ modules
  pub stands : StandsInPlay play (opening_play schedule first)
  pub text_is : text ≡ opening_line (opening_play schedule first)
  pub room : (run (group_of schedule first) schedule.items).full ≡ None

-- or why it did not
abbrev pub OpensPlay : Schedule → List Module → Result (List State) ℕ → Result (Playing × List ℕ) RecordError → Type 0
OpensPlay schedule modules begun (Ok opened) = (first : List State) × (begun ≡ Ok first) × OpensWith schedule modules first opened.0.play.value opened.1
OpensPlay schedule modules begun (Err (errors.BadSegment p)) = begun ≡ Err p
OpensPlay schedule modules begun (Err (errors.LogFull item)) = (first : List State) × (begun ≡ Ok first) × ((run (group_of schedule first) schedule.items).full ≡ Some item)
OpensPlay schedule modules begun (Err errors.WriteFault) = ⊥
OpensPlay schedule modules begun (Err errors.NoMemory) = Unit {0}

-- where the play stood, it answers so and stands so, and goes on
abbrev pub AnswersOnce : Play → (PlayState → Answered PlayState) → Play → List ℕ → Type 0
AnswersOnce old answered new text =
    (state : PlayState) → StandsInPlay old state → (text ≡ (answered state).text) × ((answered state).quits ≡ false) × StandsInPlay new (answered state).state

-- the same, and whether it goes on
abbrev pub AnswersPlay : Play → (PlayState → Answered PlayState) → Play → List ℕ → Go → Type 0
AnswersPlay old answered new text goes = (state : PlayState) → StandsInPlay old state → AnswersSo (answered state) (StandsInPlay new) text goes
