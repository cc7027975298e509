-- At each moment of a play its schedule is recorded to the run that was played.
use Rattle.std.proofs.Common.{◌≡◌, ◌∙◌, ℕ, ◌+◌, ◌≤◌, Bool, true, false, cond, List, [], ◌∷◌, ◌++◌, length, Option, Some, None, Result, Ok, Err, refl, ap, sym, subst, arith, append-nil, length-append}
use Rattle.std.proofs.lemmas.List.{append_assoc, length-map}
use Rattle.std.specs.Prelude.{is_some, nat_lt}
use Rattle.std.proofs.lemmas.Bool.Decides.{nat_tests}
use Rattle.fri_outside.specs.Outside.{Folder}
use Rattle.wasm_types.specs.Modules.{Module}
use Rattle.expression_text.specs.Computed.{cut_tokens}
use Rattle.expression_text.specs.Lexing.{LexedLine, PlacedToken, is_too_deep, token_texts}
use Rattle.schedule_text.specs.ItemLine.{is_item_line, item_of_line}
use Rattle.schedule_text.specs.Laws.{CountsItem, GivesItems, GivesSchedules, TakesItem}
use Rattle.schedule_text.specs.Limits.{most_runs, most_schedule}
use Rattle.schedule_text.specs.Reading.{BadLineAt, ScheduleRefusal, TooManyRuns, schedule_of}
use Rattle.schedule_text.specs.Schedule.{IsInRange, IsSchedule, Schedule, run_count}
use Rattle.schedule_text.specs.declared.item.Item.{Item}
use Rattle.schedule_text.specs.declared.process.ProcessLine.{ProcessLine}
use Rattle.shell_lines.specs.Limits.{most_line_bytes}
use Rattle.shell_lines.specs.Meaning.{is_silent}
use Rattle.guest_process.specs.State.{State}
use Rattle.group_record.specs.Answer.{first_states, group_of}
use Rattle.group_record.specs.Run.{GroupStart, RunProgress, after_item, run}
use Rattle.command_run.specs.Outcome.{CommandStop, and_then, file_of}
use Rattle.command_run.specs.OutcomeLaws.{result_follows}
use Rattle.record_command.specs.Expected.{KeepsSchedule, modules_of, record_outcome, schedule_in, schedule_or_refusal}
use Rattle.record_command.specs.ExpectedLaws.{first_are, outcome_of_read, schedule_is}
use Rattle.record_command.specs.Record.{run_outcome}
use Rattle.play_lines.specs.Limits.{most_item_line_bytes}
use Rattle.play_lines.specs.Lines.{Again, Datagram, Mem, PlayCommand, Print, Printed, Processes, Quit, Threads, lacks_in_play, nests_in_play, play_spelled}
use Rattle.play_lines.specs.Meaning.{Does, PlayMeaning, Plays, Refuses, Silent, item_meaning, play_by_command, play_by_cut, play_meaning}
use Rattle.play_lines.specs.declared.refusal.PlayRefusal.{PlayRefusal}
use Rattle.play_lines.specs.declared.refusal.PlayRefusal.TheVariants as refusal
use Rattle.play_command.specs.Laws.{PlayedIsRecorded, play_after, played_schedule}
use Rattle.play_command.specs.Outcome.{opening_play}
use Rattle.play_command.specs.Play.{PlayState, answer_in_play, begun_again, played_text, items_so_far, play_answer, refuses_play, played_run, with_played}
use Rattle.play_command.proofs.ItemsDone.{full_at, item_at, items_more}
use Rattle.play_command.proofs.Reached.{none_of}

-- ---- the item of a line

abbrev pub item_in : PlayMeaning → Option Item
item_in Silent = None
item_in (Refuses why) = None
item_in (Plays i) = Some i
item_in (Does command) = None

judged_no_item : (nests lacks : Bool) (n l : PlayRefusal) (command : PlayCommand) → item_in (cond nests (Refuses n) (cond lacks (Refuses l) (Does command))) ≡ None
judged_no_item true lacks n l command = refl
judged_no_item false true n l command = refl
judged_no_item false false n l command = refl

spelled_no_item : (tokens : LexedLine) (r : Result PlayCommand ℕ) → item_in (play_by_command tokens r) ≡ None
spelled_no_item tokens (Ok command) = judged_no_item (nests_in_play command) (lacks_in_play command) _ _ command
spelled_no_item tokens (Err n) = refl

deep_no_item : (deep : Bool) (why : PlayRefusal) (rest : PlayMeaning) → item_in rest ≡ None → item_in (cond deep (Refuses why) rest) ≡ None
deep_no_item true why rest none = refl
deep_no_item false why rest none = none

cut_no_item : (names : List (List ℕ)) (line : List ℕ) (r : Result (List PlacedToken) ℕ) → item_in (play_by_cut names line r) ≡ None
cut_no_item names line (Err column) = refl
cut_no_item names line (Ok tokens) =
    let lexed : LexedLine = record { tokens = tokens; end = length line + 1 } in
    deep_no_item (is_too_deep (token_texts lexed)) _ (play_by_command lexed (play_spelled names (token_texts lexed))) (spelled_no_item lexed (play_spelled names (token_texts lexed)))

read_by : (long silent is_item overlong : Bool) (a b : PlayRefusal) (o : Option Item) (rest : PlayMeaning) (i : Item) → item_in rest ≡ None
    → item_in (cond long (Refuses a) (cond silent Silent (cond is_item (item_meaning o) (cond overlong (Refuses b) rest)))) ≡ Some i → o ≡ Some i
read_by true silent is_item overlong a b o rest i none is = cc
read_by false true is_item overlong a b o rest i none is = cc
read_by false false true overlong a b None rest i none is = cc
read_by false false true overlong a b (Some j) rest i none is = is
read_by false false false true a b o rest i none is = cc
read_by false false false false a b o rest i none is = cc

-- a line that plays an item has it
pub item_of_played : (names : List (List ℕ)) (line : List ℕ) (i : Item) → item_in (play_meaning names line) ≡ Some i → item_of_line (length names) line ≡ Some i
item_of_played names line i is =
    read_by (nat_lt most_item_line_bytes (length line)) (is_silent line) (is_item_line line) (nat_lt most_line_bytes (length line)) _ _ (item_of_line (length names) line) (play_by_cut names line (cut_tokens line)) i
    (cut_no_item names line (cut_tokens line)) is

-- ---- how a play stands

-- its group and its own items are those of the schedule; with those of the lines they make a schedule; and only the last of
-- them can have been one for which a log had no room
pub record StandsPlayed (schedule : Schedule) (first : List State) (state : PlayState) : Type 0 where
  pub group : state.group ≡ group_of schedule first
  pub own : state.own ≡ schedule.items
  pub formed : IsSchedule (played_schedule schedule state)
  pub last : (item : ℕ) → (played_run state).full ≡ Some item → item ≡ length (items_so_far state)

-- without items of lines
stands_begun : (schedule : Schedule) (first : List State) → IsSchedule schedule → (played_run (opening_play schedule first)).full ≡ None → StandsPlayed schedule first (opening_play schedule first)
stands_begun schedule first formed room = record {
  group = refl;
  own = refl;
  formed = subst (λ (items : List Item). IsSchedule (record schedule { items = items })) (sym (append-nil schedule.items)) formed;
  last = λ item full. cc;
}

not_over : (n m : ℕ) → nat_lt m n ≡ false → n ≤ m
not_over n m is = grind (arith, nat_tests)

module _ (gives : GivesItems) (takes : TakesItem) (counts : CountsItem) (schedule : Schedule) (first : List State) (begun : IsSchedule schedule) (room : (played_run (opening_play schedule first)).full ≡ None) where
  -- with one item more
  stands_more : (state : PlayState) (i : Item) → StandsPlayed schedule first state → IsInRange (length schedule.processes) i
      → nat_lt most_runs (run_count (items_so_far (with_played state i))) ≡ false → is_some (played_run state).full ≡ false → StandsPlayed schedule first (with_played state i)
  stands_more state i s ranged few not_full = record {
    group = s.group;
    own = s.own;
    formed = subst (λ (items : List Item). IsSchedule (record schedule { items = items })) joined
        (record { formed = takes (played_schedule schedule state) i s.formed.formed ranged; runs = subst (λ (items : List Item). run_count items ≤ most_runs) (sym joined) (not_over _ _ few) });
    last = λ item full.
        full_at (1 + length items) item (after_item state.group (1 + length items) i (run state.group items)).full (item_at state.group (1 + length items) i (run state.group items) (none_of (played_run state).full not_full))
        (ap (λ (d : RunProgress). d.full) (sym (items_more state.group 1 items i _)) ∙ ap (λ (is : List Item). (run state.group is).full) joined ∙ full)
        ∙ omega (arith, length-append items (i ∷ []), ap (λ (is : List Item). length is) joined);
  } where
    items : List Item
    items = items_so_far state

    joined : items ++ i ∷ [] ≡ state.own ++ (state.more ++ i ∷ [])
    joined = append_assoc state.own state.more (i ∷ [])

  plays_by : (state : PlayState) (i : Item) → StandsPlayed schedule first state → IsInRange (length schedule.processes) i → (many full : Bool)
      → nat_lt most_runs (run_count (items_so_far (with_played state i))) ≡ many → is_some (played_run state).full ≡ full
      → StandsPlayed schedule first (cond many (refuses_play state refusal.TooManyTries) (cond full (refuses_play state refusal.Full) (record { text = played_text state.group i (played_run state) (played_run (with_played state i)); state = with_played state i; quits = false }))).state
  plays_by state i s ranged true full few not_full = s
  plays_by state i s ranged false true few not_full = s
  plays_by state i s ranged false false few not_full = stands_more state i s ranged few not_full

  stands_again : (state : PlayState) → StandsPlayed schedule first state → StandsPlayed schedule first (begun_again state)
  stands_again state s =
      subst (λ (group : GroupStart). StandsPlayed schedule first (record { group = group; own = state.own; more = [] })) (sym s.group)
      (subst (λ (own : List Item). StandsPlayed schedule first (record { group = group_of schedule first; own = own; more = [] })) (sym s.own) (stands_begun schedule first begun room))

  answered : (state : PlayState) (m : PlayMeaning) → StandsPlayed schedule first state → ((i : Item) → item_in m ≡ Some i → IsInRange (length schedule.processes) i)
      → StandsPlayed schedule first (answer_in_play state m).state
  answered state Silent s ranged = s
  answered state (Refuses why) s ranged = s
  answered state (Plays i) s ranged = plays_by state i s (ranged i refl) _ _ refl refl
  answered state (Does Processes) s ranged = s
  answered state (Does (Threads _)) s ranged = s
  answered state (Does (Datagram p n)) s ranged = s
  answered state (Does (Printed _ from)) s ranged = s
  answered state (Does (Print x)) s ranged = s
  answered state (Does (Mem _ addr len)) s ranged = s
  answered state (Does Again) s ranged = stands_again state s
  answered state (Does Quit) s ranged = s

  in_range : (state : PlayState) (line : List ℕ) → StandsPlayed schedule first state → (i : Item) → item_in (play_meaning state.group.names line) ≡ Some i → IsInRange (length schedule.processes) i
  in_range state line s i is =
      subst (λ (n : ℕ). IsInRange n i) (ap (λ (group : GroupStart). length group.names) s.group ∙ length-map schedule.processes (λ (line : ProcessLine). line.name))
      ((gives (length state.group.names) line i).0 (item_of_played state.group.names line i is)).1

  pub stands_after : (state : PlayState) (lines : List (List ℕ)) → StandsPlayed schedule first state → StandsPlayed schedule first (play_after state lines)
  stands_after state [] s = s
  stands_after state (line ∷ lines) s = stands_after (play_answer state line).state lines (answered state (play_meaning state.group.names line) s (in_range state line s))

-- ---- what its schedule is recorded to

records : (images : Bool) (name : List ℕ) (folder : Folder) (schedule : Schedule) (modules : List Module) (first : List State) (state : PlayState) → state.group ≡ group_of schedule first
    → first_states schedule modules ≡ Ok first → schedule_in folder name ≡ Ok (played_schedule schedule state) → modules_of folder schedule.processes ≡ Ok modules → KeepsSchedule images name schedule
    → record_outcome images name folder ≡ run_outcome images name state.group (played_run state)
records images name folder schedule modules first state group begun spelled found kept =
    outcome_of_read images folder name (played_schedule schedule state) modules first spelled found begun kept
    ∙ ap (λ (g : GroupStart). run_outcome images name g (run g (items_so_far state))) (sym group)

-- a schedule that was read is one
schedule_read : (name : List ℕ) (r : Result Schedule ScheduleRefusal) (schedule : Schedule) → schedule_or_refusal name r ≡ Ok schedule → r ≡ Ok schedule
schedule_read name (Ok s) schedule is = cc
schedule_read name (Err (BadLineAt line)) schedule is = cc
schedule_read name (Err TooManyRuns) schedule is = cc

was_schedule : GivesSchedules → (folder : Folder) (name : List ℕ) (schedule : Schedule) → schedule_in folder name ≡ Ok schedule → IsSchedule schedule
was_schedule gives folder name schedule is =
    let bytes = result_follows (file_of folder name most_schedule) _ schedule is in
    let spelled = (gives bytes.given schedule).0 (schedule_read name (schedule_of bytes.given) schedule bytes.comes) in
    record { formed = spelled.0.formed; runs = spelled.1 }

pub recorded_as_played : GivesSchedules → GivesItems → TakesItem → CountsItem → PlayedIsRecorded
recorded_as_played schedules gives takes counts name folder r room lines =
    let formed = was_schedule schedules folder name r.schedule (schedule_is r) in
    let opens : (played_run (opening_play r.schedule r.first)).full ≡ None = ap (λ (items : List Item). (run (group_of r.schedule r.first) items).full) (append-nil r.schedule.items) ∙ room in
    let s = stands_after gives takes counts r.schedule r.first formed opens (opening_play r.schedule r.first) lines (stands_begun r.schedule r.first formed opens) in
    record {
      spelled = s.formed;
      recorded = λ images name folder spelled found kept. records images name folder r.schedule r.modules r.first (play_after (opening_play r.schedule r.first) lines) s.group (first_are r) spelled found kept;
      last = s.last;
    }
