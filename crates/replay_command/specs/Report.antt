-- The report of a replay.
use Rattle.std.specs.Prelude.{ℕ, List, [], Bool, true, false, map, if◌then◌else◌}
use Rattle.std.specs.List.{flat_map, list_any}
use Rattle.fri_outside.specs.Outside.{Folder}
use Rattle.guest_process.specs.declared.verdict.Verdict.{Verdict}
use Rattle.guest_process.specs.declared.verdict.Verdict.TheVariants as said
use Rattle.proc_replay.specs.Replaying.{Replaying}
use Rattle.process_files.specs.Images.{image_files}
use Rattle.group_state.specs.Image.{memory_of_image, print_of_image}
use Rattle.group_state.specs.Place.{group_count}
use Rattle.group_state.specs.Report.{all_accepted_events, report_line}
use Rattle.group_state.specs.Tally.{tally_of_events}
use Rattle.command_run.specs.Apart.{apart_work}
use Rattle.command_run.specs.Outcome.{CommandOutcome, CommandWork, and_then}
use Rattle.log_pairs.specs.Pairs.{Pair, names_of_pairs, replays_of_pairs}
use Rattle.replay_command.specs.Texts.{report_text}

abbrev pub is_divergence : Verdict → Bool
is_divergence (said.Diverged at why) = true
is_divergence said.Whole = false
is_divergence (said.Left bytes) = false

-- the files of what each process leaves
abbrev pub images_in : List Replaying → List (List ℕ × List ℕ)
images_in start = flat_map (λ r. image_files r.head.name (memory_of_image r) (print_of_image r)) start

-- the work of a replay of these logs: what is said of them all, after the images that were asked for
abbrev pub replay_work : Bool → List Replaying → CommandWork
replay_work images start = record {
  text = report_text (map report_line start) (tally_of_events (group_count start) (all_accepted_events start));
  writes = if images then images_in start else [];
  diverged = list_any (λ line. is_divergence line.verdict) (map report_line start);
}

-- the outcome of `replay`, given the files, unless an image would be made in the place of one of them
abbrev pub replay_outcome : Bool → List Pair → Folder → CommandOutcome
replay_outcome images pairs folder = and_then (replays_of_pairs folder pairs) (λ start. apart_work (names_of_pairs pairs) (replay_work images start))
