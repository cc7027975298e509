-- What a replay of recorded logs reports, and its images.
use Rattle.std.proofs.Common.{◌≡◌, ◌∙◌, ◌<◌, ◌+◌, ◌||◌, ℕ, suc, Bool, true, false, cond, List, [], ◌∷◌, ◌++◌, length, map, slice_get, Some, Ok, ap, arith, refl, sym}
use Rattle.std.specs.Prelude.{slice_index_or}
use Rattle.std.specs.List.{AllZip, flat_map, list_any}
use Rattle.std.proofs.lemmas.Option.{same_Some}
use Rattle.lib_calls.specs.Traffic.{prints}
use Rattle.call_log.specs.Head.{Head}
use Rattle.guest_process.specs.Replay.{left_over}
use Rattle.proc_replay.specs.Course.{entries_ahead}
use Rattle.proc_replay.specs.Replaying.{Replaying}
use Rattle.group_record.specs.Images.{images_from, memory_of_process, images as all_images}
use Rattle.process_files.specs.Images.{image_files}
use Rattle.group_record.specs.Run.{entries_of_steps, name_of_process, process_after, processes_in_group}
use Rattle.group_state.specs.declared.report.ReportLine.{ReportLine}
use Rattle.group_state.specs.declared.tally.GroupCounts.{GroupCounts}
use Rattle.group_state.specs.Image.{memory_of_image, print_of_image}
use Rattle.group_state.specs.Place.{group_count}
use Rattle.group_state.specs.Report.{accepted_in, all_accepted_events, report_line}
use Rattle.group_state.specs.Tally.{AcceptedEvent, of_process, tally_of_events}
use Rattle.command_run.specs.Apart.{apart_work, unless_over_input, AreApart}
use Rattle.command_run.specs.ApartLaws.{apart_goes_on, apart_works}
use Rattle.command_run.specs.Outcome.{CommandWork}
use Rattle.log_pairs.specs.Pairs.{Pair, names_of_pairs}
use Rattle.replay_command.specs.Report.{images_in, is_divergence, replay_work}
use Rattle.replay_command.specs.Texts.{report_text}
use Rattle.headline.specs.Shown.{RecordedRun, ShowsProcess, recorded_images, recorded_line, recorded_report}
use Rattle.headline.proofs.ShownReplays.{ComesTo}

-- the outcome of so many processes is that of their replays
abbrev pub AllCome : RecordedRun → (ℕ → List ℕ) → List ℕ → List Replaying → Type 0
AllCome run cut [] [] = Unit {0}
AllCome run cut (p ∷ ps) (r ∷ rs) = ComesTo run cut p r × AllCome run cut ps rs
AllCome run cut [] (r ∷ rs) = ⊥
AllCome run cut (p ∷ ps) [] = ⊥

lines : (run : RecordedRun) (cut : ℕ → List ℕ) (ps : List ℕ) (rs : List Replaying) → AllCome run cut ps rs → map report_line rs ≡ map (recorded_line run cut) ps
lines run cut [] [] all = refl
lines run cut (p ∷ ps) (r ∷ rs) all =
    ap (λ (l : ReportLine). l ∷ map report_line rs) all.0.line ∙ ap (λ (ls : List ReportLine). recorded_line run cut p ∷ ls) (lines run cut ps rs all.1)
lines run cut [] (r ∷ rs) all = absurd all
lines run cut (p ∷ ps) [] all = absurd all

left_diverges_not : (cut : List ℕ) → is_divergence (left_over cut) ≡ false
left_diverges_not [] = refl
left_diverges_not (first ∷ rest) = refl

abbrev some_log_diverges : List ReportLine → Bool
some_log_diverges lines = list_any (λ line. is_divergence line.verdict) lines

none_diverges : (run : RecordedRun) (cut : ℕ → List ℕ) (ps : List ℕ) → some_log_diverges (map (recorded_line run cut) ps) ≡ false
none_diverges run cut [] = refl
none_diverges run cut (p ∷ ps) =
    ap (λ (b : Bool). b || some_log_diverges (map (recorded_line run cut) ps)) (left_diverges_not (cut p)) ∙ none_diverges run cut ps

accepted_is : (run : RecordedRun) (cut : ℕ → List ℕ) (p : ℕ) (r : Replaying) → ShowsProcess run cut p r → accepted_in r ≡ of_process p (entries_of_steps run.steps p)
accepted_is run cut p r shows =
    ap (λ (h : Head). of_process h.process (entries_ahead r)) shows.head ∙ ap (of_process p) shows.accepted

-- the recorded events of these processes
abbrev recorded_events : RecordedRun → List ℕ → List AcceptedEvent
recorded_events run ps = flat_map (λ p. of_process p (entries_of_steps run.steps p)) ps

events_are : (run : RecordedRun) (cut : ℕ → List ℕ) (ps : List ℕ) (rs : List Replaying) → AllZip (ShowsProcess run cut) ps rs → all_accepted_events rs ≡ recorded_events run ps
events_are run cut [] [] all = refl
events_are run cut (p ∷ ps) (r ∷ rs) all =
    ap (λ (es : List AcceptedEvent). es ++ all_accepted_events rs) (accepted_is run cut p r all.0) ∙ ap (λ (es : List AcceptedEvent). of_process p (entries_of_steps run.steps p) ++ es) (events_are run cut ps rs all.1)
events_are run cut [] (r ∷ rs) all = absurd all
events_are run cut (p ∷ ps) [] all = absurd all

tally_is : (run : RecordedRun) (cut : ℕ → List ℕ) (ps : List ℕ) (rs : List Replaying) → AllZip (ShowsProcess run cut) ps rs → tally_of_events (group_count rs) (recorded_events run ps) ≡ tally_of_events (processes_in_group run.group) (recorded_events run ps)
tally_is run cut [] [] all = refl
tally_is run cut (p ∷ ps) (r ∷ rs) all = ap (λ (h : Head). tally_of_events h.count (recorded_events run (p ∷ ps))) all.0.head
tally_is run cut [] (r ∷ rs) all = absurd all
tally_is run cut (p ∷ ps) [] all = absurd all

image_is : (run : RecordedRun) (cut : ℕ → List ℕ) (p : ℕ) (r : Replaying) → ShowsProcess run cut p r → ComesTo run cut p r
    → image_files r.head.name (memory_of_image r) (print_of_image r) ≡ image_files (name_of_process run.group p) (memory_of_process (process_after run.group run.steps p)) (prints (entries_of_steps run.steps p))
image_is run cut p r shows comes =
    ap (λ (h : Head). image_files h.name (memory_of_image r) (print_of_image r)) shows.head
    ∙ ap (λ (bytes : List ℕ). image_files (name_of_process run.group p) bytes (print_of_image r)) comes.memory
    ∙ ap (image_files (name_of_process run.group p) (memory_of_process (process_after run.group run.steps p))) comes.printed

images_are : (run : RecordedRun) (cut : ℕ → List ℕ) (ps : List ℕ) (rs : List Replaying) → AllZip (ShowsProcess run cut) ps rs → AllCome run cut ps rs → images_in rs ≡ recorded_images run ps
images_are run cut [] [] shown all = refl
images_are run cut (p ∷ ps) (r ∷ rs) shown all =
    ap (λ (files : List (List ℕ × List ℕ)). files ++ images_in rs) (image_is run cut p r shown.0 all.0)
    ∙ ap (λ (files : List (List ℕ × List ℕ)). image_files (name_of_process run.group p) (memory_of_process (process_after run.group run.steps p)) (prints (entries_of_steps run.steps p)) ++ files) (images_are run cut ps rs shown.1 all.1)
images_are run cut [] (r ∷ rs) shown all = absurd shown
images_are run cut (p ∷ ps) [] shown all = absurd shown

abbrev work_of : List ReportLine → GroupCounts → List (List ℕ × List ℕ) → Bool → CommandWork
work_of ls counts files diverged = record { text = report_text ls counts; writes = files; diverged = diverged }

pub report_is : (images : Bool) (run : RecordedRun) (cut : ℕ → List ℕ) (ps : List ℕ) (rs : List Replaying) → AllZip (ShowsProcess run cut) ps rs → AllCome run cut ps rs
    → replay_work images rs ≡ recorded_report images run cut ps
report_is images run cut ps rs shown all =
    let counts = ap (tally_of_events (group_count rs)) (events_are run cut ps rs shown) ∙ tally_is run cut ps rs shown in
    ap (λ (ls : List ReportLine). work_of ls (tally_of_events (group_count rs) (all_accepted_events rs)) (replay_work images rs).writes (some_log_diverges ls)) (lines run cut ps rs all)
    ∙ ap (λ (c : GroupCounts). work_of (map (recorded_line run cut) ps) c (replay_work images rs).writes (some_log_diverges (map (recorded_line run cut) ps))) counts
    ∙ ap (λ (files : List (List ℕ × List ℕ)). work_of (map (recorded_line run cut) ps) (tally_of_events (processes_in_group run.group) (recorded_events run ps)) (cond images files []) (some_log_diverges (map (recorded_line run cut) ps))) (images_are run cut ps rs shown all)
    ∙ ap (work_of (map (recorded_line run cut) ps) (tally_of_events (processes_in_group run.group) (recorded_events run ps)) (cond images (recorded_images run ps) [])) (none_diverges run cut ps)

-- its images are made, where none has the name of a file of the pairs
kept : (images : Bool) (run : RecordedRun) (cut : ℕ → List ℕ) (ps : List ℕ) (pairs : List Pair) → AreApart (names_of_pairs pairs) (map (λ file. file.0) (recorded_report images run cut ps).writes) → unless_over_input (names_of_pairs pairs) (map (λ file. file.0) (recorded_report images run cut ps).writes) ≡ Ok tt
kept images run cut ps pairs apart = apart_goes_on (names_of_pairs pairs) (map (λ file. file.0) (recorded_report images run cut ps).writes) apart

pub report_made : (images : Bool) (run : RecordedRun) (cut : ℕ → List ℕ) (ps : List ℕ) (pairs : List Pair) → AreApart (names_of_pairs pairs) (map (λ file. file.0) (recorded_report images run cut ps).writes) → apart_work (names_of_pairs pairs) (recorded_report images run cut ps) ≡ Ok (recorded_report images run cut ps)
report_made images run cut ps pairs apart =
    apart_works (names_of_pairs pairs) (Ok (recorded_report images run cut ps)) (recorded_report images run cut ps) refl (kept images run cut ps pairs apart)

-- ---- the images of all processes

-- the files of the processes from p on, in the order of their numbers
all_from : (run : RecordedRun) (names : List (List ℕ)) (q : ℕ) (ps : List ℕ)
    → ((i : ℕ) → i < length names → slice_index_or run.group.names (q + i) [] ≡ slice_index_or names i [])
    → ((i : ℕ) → i < length names → slice_get ps i ≡ Some (q + i)) → length ps ≡ length names
    → recorded_images run ps ≡ images_from run.group run.steps q names
all_from run [] q [] named numbered count = refl
all_from run [] q (p ∷ ps) named numbered count = absurd (omega (arith, count))
all_from run (name ∷ names) q [] named numbered count = absurd (omega (arith, count))
all_from run (name ∷ names) q (p ∷ ps) named numbered count =
    let here : q + 0 ≡ q = omega arith in
    let same : p ≡ q = same_Some p (q + 0) (numbered 0 (omega arith)) ∙ here in
    let name_is : name_of_process run.group p ≡ name = ap (name_of_process run.group) (same ∙ sym here) ∙ named 0 (omega arith) in
    let rest : recorded_images run ps ≡ images_from run.group run.steps (suc q) names =
    all_from run names (suc q) ps
    (λ i below. ap (λ (n : ℕ). slice_index_or run.group.names n []) (next i) ∙ named (suc i) (omega (arith, below)))
    (λ i below. numbered (suc i) (omega (arith, below)) ∙ ap (λ (n : ℕ). Some n) (sym (next i))) (omega (arith, count)) in
    ap (λ (n : List ℕ). image_files n (memory_of_process (process_after run.group run.steps p)) (prints (entries_of_steps run.steps p)) ++ recorded_images run ps) name_is
    ∙ ap (λ (n : ℕ). image_files name (memory_of_process (process_after run.group run.steps n)) (prints (entries_of_steps run.steps n)) ++ recorded_images run ps) same
    ∙ ap (λ (files : List (List ℕ × List ℕ)). image_files name (memory_of_process (process_after run.group run.steps q)) (prints (entries_of_steps run.steps q)) ++ files) rest where
      next : (i : ℕ) → suc q + i ≡ q + suc i
      next i = omega arith

pub all_of_them : (run : RecordedRun) (ps : List ℕ) → ((i : ℕ) → i < processes_in_group run.group → slice_get ps i ≡ Some i) → length ps ≡ processes_in_group run.group
    → recorded_images run ps ≡ all_images run.group run.steps
all_of_them run ps numbered count = all_from run run.group.names 0 ps (λ i below. ap (λ (n : ℕ). slice_index_or run.group.names n []) (here i)) (λ i below. numbered i below ∙ ap (λ (n : ℕ). Some n) (sym (here i))) count where
  here : (i : ℕ) → 0 + i ≡ i
  here i = omega arith
