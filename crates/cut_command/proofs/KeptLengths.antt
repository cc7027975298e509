-- How much of each log of a group is kept.
use Rattle.std.proofs.Common.{◌≡◌, ◌∙◌, ◌&&◌, ◌+◌, ◌≤◌, ◌++◌, ℕ, zero, suc, Bool, true, false, cond, List, [], ◌∷◌, length, map, take, slice_get, Option, Some, None, Ok, option_map, ap, arith, refl, sym, subst}
use Rattle.std.specs.Prelude.{All, nat_le}
use Rattle.std.specs.List.{AllByRecursion, flat_map}
use Rattle.std.proofs.lemmas.Bool.{leb-true}
use Rattle.std.proofs.lemmas.List.{length-map}
use Rattle.std.proofs.lemmas.List.Elements.{All-from_recursion, recursion_from_All}
use Rattle.std.proofs.lemmas.Option.{get_or_from_slice_get, same_Some, slice_get-map, slice_get_within}
use Rattle.call_log.specs.Head.{IsHead}
use Rattle.call_log.specs.Log.{Log}
use Rattle.guest_process.specs.Fits.{StateFits}
use Rattle.proc_replay.specs.AtHead.{IsAtHead}
use Rattle.proc_replay.specs.Course.{entries_ahead}
use Rattle.proc_replay.specs.Replaying.{Replaying}
use Rattle.causal_cut.specs.Laws.{FrontsReplay, IsLeastPast}
use Rattle.causal_cut.specs.Past.{Lengths, accepted_counts, is_within_lengths, least_past, lengths_or_none}
use Rattle.command_run.specs.Outcome.{CommandOutcome}
use Rattle.log_pairs.specs.Finding.{log_file}
use Rattle.log_pairs.specs.Pairs.{Loaded, Pair}
use Rattle.cut_command.specs.declared.fronts.Front.{Front}
use Rattle.cut_command.specs.declared.past.Past.{Past}
use Rattle.cut_command.specs.Cut.{cut_files, cut_line, cut_name, cut_of_replays, cut_text, log_front_of, node_of_process, unless_few_events, unless_other_process}
use Rattle.cut_command.specs.Laws.{IsCutLog}
use Rattle.cut_command.specs.inside.Meanings.{AreLeastFronts, front_file, fronts_of, front_line, log_of_replay, work_of_past}

-- ---- log after log

abbrev front : Log → ℕ → ℕ → Front
front log kept accepted = record { log = log; kept = kept; accepted = accepted }

-- of the first logs
abbrev first_fronts : List Log → List ℕ → List ℕ → ℕ → List Front
first_fronts logs kept accepted n = fronts_of (take n logs) (take n kept) (take n accepted)

more : (logs : List Log) (kept accepted : List ℕ) (n : ℕ) (log : Log) (k a : ℕ) → slice_get logs n ≡ Some log → slice_get kept n ≡ Some k → slice_get accepted n ≡ Some a
    → first_fronts logs kept accepted (suc n) ≡ first_fronts logs kept accepted n ++ front log k a ∷ []
more [] kept accepted n log k a log_at kept_at accepted_at = cc
more (l ∷ logs) [] accepted n log k a log_at kept_at accepted_at = cc
more (l ∷ logs) (m ∷ kept) [] n log k a log_at kept_at accepted_at = cc
more (l ∷ logs) (m ∷ kept) (b ∷ accepted) zero log k a log_at kept_at accepted_at =
    ap (λ (l : Log). front l m b ∷ []) (same_Some l log log_at) ∙ ap (λ (m : ℕ). front log m b ∷ []) (same_Some m k kept_at) ∙ ap (λ (b : ℕ). front log k b ∷ []) (same_Some b a accepted_at)
more (l ∷ logs) (m ∷ kept) (b ∷ accepted) (suc n) log k a log_at kept_at accepted_at =
    ap (λ (fs : List Front). front l m b ∷ fs) (more logs kept accepted n log k a log_at kept_at accepted_at)

pub one_more : (logs : List Log) (kept accepted : List ℕ) (n : ℕ) (log : Log) (k a : ℕ) → slice_get logs n ≡ Some log → slice_get kept n ≡ Some k → slice_get accepted n ≡ Some a
    → (fronts : List Front) → fronts ≡ first_fronts logs kept accepted n → fronts ++ front log k a ∷ [] ≡ first_fronts logs kept accepted (n + 1)
one_more logs kept accepted n log k a log_at kept_at accepted_at fronts so_far =
    let next : suc n ≡ n + 1 = omega arith in
    ap (λ (fs : List Front). fs ++ front log k a ∷ []) so_far ∙ sym (more logs kept accepted n log k a log_at kept_at accepted_at) ∙ ap (first_fronts logs kept accepted) next

-- ---- what is within the accepted events

both : (a b : Bool) → (a && b) ≡ true → (a ≡ true) × (b ≡ true)
both true true is = (refl, refl)
both true false is = cc
both false b is = cc

same_count : (ms ns : List ℕ) → is_within_lengths ms ns ≡ true → length ms ≡ length ns
same_count [] [] within = refl
same_count [] (n ∷ ns) within = cc
same_count (m ∷ ms) [] within = cc
same_count (m ∷ ms) (n ∷ ns) within = ap suc (same_count ms ns (both (nat_le m n) (is_within_lengths ms ns) within).1)

within_at : (ms ns : List ℕ) (i m n : ℕ) → is_within_lengths ms ns ≡ true → slice_get ms i ≡ Some m → slice_get ns i ≡ Some n → m ≤ n
within_at [] ns i m n within at other_at = cc
within_at (x ∷ ms) [] i m n within at other_at = cc
within_at (x ∷ ms) (y ∷ ns) zero m n within at other_at =
    let least = leb-true x y (both (nat_le x y) (is_within_lengths ms ns) within).0 in
    subst (λ (n : ℕ). m ≤ n) (same_Some y n other_at) (subst (λ (m : ℕ). m ≤ y) (same_Some x m at) least)
within_at (x ∷ ms) (y ∷ ns) (suc i) m n within at other_at = within_at ms ns i m n (both (nat_le x y) (is_within_lengths ms ns) within).1 at other_at

-- ---- the lengths of a least past

lengths_are : (b : Bool) (one lengths : Lengths) → cond b (Some one) None ≡ Some lengths → one ≡ lengths
lengths_are true one lengths is = same_Some one lengths is
lengths_are false one lengths is = cc

-- there is one for each log
pub record FitLogs (start : List Replaying) (lengths : Lengths) : Type 0 where
  pub kept : length lengths.kept ≡ length start
  pub accepted : length lengths.accepted ≡ length start

pub fit_logs : (start : List Replaying) (node event : ℕ) (lengths : Lengths) → lengths_or_none start node event ≡ Some lengths → IsLeastPast start node event lengths.kept → FitLogs start lengths
fit_logs start node event lengths found least =
    let counted : length (accepted_counts start) ≡ length start = length-map start (λ r. length (entries_ahead r)) in
    record {
      kept = same_count lengths.kept (accepted_counts start) least.within ∙ counted;
      accepted = ap (λ (l : Lengths). length l.accepted) (sym (lengths_are _ (record { kept = least_past start node event; accepted = accepted_counts start }) lengths found)) ∙ counted;
    }

-- ---- the text and the files

pub text_is : (start : List Replaying) (kept accepted : List ℕ) → flat_map front_line (fronts_of (map log_of_replay start) kept accepted) ≡ cut_text start kept accepted
text_is [] kept accepted = refl
text_is (r ∷ start) [] accepted = refl
text_is (r ∷ start) (n ∷ kept) [] = refl
text_is (r ∷ start) (n ∷ kept) (m ∷ accepted) = ap (λ (text : List ℕ). cut_line r.head.name n m ++ text) (text_is start kept accepted)

pub files_are : (start : List Replaying) (kept accepted : List ℕ) → length kept ≡ length accepted → map front_file (fronts_of (map log_of_replay start) kept accepted) ≡ cut_files start kept
files_are [] kept accepted same = refl
files_are (r ∷ start) [] accepted same = refl
files_are (r ∷ start) (n ∷ kept) [] same = cc
files_are (r ∷ start) (n ∷ kept) (m ∷ accepted) same =
    ap (λ (files : List (List ℕ × List ℕ)). (cut_name r.head.name, log_front_of r n) ∷ files) (files_are start kept accepted (omega (arith, same)))

file_count : (start : List Replaying) (kept : List ℕ) → length kept ≡ length start → length (cut_files start kept) ≡ length start
file_count [] kept same = refl
file_count (r ∷ start) [] same = cc
file_count (r ∷ start) (n ∷ kept) same = ap suc (file_count start kept (omega (arith, same)))

abbrev cut_file : Replaying → ℕ → Option (List ℕ × List ℕ)
cut_file r n = Some (cut_name r.head.name, log_front_of r n)

file_at : (start : List Replaying) (kept : List ℕ) (i n : ℕ) (r : Replaying) → slice_get start i ≡ Some r → slice_get kept i ≡ Some n → slice_get (cut_files start kept) i ≡ cut_file r n
file_at [] kept i n r at kept_at = cc
file_at (s ∷ start) [] i n r at kept_at = cc
file_at (s ∷ start) (m ∷ kept) zero n r at kept_at = ap (λ (r : Replaying). cut_file r m) (same_Some s r at) ∙ ap (cut_file r) (same_Some m n kept_at)
file_at (s ∷ start) (m ∷ kept) (suc i) n r at kept_at = file_at start kept i n r at kept_at

-- ---- what the files are

read_heads : (start : List Replaying) (kept accepted : List ℕ) → AllByRecursion IsAtHead start → AllByRecursion (λ (f : Front). IsHead f.log.head) (fronts_of (map log_of_replay start) kept accepted)
read_heads [] kept accepted heads = tt
read_heads (r ∷ start) [] accepted heads = tt
read_heads (r ∷ start) (n ∷ kept) [] heads = tt
read_heads (r ∷ start) (n ∷ kept) (m ∷ accepted) heads = (heads.0.head, read_heads start kept accepted heads.1)

pub all_heads : (node event : ℕ) (start : List Replaying) (fronts : List Front) → All IsAtHead start → AreLeastFronts start node event fronts → All (λ (f : Front). IsHead f.log.head) fronts
all_heads node event start fronts heads a =
    subst (All (λ (f : Front). IsHead f.log.head)) (sym a.are)
    (All-from_recursion (λ (f : Front). IsHead f.log.head) (fronts_of (map log_of_replay start) a.lengths.kept a.lengths.accepted) (read_heads start a.lengths.kept a.lengths.accepted (recursion_from_All IsAtHead start heads)))

at_place : (P : Replaying → Type 0) (start : List Replaying) (i : ℕ) (r : Replaying) → All P start → slice_get start i ≡ Some r → P r
at_place P start i r all at = subst P (get_or_from_slice_get start i r r at) (all i r (slice_get_within start i r at))

same_files : (start : List Replaying) (node event : ℕ) (fronts : List Front) → (a : AreLeastFronts start node event fronts) → map front_file fronts ≡ cut_files start a.lengths.kept
same_files start node event fronts a =
    let fit = fit_logs start node event a.lengths a.found a.least in
    ap (map front_file) a.are ∙ files_are start a.lengths.kept a.lengths.accepted (fit.kept ∙ sym fit.accepted)

pub is_cut : FrontsReplay → (process event node : ℕ) (start : List Replaying) (past : Past) → All IsAtHead start → node_of_process process start ≡ Some node → AreLeastFronts start node event past.fronts.items
    → IsCutLog process event start (work_of_past past)
is_cut replays process event node start past heads at a =
    let kept = a.lengths.kept in
    let files = same_files start node event past.fronts.items a in
    record {
      node = node;
      at = at;
      kept = kept;
      least = a.least;
      count = ap length files ∙ file_count start kept (fit_logs start node event a.lengths a.found a.least).kept;
      files = λ i n r is is_kept. (
        ap (λ (fs : List (List ℕ × List ℕ)). slice_get fs i) files ∙ file_at start kept i n r is is_kept,
        replays r n (at_place IsAtHead start i r heads is) (at_place (λ r. StateFits r.state) start i r a.fits is)
            (within_at kept (accepted_counts start) i n (length (entries_ahead r)) a.least.within is_kept (slice_get-map (λ r. length (entries_ahead r)) start i ∙ ap (option_map (λ r. length (entries_ahead r))) is)),
      );
    }

-- ---- what the work is

abbrev done_with : List ℕ → List (List ℕ × List ℕ) → CommandOutcome
done_with text files = Ok (record { text = text; writes = files; diverged = false })

pub past_works : (pairs : List Pair) (ls : List Loaded) (process event node : ℕ) (start : List Replaying) (past : Past) → node_of_process process start ≡ Some node → AreLeastFronts start node event past.fronts.items
    → past.text ≡ flat_map front_line past.fronts.items → cut_of_replays pairs ls process event start ≡ Ok (work_of_past past)
past_works pairs ls process event node start past at a says =
    let kept = a.lengths.kept in
    ap (unless_other_process pairs ls process event start) at
    ∙ ap (unless_few_events (log_file pairs ls process) start) a.found
    ∙ ap (λ (text : List ℕ). done_with text (cut_files start kept)) (sym (says ∙ ap (flat_map front_line) a.are ∙ text_is start kept a.lengths.accepted))
    ∙ ap (done_with past.text) (sym (same_files start node event past.fronts.items a))
