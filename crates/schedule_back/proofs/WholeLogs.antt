-- What a text says of the logs that it was made of: each is whole, and the names are those of modules.
use Rattle.std.proofs.Common.{◌≡◌, ℕ, suc, ◌≤◌, Bool, true, false, not, cond, List, [], ◌∷◌, length, map, Option, Some, None, Ok, Err, refl, ap, sym, subst}
use Rattle.std.specs.Prelude.{Result, nat_le}
use Rattle.std.specs.List.{AllByRecursion}
use Rattle.std.proofs.lemmas.Bool.{leb-true}
use Rattle.lib_calls.specs.declared.entry.Entry.{Entry}
use Rattle.call_log.specs.Log.{entries_of, rest_of_log}
use Rattle.guest_process.specs.declared.divergence.Divergence.{Divergence}
use Rattle.guest_process.specs.Legal.{reason}
use Rattle.guest_process.specs.Next.{next}
use Rattle.guest_process.specs.Replay.{accepted, reach_of_entries, reach_with_entry, verdict_of}
use Rattle.guest_process.specs.State.{State}
use Rattle.proc_replay.specs.Replaying.{Replaying}
use Rattle.schedule_text.specs.Limits.{most_runs, most_schedule}
use Rattle.schedule_text.specs.Schedule.{is_module_name}
use Rattle.schedule_text.specs.Text.{text_of}
use Rattle.schedule_text.specs.declared.process.ProcessLine.{ProcessLine}
use Rattle.guest_process.specs.declared.verdict.Verdict.{Verdict}
use Rattle.guest_process.specs.declared.verdict.Verdict.TheVariants as said
use Rattle.group_state.specs.Place.{events_of_replays}
use Rattle.group_state.specs.Report.{verdict_on}
use Rattle.schedule_back.specs.Back.{back}
use Rattle.schedule_back.specs.Outcome.{BadModuleName, NotWhole, BackRefusal, first_bad_name, first_not_whole, is_whole, refuse_where, text_or_refusal}
use Rattle.schedule_back.proofs.ListPlaces.{none_passes}

-- ---- a log

all_accepted : (S : State) (es : List Entry) → (reach_of_entries S es).divergence ≡ None → accepted S es ≡ length es
all_accepted S [] none = refl
all_accepted S (e ∷ es) none = by_reason (all_accepted (next S e) es) (reason S e) none where
  by_reason : ((reach_of_entries (next S e) es).divergence ≡ None → accepted (next S e) es ≡ length es) → (why : Option Divergence)
      → (reach_with_entry why (reach_of_entries (next S e) es)).divergence ≡ None → (reach_with_entry why (reach_of_entries (next S e) es)).accepted ≡ suc (length es)
  by_reason later None none = ap suc (later none)
  by_reason later (Some why) none = absurd (cc)

said_whole : (v : Verdict) → not (is_whole v) ≡ false → v ≡ said.Whole
said_whole said.Whole is = refl
said_whole (said.Left bytes) is = absurd (cc)
said_whole (said.Diverged at why) is = absurd (cc)

-- of a whole log nothing is left after the entries
pub whole_rest : (r : Replaying) → verdict_on r ≡ said.Whole → rest_of_log r.left ≡ []
whole_rest r whole = by_rest (reach_of_entries r.state (entries_of r.left)).divergence (rest_of_log r.left) whole where
  by_rest : (d : Option Divergence) (rest : List ℕ) → verdict_of (record (reach_of_entries r.state (entries_of r.left)) { divergence = d }) rest ≡ said.Whole → rest ≡ []
  by_rest d [] is = refl
  by_rest None (b ∷ rest) is = absurd (cc)
  by_rest (Some why) (b ∷ rest) is = absurd (cc)

-- and all of these are accepted
pub whole_accepted : (r : Replaying) → verdict_on r ≡ said.Whole → accepted r.state (entries_of r.left) ≡ length (entries_of r.left)
whole_accepted r whole = all_accepted r.state (entries_of r.left) (by_divergence (reach_of_entries r.state (entries_of r.left)).divergence whole) where
  by_divergence : (d : Option Divergence) → verdict_of (record (reach_of_entries r.state (entries_of r.left)) { divergence = d }) (rest_of_log r.left) ≡ said.Whole → d ≡ None
  by_divergence None is = refl
  by_divergence (Some why) is = absurd (cc)

whole_from : (start : List Replaying) → AllByRecursion (λ (v : Verdict). not (is_whole v) ≡ false) (map verdict_on start) → AllByRecursion (λ (r : Replaying). verdict_on r ≡ said.Whole) start
whole_from [] all = tt
whole_from (r ∷ rs) all = (said_whole (verdict_on r) all.0, whole_from rs all.1)

named : (lines : List ProcessLine) → AllByRecursion (λ (line : ProcessLine). not (is_module_name line.«module») ≡ false) lines → AllByRecursion (λ (line : ProcessLine). is_module_name line.«module» ≡ true) lines
named [] all = tt
named (line ∷ lines) all = (by_test (is_module_name line.«module») all.0, named lines all.1) where
  by_test : (b : Bool) → not b ≡ false → b ≡ true
  by_test true is = refl
  by_test false is = absurd (cc)

-- ---- a text

pub record Says (lines : List ProcessLine) (start : List Replaying) (text : List ℕ) : Type 0 where
  pub whole : AllByRecursion (λ (r : Replaying). verdict_on r ≡ said.Whole) start
  pub named : AllByRecursion (λ (line : ProcessLine). is_module_name line.«module» ≡ true) lines
  pub few : nat_le (length (events_of_replays start)) most_runs ≡ true
  pub spelled : text ≡ text_of (back lines start)
  pub short : length text ≤ most_schedule

not_refused : (why : ℕ → BackRefusal) (o : Option ℕ) (rest : Result (List ℕ) BackRefusal) (text : List ℕ) → refuse_where why o rest ≡ Ok text → (o ≡ None) × (rest ≡ Ok text)
not_refused why None rest text is = (refl, is)
not_refused why (Some p) rest text is = absurd (cc)

within : (b : Bool) (rest : Result (List ℕ) BackRefusal) (e : BackRefusal) (text : List ℕ) → cond b rest (Err e) ≡ Ok text → (b ≡ true) × (rest ≡ Ok text)
within true rest e text is = (refl, is)
within false rest e text is = absurd (cc)

text_or : Result (List ℕ) BackRefusal → List ℕ
text_or (Ok text) = text
text_or (Err e) = []

is_text : (given text : List ℕ) → (let answer : Result (List ℕ) BackRefusal = Ok given in answer ≡ Ok text) → text ≡ given
unfolding text_or
is_text given text is = sym (ap text_or is)

pub says : (lines : List ProcessLine) (start : List Replaying) (text : List ℕ) → text_or_refusal lines start ≡ Ok text → Says lines start text
says lines start text is =
    let one = not_refused NotWhole (first_not_whole start) _ text is in
    let two = not_refused BadModuleName (first_bad_name lines) _ text one.1 in
    let three = within (nat_le (length (events_of_replays start)) most_runs) _ _ text two.1 in
    let whole_text = text_of (back lines start) in
    let four = within (nat_le (length whole_text) most_schedule) _ _ text three.1 in
    let same = is_text whole_text text four.1 in
    record {
      whole = whole_from start (none_passes (λ v. not (is_whole v)) (map verdict_on start) one.0);
      named = named lines (none_passes (λ line. not (is_module_name line.«module»)) lines two.0);
      few = three.0;
      spelled = same;
      short = subst (λ (t : List ℕ). length t ≤ most_schedule) (sym same) (leb-true _ _ four.0);
    }
