-- A play where its schedule or its modules were not found, or its file's items did not find room.
use Rattle.std.proofs.Common.{◌≡◌, ◌∙◌, ℕ, suc, ◌+◌, ◌<◌, Bool, List, [], ◌∷◌, length, Option, Some, None, Result, Ok, Err, refl, ap, sym, subst, arith}
use Rattle.std.specs.Prelude.{⊤}
use Rattle.fri_outside.specs.Outside.{Counts, Folder, WhenTold}
use Rattle.wasm_types.specs.Modules.{Module}
use Rattle.schedule_text.specs.Schedule.{Schedule}
use Rattle.guest_process.specs.Start.{start}
use Rattle.guest_process.specs.State.{State}
use Rattle.group_record.specs.Answer.{first_states, first_states_from, group_of, with_first_state}
use Rattle.group_record.specs.Run.{GroupStart, RunProgress, run}
use Rattle.group_record.specs.declared.error.RecordError.{RecordError}
use Rattle.group_record.specs.declared.error.RecordError.TheVariants as errors
use Rattle.command_run.specs.declared.refusal.Reason.{Reason}
use Rattle.command_run.specs.declared.refusal.Reason.TheVariants as reason
use Rattle.command_run.specs.declared.refusal.StopCause.{StopCause}
use Rattle.command_run.specs.declared.refusal.StopCause.TheVariants as refusal
use Rattle.command_run.specs.Call.{CountsNothing, RaisesCount, StopsAsCause, misses_of_refusal}
use Rattle.command_run.specs.Outcome.{CommandStop, CommandWork, and_then, refuses_at_once}
use Rattle.record_command.specs.Expected.{inputs_in, module_name}
use Rattle.record_command.specs.ExpectedLaws.{inputs_are}
use Rattle.record_command.specs.Gathering.{GathersFromFolder, IsRefusalOf}
use Rattle.command_run.specs.OutcomeLaws.{stops_before_next}
use Rattle.play_command.specs.Outcome.{opening_play, play_in, play_of_modules, unless_full_log}
use Rattle.play_command.specs.Play.{PlayState}
use Rattle.play_command.specs.inside.Answers.{OpensPlay}

-- ---- what was not gathered

pub gathering_stops : (name : List ℕ) (folder : Folder) (e : StopCause) → StopsAsCause (inputs_in folder name) e → StopsAsCause (play_in name folder) e
gathering_stops name folder e stops = stops_before_next (inputs_in folder name) _ e stops

-- ---- what was gathered begins, or does not

begun_of : (folder : Folder) (name : List ℕ) (schedule : Schedule) (modules : List Module) → GathersFromFolder folder name schedule modules → play_in name folder ≡ play_of_modules name schedule (first_states schedule modules)
begun_of folder name schedule modules g =
    ap (λ (i : Result (Schedule × List Module) CommandStop). and_then i (λ inputs. play_of_modules name inputs.0 (first_states inputs.0 inputs.1))) (inputs_are folder name schedule modules g.spelled g.found)

pub begins : (told : Option Folder) (name : List ℕ) (schedule : Schedule) (modules : List Module) (first : List State) → WhenTold told (λ folder. GathersFromFolder folder name schedule modules)
    → first_states schedule modules ≡ Ok first → (run (group_of schedule first) schedule.items).full ≡ None → WhenTold told (λ folder. play_in name folder ≡ Ok (opening_play schedule first))
begins told name schedule modules first gathers begun room folder is =
    begun_of folder name schedule modules (gathers folder is) ∙ ap (play_of_modules name schedule) begun ∙ ap (unless_full_log name schedule first) room

refused_for : (play : Result PlayState CommandStop) (name : List ℕ) (why : Reason) (file : List ℕ) (reason : Reason) → play ≡ Err (refuses_at_once name why) → file ≡ name → reason ≡ why → play ≡ Err (refuses_at_once file reason)
refused_for play name why file reason is named told = cc

pub begins_not : (folder : Folder) (name : List ℕ) (schedule : Schedule) (modules : List Module) (error : RecordError) (e : StopCause) → GathersFromFolder folder name schedule modules
    → OpensPlay schedule modules (first_states schedule modules) (Err error) → IsRefusalOf name schedule error e → StopsAsCause (play_in name folder) e
begins_not folder name schedule modules (errors.BadSegment p) (refusal.Refused file why) g is refuses =
    refused_for (play_in name folder) _ _ _ _ (begun_of folder name schedule modules g ∙ ap (play_of_modules name schedule) is) refuses.0 refuses.1
begins_not folder name schedule modules (errors.BadSegment p) refusal.NoMemory g is refuses = tt
begins_not folder name schedule modules (errors.BadSegment p) other g is refuses = absurd refuses
begins_not folder name schedule modules (errors.LogFull item) (refusal.Refused file why) g (first, is, full) refuses =
    refused_for (play_in name folder) _ _ _ _ (begun_of folder name schedule modules g ∙ ap (play_of_modules name schedule) is ∙ ap (unless_full_log name schedule first) full) refuses.0 refuses.1
begins_not folder name schedule modules (errors.LogFull item) refusal.NoMemory g is refuses = tt
begins_not folder name schedule modules (errors.LogFull item) other g is refuses = absurd refuses
begins_not folder name schedule modules errors.WriteFault e g is refuses = absurd is
begins_not folder name schedule modules errors.NoMemory e g is refuses = subst (λ (r : StopCause). StopsAsCause (play_in name folder) r) (sym refuses) tt

-- such a refusal counts nothing
pub refusal_raises : (name : List ℕ) (schedule : Schedule) (modules : List Module) (begun : Result (List State) ℕ) (error : RecordError) (e : StopCause) (old new : Counts) → OpensPlay schedule modules begun (Err error) → IsRefusalOf name schedule error e
    → RaisesCount old new e
refusal_raises name schedule modules begun (errors.BadSegment p) (refusal.Refused file why) old new opens refuses = λ large. let is = refuses.1 in cc
refusal_raises name schedule modules begun (errors.BadSegment p) refusal.NoMemory old new opens refuses = tt
refusal_raises name schedule modules begun (errors.BadSegment p) other old new opens refuses = absurd refuses
refusal_raises name schedule modules begun (errors.LogFull item) (refusal.Refused file why) old new opens refuses = λ large. let is = refuses.1 in cc
refusal_raises name schedule modules begun (errors.LogFull item) refusal.NoMemory old new opens refuses = tt
refusal_raises name schedule modules begun (errors.LogFull item) other old new opens refuses = absurd refuses
refusal_raises name schedule modules begun errors.WriteFault e old new opens refuses = absurd opens
refusal_raises name schedule modules begun errors.NoMemory e old new opens refuses = subst (λ (r : StopCause). RaisesCount old new r) (sym refuses) tt

pub refusal_still : (name : List ℕ) (schedule : Schedule) (modules : List Module) (begun : Result (List State) ℕ) (error : RecordError) (e : StopCause) → OpensPlay schedule modules begun (Err error) → IsRefusalOf name schedule error e
    → CountsNothing {T = ⊤} (Err e)
refusal_still name schedule modules begun (errors.BadSegment p) (refusal.Refused file why) opens refuses n = (refl, (refl, ap (λ (r : Reason). misses_of_refusal r n) refuses.1))
refusal_still name schedule modules begun (errors.BadSegment p) refusal.NoMemory opens refuses n = (refl, (refl, refl))
refusal_still name schedule modules begun (errors.BadSegment p) other opens refuses n = absurd refuses
refusal_still name schedule modules begun (errors.LogFull item) (refusal.Refused file why) opens refuses n = (refl, (refl, ap (λ (r : Reason). misses_of_refusal r n) refuses.1))
refusal_still name schedule modules begun (errors.LogFull item) refusal.NoMemory opens refuses n = (refl, (refl, refl))
refusal_still name schedule modules begun (errors.LogFull item) other opens refuses n = absurd refuses
refusal_still name schedule modules begun errors.WriteFault e opens refuses n = absurd opens
refusal_still name schedule modules begun errors.NoMemory e opens refuses n = subst (λ (r : StopCause). CountsNothing {T = ⊤} (Err r)) (sym refuses) (λ n. (refl, (refl, refl))) n

-- ---- the process that does not begin

fails_in : (o : Option State) (p q : ℕ) (rest : Result (List State) ℕ) (n : ℕ) → with_first_state o p rest ≡ Err q → (rest ≡ Err q → q < suc p + n) → q < p + suc n
fails_in None p q rest n is later = let here : p ≡ q = cc in omega (arith, here)
fails_in (Some S) p q (Ok states) n is later = cc
fails_in (Some S) p q (Err r) n is later = omega (arith, later cc)

fails_within : (count p q : ℕ) (modules : List Module) → first_states_from count p modules ≡ Err q → q < p + length modules
fails_within count p q [] is = cc
fails_within count p q (m ∷ ms) is =
    fails_in (start m p count) p q (first_states_from count (suc p) ms) (length ms) is (λ later. fails_within count (suc p) q ms later)

pub refused_within : (schedule : Schedule) (modules : List Module) (error : RecordError) → OpensPlay schedule modules (first_states schedule modules) (Err error) → length modules ≡ length schedule.processes
    → (p : ℕ) → error ≡ errors.BadSegment p → p < length schedule.processes
refused_within schedule modules error opens many p is =
    let begun = subst (λ (e : RecordError). OpensPlay schedule modules (first_states schedule modules) (Err e)) is opens in
    omega (arith, fails_within (length schedule.processes) 0 p modules begun, many)
