-- The replays of some pairs, once their files were read.
use Rattle.std.proofs.Common.{◌≡◌, ◌∙◌, List, [], Option, Result, Ok, ap, subst, sym}
use Rattle.fri_outside.specs.Outside.{Folder, WhenTold}
use Rattle.proc_replay.specs.Replaying.{Replaying}
use Rattle.command_run.specs.declared.refusal.StopCause.{StopCause}
use Rattle.command_run.specs.Call.{StopsAsCause}
use Rattle.command_run.specs.Outcome.{CommandStop, and_then}
use Rattle.command_run.specs.OutcomeLaws.{stops_before_next}
use Rattle.log_pairs.specs.declared.pairs.Loaded.{Loaded as LoadedFiles}
use Rattle.log_pairs.specs.Pairs.{Loaded, RefusesPairs, Pair, OpensReplays, loaded_pairs, replays_of, sort_replays}
use Rattle.log_pairs.specs.Meanings.{AreLoadedPairs, LoadsFiles}

-- none could begin, since some pair could not be read
pub unread_stops : (pairs : List Pair) (told : Option Folder) (e : StopCause) → WhenTold told (λ folder. StopsAsCause (loaded_pairs folder [] pairs) e) → RefusesPairs pairs told e
unread_stops pairs told e stops folder is = stops_before_next (loaded_pairs folder [] pairs) _ e (stops folder is)

-- or a process did not begin
pub unbegun_stops : (pairs : List Pair) (told : Option Folder) (all shown : List LoadedFiles) (e : StopCause) → LoadsFiles pairs told all → shown ≡ all → ((ls : List Loaded) → AreLoadedPairs shown ls → StopsAsCause (replays_of ls) e)
    → RefusesPairs pairs told e
unbegun_stops pairs told all shown e loaded same stops folder is =
    let l = loaded folder is in
    subst (λ (r : Result (List Loaded) CommandStop). StopsAsCause (and_then r (λ ls. and_then (replays_of ls) (λ rs. Ok (sort_replays [] rs)))) e) (sym l.1.0)
    (stops_before_next (replays_of l.0) _ e (stops l.0 (subst (λ (all : List LoadedFiles). AreLoadedPairs all l.0) (sym same) l.1.1)))

-- all began
pub begun_opens : (pairs : List Pair) (told : Option Folder) (all shown : List LoadedFiles) (start : List Replaying) → LoadsFiles pairs told all → shown ≡ all
    → ((ls : List Loaded) → AreLoadedPairs shown ls → (rs : List Replaying) × ((replays_of ls ≡ Ok rs) × (start ≡ sort_replays [] rs))) → OpensReplays pairs told start
begun_opens pairs told all shown start loaded same begun folder is =
    let l = loaded folder is in
    let b = begun l.0 (subst (λ (all : List LoadedFiles). AreLoadedPairs all l.0) (sym same) l.1.1) in
    ap (λ (r : Result (List Loaded) CommandStop). and_then r (λ ls. and_then (replays_of ls) (λ rs. Ok (sort_replays [] rs)))) l.1.0
    ∙ ap (λ (r : Result (List Replaying) CommandStop). and_then r (λ rs. Ok (sort_replays [] rs))) b.1.0
    ∙ ap (λ (rs : List Replaying). Ok rs) (sym b.1.1)
