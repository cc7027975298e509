-- The replay that begins with the log of a pair.
use Rattle.std.proofs.Common.{◌≡◌, ◌∙◌, ℕ, List, Result, Ok, ap, subst, sym}
use Rattle.wasm_types.specs.Modules.{Module}
use Rattle.call_log.specs.Head.{Head}
use Rattle.call_log.specs.Log.{Log}
use Rattle.guest_process.specs.State.{State}
use Rattle.proc_replay.specs.AtHead.{IsAtHead}
use Rattle.proc_replay.specs.Replaying.{Replaying}
use Rattle.command_run.specs.Inputs.{first_state_of}
use Rattle.command_run.specs.Outcome.{CommandStop, and_then}
use Rattle.log_pairs.specs.declared.pairs.Loaded.{Loaded as LoadedFiles}
use Rattle.log_pairs.specs.Pairs.{Loaded, replay_of_log}
use Rattle.log_pairs.specs.Meanings.{IsLoadedPair}

-- the replay of a log from this state
abbrev pub replay_from : State → Log → Replaying
replay_from S log = record { head = log.head; state = S; left = log.left }

-- nothing was read but the head
pub stands_at_head : (l : LoadedFiles) (is : Loaded) (log : Log) (S : State) (r : Replaying) → IsLoadedPair l is → log ≡ l.log → S.clock ≡ 0 → r ≡ replay_from S log → IsAtHead r
stands_at_head l is log S r pair same clock made =
    subst IsAtHead (sym (made ∙ ap (replay_from S) (same ∙ pair.log))) (record { head = pair.head; left = pair.left; clock = clock; within = pair.whole })

-- it is the replay of the log of this pair
pub is_replay : (l : LoadedFiles) (is : Loaded) (log : Log) (m : Module) (head : Head) (S : State) (r : Replaying) → IsLoadedPair l is → log ≡ l.log → m ≡ is.«module» → head ≡ l.log.head
    → first_state_of l.module_file.now m head.process head.count ≡ Ok S → r ≡ replay_from S log → replay_of_log is ≡ Ok r
is_replay l is log m head S r pair whole same heads begun made =
    let first : first_state_of is.module_name is.«module» is.head.process is.head.count ≡ Ok S =
    ap (λ (name : List ℕ). first_state_of name is.«module» is.head.process is.head.count) (sym pair.name)
    ∙ ap (λ (m : Module). first_state_of l.module_file.now m is.head.process is.head.count) (sym same)
    ∙ ap (λ (h : Head). first_state_of l.module_file.now m h.process h.count) (sym (heads ∙ ap (λ (log : Log). log.head) pair.log)) ∙ begun in
    ap (λ (o : Result State CommandStop). and_then o (λ begun. Ok (record { head = is.head; state = begun; left = is.left }))) first
    ∙ ap (λ (log : Log). Ok (replay_from S log)) (sym (whole ∙ pair.log)) ∙ ap (λ (r : Replaying). Ok r) (sym made)
