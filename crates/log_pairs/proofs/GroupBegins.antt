-- The replays of a group begin.
use Rattle.std.proofs.Common.{◌≡◌, ◌++◌, List, [], ◌∷◌, map, Result, Ok, ℕ, refl, sym, ap, subst, append_assoc, append-nil, ◌∙◌}
use Rattle.std.specs.Prelude.{AllPairs}
use Rattle.std.proofs.lemmas.List.{map-append}
use Rattle.fri_outside.specs.Outside.{Folder}
use Rattle.wasm_types.specs.Modules.{Module}
use Rattle.call_log.specs.Head.{Head}
use Rattle.call_log.specs.Log.{Unread, unread_after_head}
use Rattle.guest_process.specs.State.{State}
use Rattle.proc_replay.specs.Replaying.{Replaying}
use Rattle.command_run.specs.declared.refusal.Reason.TheVariants as reason
use Rattle.command_run.specs.Inputs.{first_state_of}
use Rattle.command_run.specs.Laws.{ReadsModules}
use Rattle.command_run.specs.Outcome.{CommandStop, and_then, some_or_refused}
use Rattle.command_run.specs.Valid.{ProcessBegins}
use Rattle.log_pairs.specs.Laws.{OpensGroups}
use Rattle.command_run.specs.LogLaws.{FindsLogs}
use Rattle.log_pairs.specs.Pairs.{Loaded, Pair, loaded_pairs, replay_of_log, replays_of, replays_of_pairs, sort_replays}
use Rattle.log_pairs.specs.Valid.{ArePairs, AreOfOneGroup, IsGroup, IsPairOfFiles, heads_in}
use Rattle.log_pairs.proofs.LoadedPairs.{pair_stands, read_as}
use Rattle.log_pairs.proofs.PairsTogether.{no_clash}

begins_at : (name : List ℕ) (m : Module) (who count : ℕ) (h : ProcessBegins m who count) → first_state_of name m who count ≡ Ok h.0
begins_at name m who count h = ap (some_or_refused name reason.BadSegment) h.1

module _ (modules : ReadsModules) (finds : FindsLogs) where
  -- what the log of a pair has after its head
  abbrev unread : {folder : Folder} {pair : Pair} → IsPairOfFiles folder pair → Unread
  unread file = unread_after_head file.log.head file.log.left

  -- what the files of a pair hold, and its replay
  abbrev held : (folder : Folder) (pair : Pair) → IsPairOfFiles folder pair → Loaded
  held folder pair file = read_as pair file.«module».«module» (file.log.head, unread file)

  abbrev held_in : (folder : Folder) (pairs : List Pair) → ArePairs folder pairs → List Loaded
  held_in folder [] files = []
  held_in folder (pair ∷ pairs) files = held folder pair files.0 ∷ held_in folder pairs files.1

  abbrev replay_in : (folder : Folder) (pair : Pair) → IsPairOfFiles folder pair → Replaying
  replay_in folder pair file = record { head = file.log.head; state = file.begins.0; left = unread file }

  abbrev replays_in : (folder : Folder) (pairs : List Pair) → ArePairs folder pairs → List Replaying
  replays_in folder [] files = []
  replays_in folder (pair ∷ pairs) files = replay_in folder pair files.0 ∷ replays_in folder pairs files.1

  -- the pairs after some others, where the heads of them all go together
  pairs_stand : (folder : Folder) (earlier : List Loaded) (pairs : List Pair) (files : ArePairs folder pairs) → AllPairs AreOfOneGroup (map (λ l. l.head) earlier ++ heads_in folder pairs files)
      → loaded_pairs folder earlier pairs ≡ Ok (earlier ++ held_in folder pairs files)
  pairs_stand folder earlier [] files together = ap (λ (ls : List Loaded). Ok ls) (sym (append-nil earlier))
  pairs_stand folder earlier (pair ∷ pairs) files together =
      let file = files.0 in
      let l = held folder pair file in
      let heads = heads_in folder pairs files.1 in
      let none = no_clash earlier file.log.head heads together in
      let one = pair_stands folder earlier pair file.«module».«module» (file.log.head, unread file) (modules.modules folder pair.module_name file.«module») (finds folder pair.log_name file.log) none in
      let same : map (λ l. l.head) earlier ++ file.log.head ∷ heads ≡ map (λ l. l.head) (earlier ++ l ∷ []) ++ heads =
      sym (append_assoc (map (λ l. l.head) earlier) (file.log.head ∷ []) heads) ∙ ap (λ (hs : List Head). hs ++ heads) (sym (map-append (λ (l : Loaded). l.head) earlier (l ∷ []))) in
      ap (λ (r : Result Loaded CommandStop). and_then r (λ l. loaded_pairs folder (earlier ++ l ∷ []) pairs)) one
      ∙ pairs_stand folder (earlier ++ l ∷ []) pairs files.1 (subst (λ (hs : List Head). AllPairs AreOfOneGroup hs) same together)
      ∙ ap (λ (ls : List Loaded). Ok ls) (append_assoc earlier (l ∷ []) (held_in folder pairs files.1))

  replay_begins : (folder : Folder) (pair : Pair) (file : IsPairOfFiles folder pair) → replay_of_log (held folder pair file) ≡ Ok (replay_in folder pair file)
  replay_begins folder pair file =
      ap (λ (r : Result State CommandStop). and_then r (λ begun. Ok (record { head = file.log.head; state = begun; left = unread file })))
      (begins_at pair.module_name file.«module».«module» file.log.head.process file.log.head.count file.begins)

  replays_begin : (folder : Folder) (pairs : List Pair) (files : ArePairs folder pairs) → replays_of (held_in folder pairs files) ≡ Ok (replays_in folder pairs files)
  replays_begin folder [] files = refl
  replays_begin folder (pair ∷ pairs) files =
      ap (λ (r : Result Replaying CommandStop). and_then r (λ r. and_then (replays_of (held_in folder pairs files.1)) (λ rs. Ok (r ∷ rs)))) (replay_begins folder pair files.0)
      ∙ ap (λ (o : Result (List Replaying) CommandStop). and_then o (λ rs. Ok (replay_in folder pair files.0 ∷ rs))) (replays_begin folder pairs files.1)

  -- the replays of a group begin
  pub group_opens : (pairs : List Pair) (folder : Folder) (h : IsGroup folder pairs) → replays_of_pairs folder pairs ≡ Ok (sort_replays [] (replays_in folder pairs h.files))
  group_opens pairs folder h =
      ap (λ (r : Result (List Loaded) CommandStop). and_then r (λ ls. and_then (replays_of ls) (λ rs. Ok (sort_replays [] rs)))) (pairs_stand folder [] pairs h.files h.together)
      ∙ ap (λ (r : Result (List Replaying) CommandStop). and_then r (λ rs. Ok (sort_replays [] rs))) (replays_begin folder pairs h.files)

pub groups_open : ReadsModules → FindsLogs → OpensGroups
groups_open modules finds folder pairs h = (sort_replays [] (replays_in modules finds folder pairs h.files), group_opens modules finds pairs folder h)
