-- The new file is read as the log that was read.
use Rattle.std.proofs.Common.{◌≡◌, ◌∙◌, ◌≤◌, ℕ, Bool, true, false, cond, List, length, Option, Some, None, Result, Ok, Err, refl, ap, subst, sym}
use Rattle.std.specs.Prelude.{nat_le}
use Rattle.std.specs.FinMap.{insert}
use Rattle.std.proofs.lemmas.Bool.{le-leb, leb-true}
use Rattle.std.proofs.lemmas.Option.{same_Some}
use Rattle.fri_outside.specs.Laws.{KeepsFiles}
use Rattle.fri_outside.specs.Outside.{Folder}
use Rattle.call_log.specs.Head.{Head, IsHead}
use Rattle.call_log.specs.Laws.{ExactLogs, IsNewerLog, RewrittenIsRead}
use Rattle.call_log.specs.Limits.{most_log}
use Rattle.call_log.specs.Log.{Unread, unread_after_head, entries_of, head_at, rest_of_log}
use Rattle.command_run.specs.declared.refusal.Reason.TheVariants as reason
use Rattle.command_run.specs.Laws.{ReadsModules}
use Rattle.command_run.specs.Outcome.{CommandStop, CommandWork, and_then, file_of, refuses_at_once, some_or_refused}
use Rattle.command_run.specs.OutcomeLaws.{result_follows, same_Ok_value}
use Rattle.command_run.specs.LogLaws.{FindsLogs}
use Rattle.command_run.specs.Logs.{log_in}
use Rattle.migrate_command.specs.Laws.{KeepsLog, MigrationsKeep, MigrationsWork, newer_head}
use Rattle.migrate_command.specs.Migrate.{migrate_work, new_log, work_unless_grown}

-- ---- a log whose newer form is within the limit

pub migration_works : FindsLogs → MigrationsWork
migration_works finds log_name new_name folder h =
    let log : Head × Unread = (h.log.head, unread_after_head h.log.head h.log.left) in (
      migrate_work new_name log,
      ap (λ (r : Result (Head × Unread) CommandStop). and_then r (work_unless_grown log_name new_name)) (finds folder log_name h.log)
          ∙ ap (λ b. cond b (Ok (migrate_work new_name log)) (Err (refuses_at_once log_name reason.Grown))) (le-leb (length (new_log log)) most_log h.fits),
    )

-- ---- the file that is made

-- work that is done is that of a log whose newer form is within the limit
not_grown : (b : Bool) (wanted work : CommandWork) (stop : CommandStop) → cond b (Ok wanted) (Err stop) ≡ Ok work → (b ≡ true) × (work ≡ wanted)
not_grown true wanted work stop is = (refl, same_Ok_value (Ok wanted) work wanted is refl)
not_grown false wanted work stop is = cc

log_found : (name bytes : List ℕ) (o : Option (Head × Unread)) (log : Head × Unread) → some_or_refused name reason.BadHead o ≡ Ok log → o ≡ Some log
log_found name bytes None log is = cc
log_found name bytes (Some l) log is = cc

module _ (keeps : KeepsFiles) (exact : ExactLogs) (rewritten_read : RewrittenIsRead) (reads : ReadsModules) where
  -- the head of a log that was read is one
  head_read : (folder : Folder) (name : List ℕ) (log : Head × Unread) → log_in folder name ≡ Ok log → IsHead log.0
  head_read folder name log is =
      let f = result_follows (file_of folder name most_log) (λ bytes. some_or_refused name reason.BadHead (head_at bytes)) log is in
      ((exact.heads f.given log.0 log.1).0 (log_found name f.given (head_at f.given) log f.comes)).0

  -- the new file is read as its head in version 2 and its entries, and nothing follows them
  newer_found : (log : Head × Unread) → IsHead log.0 → IsNewerLog log.0 (entries_of log.1) (new_log log)
  newer_found log is =
      let held = (exact.all log.1 (entries_of log.1) (rest_of_log log.1)).1 (refl, refl) in
      rewritten_read log.0 (entries_of log.1) is held.shaped

  -- and so it is read
  newer_read : (folder : Folder) (new_name : List ℕ) (log : Head × Unread) → (is : IsHead log.0) → length (new_log log) ≤ most_log
      → log_in (insert folder new_name (new_log log)) new_name ≡ Ok (newer_head log.0, (newer_found log is).left)
  newer_read folder new_name log is few =
      ap (λ (r : Result (List ℕ) CommandStop). and_then r (λ bytes. some_or_refused new_name reason.BadHead (head_at bytes)))
      (reads.files (insert folder new_name (new_log log)) new_name most_log (new_log log) (record { held = keeps.made folder new_name (new_log log); within = few }))
      ∙ ap (some_or_refused new_name reason.BadHead) (newer_found log is).found

  pub migration_keeps : MigrationsKeep
  migration_keeps log_name new_name folder work is =
      let f = result_follows (log_in folder log_name) (work_unless_grown log_name new_name) work is in
      let log = f.given in
      let done = not_grown (nat_le (length (new_log log)) most_log) (migrate_work new_name log) work (refuses_at_once log_name reason.Grown) f.comes in
      let head = head_read folder log_name log f.is_given in
      let newer = newer_found log head in
      subst (KeepsLog folder log_name new_name) (sym done.1) (record {
        head = log.0;
        left = log.1;
        was = f.is_given;
        bytes = new_log log;
        written = refl;
        newer = newer.left;
        found = newer.found;
        entries = newer.entries;
        rest = newer.rest;
        read = λ after made. subst (λ (a : Folder). log_in a new_name ≡ Ok (newer_head log.0, newer.left)) (sym (same_Some _ _ made)) (newer_read folder new_name log head (leb-true _ _ done.0));
      })
