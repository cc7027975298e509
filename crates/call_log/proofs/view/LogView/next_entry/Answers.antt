use Rattle.std.proofs.Common.{rules, ◌≡◌, List, ℕ, ◌++◌, Option, Some, None, sym, ap, subst, ◌∙◌}
use Rattle.std.specs.Prelude.{IfNone}
use Rattle.lib_calls.specs.declared.entry.Entry.{Entry}
use Rattle.lib_calls.specs.Entry.{entry_of}
use Rattle.call_log.specs.Entry.{encoding}
use Rattle.call_log.specs.Log.{Log, Unread, entries_of, entry_at, rest_of_log}
use Rattle.call_log.proofs.EntryLemmas.{entry_at-begins, entry_at-none}
use Rattle.call_log.proofs.AllEntries.{Stops, entries_of-next, rest_of-next, shorter, entries_of-end, rest_of-end}
use Rattle.call_log.proofs.view.LogView.next_entry.Goals as goal

-- what holds, holds where there is nothing
if_none : {A : Type 0} (o : Option A) {P : Type 0} → P → IfNone o P
if_none None p = p
if_none (Some x) p = search rules

abbrev left_of : Log → Unread
left_of log = log.left

abbrev IsSpelled : Entry → List ℕ → Unread → Type 0
IsSpelled e rest left = left.bytes ≡ encoding left.version left.last e ++ rest

pub returns-in_err-entry-clause-entries : goal.returns-in_err-entry-clause-entries
returns-in_err-entry-clause-entries c =
    let ends = subst Stops (ap left_of c.self.view_is) c.in_err-entry.ensures.none in
    let none : c.from_residual.result ≡ None = search rules in
    rw none (entries_of-end c.exact_readers.ensures c.args.self.now.left ends)

pub returns-in_err-entry-clause-end : goal.returns-in_err-entry-clause-end
returns-in_err-entry-clause-end c =
    let ends = subst Stops (ap left_of c.self.view_is) c.in_err-entry.ensures.none in
    if_none c.from_residual.result (rest_of-end c.exact_readers.ensures c.args.self.now.left ends)

pub returns-in_err-entry-clause-exact : goal.returns-in_err-entry-clause-exact
returns-in_err-entry-clause-exact c =
    let ends = subst Stops (ap left_of c.self.view_is) c.in_err-entry.ensures.none in
    rw c.from_residual.ensures (sym (entry_at-none c.args.self.now.left ends))

pub returns-clause-entries : goal.returns-clause-entries
returns-clause-entries c =
    let left : Unread = record { version = c.self.inside.head.version; last = c.self.inside.last; bytes = c.self.inside.rest.now } in
    sym (ap (λ (log : Log). entries_of log.left) c.self.view_is) ∙ entries_of-next c.exact_readers.ensures left (entry_of c.in_ok-entry.entry) c.in_ok-entry.rest.now c.in_ok-entry.ensures.shaped c.in_ok-entry.ensures.spelled

pub returns-clause-rest : goal.returns-clause-rest
returns-clause-rest c =
    let left : Unread = record { version = c.self.inside.head.version; last = c.self.inside.last; bytes = c.self.inside.rest.now } in
    sym (ap (λ (log : Log). rest_of_log log.left) c.self.view_is) ∙ rest_of-next c.exact_readers.ensures left (entry_of c.in_ok-entry.entry) c.in_ok-entry.rest.now c.in_ok-entry.ensures.shaped c.in_ok-entry.ensures.spelled

pub returns-clause-shorter : goal.returns-clause-shorter
returns-clause-shorter c =
    let spelled = subst (IsSpelled (entry_of c.in_ok-entry.entry) c.in_ok-entry.rest.now) (ap left_of c.self.view_is) c.in_ok-entry.ensures.spelled in
    shorter _ _ c.args.self.now.left.bytes (entry_of c.in_ok-entry.entry) c.in_ok-entry.rest.now spelled

pub returns-clause-exact : goal.returns-clause-exact
returns-clause-exact c =
    let left : Unread = record { version = c.self.inside.head.version; last = c.self.inside.last; bytes = c.self.inside.rest.now } in
    sym (entry_at-begins c.exact_readers.ensures left (entry_of c.in_ok-entry.entry) c.in_ok-entry.rest.now c.in_ok-entry.ensures.shaped c.in_ok-entry.ensures.spelled) ∙ ap (λ (log : Log). entry_at log.left) c.self.view_is
