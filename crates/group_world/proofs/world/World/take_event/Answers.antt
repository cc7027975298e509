use Rattle.std.proofs.Common.{◌≡◌, ℕ, ◌<◌, length, get_or, ap, ◌∙◌, rules}
use Rattle.std.specs.Prelude.{slice_set}
use Rattle.std.proofs.lemmas.List.{get_or_read}
use Rattle.lib_calls.specs.declared.entry.Entry.{Entry}
use Rattle.lib_calls.specs.Entry.{entry_of}
use Rattle.lib_calls.specs.Traffic.{is_sent, is_taken}
use Rattle.group_world.specs.World.{Surroundings, World, after_entry, after_event, no_surroundings, sent_if, process_count, surroundings_of, took_if}
use Rattle.group_world.proofs.EventLemmas.{either_first, not_both}
use Rattle.group_world.proofs.world.World.take_event.Goals as goal

-- the three steps of an event: a datagram is kept, one is let go, and the place is settled
steps : (w kept left : World) (p : ℕ) (e : Entry) (before place : Surroundings) → p < length left.surroundings
    → kept ≡ record w { net = sent_if (is_sent (process_count w) e) w.net p e }
    → left ≡ record kept { net = took_if (is_taken e) kept.net p }
    → before ≡ get_or left.surroundings p before
    → place ≡ after_entry before e
    → record left { surroundings = slice_set left.surroundings p place } ≡ after_event w p e
steps w kept left p e before place within keeps leaves read settles =
    let surroundings : left.surroundings ≡ w.surroundings = ap (λ (v : World). v.surroundings) leaves ∙ ap (λ (v : World). v.surroundings) keeps in
    let net : left.net ≡ sent_if (is_sent (process_count w) e) (took_if (is_taken e) w.net p) p e =
    ap (λ (v : World). v.net) leaves ∙ ap (λ (v : World). took_if (is_taken e) v.net p) keeps
    ∙ either_first w.net p e (is_sent (process_count w) e) (is_taken e) (not_both (process_count w) e) in
    let settled_there : place ≡ after_entry (surroundings_of w p) e =
    settles ∙ ap (λ b. after_entry b e) (get_or_read left.surroundings p before within read no_surroundings ∙ ap (λ xs. get_or xs p no_surroundings) surroundings) in
    cc

-- the datagram is kept before the other is let go, which makes no difference
pub returns-clause-ok : goal.returns-clause-ok
returns-clause-ok c =
    let left : World = record { net = c.self.inside.net; surroundings = c.self.inside.surroundings.items } in
    steps c.args.self.now c.keep_sent.new.self left c.args.p (entry_of c.args.entry.now) c.index_mut.result.now c.settle.new.self
    (search rules) (search rules) (search rules) (search rules) (search rules)
