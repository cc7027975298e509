-- What is kept of the prints is what the events printed.
use Rattle.std.proofs.Common.{◌≡◌, ◌≢◌, ℕ, zero, suc, ◌<◌, ◌++◌, true, false, eqb, List, [], ◌∷◌, length, slice_get, slice_index_or, Some, refl, ap, sym, ◌∙◌, append_assoc, append-nil, arith}
use Rattle.std.specs.Prelude.{replicate, slice_set}
use Rattle.std.proofs.lemmas.Bool.{eq-eqb, eqb-true}
use Rattle.std.proofs.lemmas.Bool.Decides.{nat_tests}
use Rattle.std.proofs.lemmas.List.{set-get_or}
use Rattle.std.proofs.lemmas.Option.{slice_get-get_or}
use Rattle.lib_calls.specs.declared.entry.Entry.{Entry}
use Rattle.lib_calls.specs.Traffic.{printed, prints}
use Rattle.guest_process.specs.Live.{Event}
use Rattle.group_world.specs.History.{put_last_if}
use Rattle.group_record.specs.inside.Recorded.{with_print}
use Rattle.group_record.specs.Run.{RunStep, Had, entries_of_steps}
use Rattle.group_record.proofs.SharedLemmas.{set_each}

-- where nothing is printed, what is kept stays
pub nothing_printed : (kept : List (List ℕ)) (p : ℕ) (piece : List ℕ) → eqb (length piece) 0 ≡ true → kept ≡ with_print kept p piece
nothing_printed kept p [] none = sym (ap (λ t. slice_set kept p t) (append-nil (slice_index_or kept p [])) ∙ set-get_or kept p [])
nothing_printed kept p (b ∷ piece) none = absurd (omega (arith, eqb-true (length (b ∷ piece)) 0 none))

-- what is printed with one event more
prints_more : (es : List Entry) (e : Entry) → prints (es ++ e ∷ []) ≡ prints es ++ printed e
prints_more [] e = append-nil (printed e)
prints_more (x ∷ es) e = ap (λ t. printed x ++ t) (prints_more es e) ∙ sym (append_assoc (printed x) (prints es) (printed e))

-- where what a process printed is kept, it is what its events printed
abbrev pub AreKept : List (List ℕ) → List RunStep → Type 0
AreKept kept steps = (p : ℕ) (bytes : List ℕ) → slice_get kept p ≡ Some bytes → bytes ≡ prints (entries_of_steps steps p)

own_print : (kept : List (List ℕ)) (steps : List RunStep) (p : ℕ) (e : Event) (entry : Entry) → AreKept kept steps → entry ≡ e.entry → p < length kept
    → slice_index_or kept p [] ++ printed entry ≡ prints (entries_of_steps (Had p e ∷ steps) p)
own_print kept steps p e entry h same within =
    let here : eqb p p ≡ true = eq-eqb p p refl in
    ap (λ t. t ++ printed entry) (h p (slice_index_or kept p []) (slice_get-get_or kept p [] within))
    ∙ ap (λ e. prints (entries_of_steps steps p) ++ printed e) same
    ∙ sym (prints_more (entries_of_steps steps p) e.entry)
    ∙ sym (ap (λ b. prints (put_last_if b (entries_of_steps steps p) e.entry)) here)

other_print : (steps : List RunStep) (p q : ℕ) (e : Event) (bytes : List ℕ) → p ≢ q → bytes ≡ prints (entries_of_steps steps q) → bytes ≡ prints (entries_of_steps (Had p e ∷ steps) q)
other_print steps p q e bytes apart is =
    let other : eqb p q ≡ false = grind (arith, nat_tests) in
    is ∙ sym (ap (λ b. prints (put_last_if b (entries_of_steps steps q) e.entry)) other)

pub event_printed : (kept : List (List ℕ)) (steps : List RunStep) (p : ℕ) (e : Event) (entry : Entry) → AreKept kept steps → entry ≡ e.entry
    → AreKept (with_print kept p (printed entry)) (Had p e ∷ steps)
event_printed kept steps p e entry h same =
    set_each kept p (slice_index_or kept p [] ++ printed entry) (λ q bytes. bytes ≡ prints (entries_of_steps (Had p e ∷ steps) q))
    (own_print kept steps p e entry h same)
    (λ q bytes apart at. other_print steps p q e bytes apart (h q bytes at))

-- nothing has been printed
pub none_printed : (count p : ℕ) (bytes : List ℕ) → slice_get (replicate count []) p ≡ Some bytes → bytes ≡ []
none_printed zero p bytes at = cc
none_printed (suc count) zero bytes at = cc
none_printed (suc count) (suc p) bytes at = none_printed count p bytes at
