-- What one try, and one item that is not `run`, come to.
use Rattle.std.proofs.Common.{◌≡◌, ◌∙◌, ℕ, ◌+◌, ◌<◌, Bool, true, false, cond, List, [], ◌∷◌, length, slice_index_or, Option, Some, None, refl, ap, sym, subst, arith}
use Rattle.std.proofs.lemmas.List.{get_or_default}
use Rattle.std.specs.Prelude.{codes, is_some, ◌++◌}
use Rattle.lib_calls.specs.declared.entry.Entry.{Entry}
use Rattle.lib_calls.specs.Entry.{entry_of}
use Rattle.schedule_text.specs.declared.item.Item.{Item}
use Rattle.guest_process.specs.Live.{Event}
use Rattle.group_record.specs.Live.{ActsAfter, LiveParts, TriesAfter}
use Rattle.group_record.specs.Run.{Did, GroupStart, Had, RunProgress, after_item, attempt, event_of_try, had_event, name_of_process, unless_log_full, with_full_log, with_step}
use Rattle.group_record.specs.declared.tried.Tried.{Tried}
use Rattle.group_record.specs.declared.tried.Tried.TheVariants as tried
use Rattle.group_text.specs.Texts.{named_event_text}
use Rattle.play_command.specs.declared.told.Told.{Told}
use Rattle.play_command.specs.inside.Playing.{WentOn, told_event, told_if}
use Rattle.play_command.proofs.GoingOn.{none_told}

-- nothing is full yet
pub unless_none : (done next : RunProgress) → done.full ≡ None → unless_log_full done next ≡ next
unless_none done next room = ap (λ (o : Option ℕ). cond (is_some o) done next) room

-- something is full
pub unless_some : (done next : RunProgress) → is_some done.full ≡ true → unless_log_full done next ≡ done
unless_some done next full = ap (λ (b : Bool). cond b done next) full

-- ---- a try

attempt_by : (group : GroupStart) (number p thread : ℕ) (before : RunProgress) (o : Option Event) → before.full ≡ None → event_of_try group before.steps p thread ≡ o → attempt group number p thread before ≡ had_event group number p o before
attempt_by group number p thread before o room at =
    unless_none before _ room ∙ ap (λ (o : Option Event). had_event group number p o before) at

-- what is told after a try of a process with this name
abbrev pub told_after : Tried → List ℕ → Told → Told
told_after tried.Idle name told = record told { idle = told.idle + 1 }
told_after (tried.Had entry) name told = told_event told name (entry_of entry)
told_after tried.Full name told = told

abbrev pub is_full_try : Tried → Bool
is_full_try tried.Idle = false
is_full_try (tried.Had entry) = false
is_full_try tried.Full = true

-- a group went on so to this progress, and a log was full or not
abbrev pub WentOnTo : GroupStart → RunProgress → LiveParts → Told → Told → Bool → RunProgress → Type 0
WentOnTo group before live old new full after = WentOn group before after live old new × (is_some after.full ≡ full)

pub attempt_goes : (group : GroupStart) (number p thread : ℕ) (before : RunProgress) (live : LiveParts) (told : Told) (name : List ℕ) (t : Tried) → before.full ≡ None → name ≡ name_of_process group p
    → TriesAfter group before.steps p thread t live → WentOnTo group before live told (told_after t name told) (is_full_try t) (attempt group number p thread before)
attempt_goes group number p thread before live told name tried.Idle room named (none, stands) =
    subst (WentOnTo group before live told (record told { idle = told.idle + 1 }) false) (sym (attempt_by group number p thread before None room none)) (
      record { made = []; steps = refl; stands = stands; tells = refl; text = none_told told.tells told.text; acted = omega arith; idle = omega arith },
      ap (λ (o : Option ℕ). is_some o) room,
    )
attempt_goes group number p thread before live told name (tried.Had entry) room named (e, at, fits, same, stands) =
    subst (WentOnTo group before live told (told_event told name (entry_of entry)) false)
    (sym (attempt_by group number p thread before (Some e) room at ∙ ap (λ (b : Bool). cond b (with_step (Had p e) before) (with_full_log number before)) fits)) (
      record {
        made = Had p e ∷ [];
        steps = refl;
        stands = stands;
        tells = refl;
        text = ap (λ (name : List ℕ). told.text ++ told_if told.tells (named_event_text name (entry_of entry) ++ codes "\n")) named
            ∙ ap (λ (entry : Entry). told.text ++ told_if told.tells (named_event_text (name_of_process group p) entry ++ codes "\n")) same;
        acted = refl;
        idle = refl;
      },
      ap (λ (o : Option ℕ). is_some o) room,
    )
attempt_goes group number p thread before live told name tried.Full room named (e, at, none, stands) =
    subst (WentOnTo group before live told told true)
    (sym (attempt_by group number p thread before (Some e) room at ∙ ap (λ (b : Bool). cond b (with_step (Had p e) before) (with_full_log number before)) none)) (
      record { made = []; steps = refl; stands = stands; tells = refl; text = none_told told.tells told.text; acted = omega arith; idle = refl },
      refl,
    )

-- ---- an item that is not `run`

-- what is told after it
abbrev pub told_of_act : Bool → Told → Told
told_of_act true told = record told { acted = told.acted + 1 }
told_of_act false told = record told { idle = told.idle + 1 }

pub act_goes : (group : GroupStart) (number : ℕ) (i : Item) (before : RunProgress) (live : LiveParts) (told : Told) (acted : Bool) → before.full ≡ None
    → ActsAfter group before.steps i acted live → WentOnTo group before live told (told_of_act acted told) false (after_item group number i before)
act_goes group number i before live told true room (act, does, stands) =
    subst (WentOnTo group before live told (record told { acted = told.acted + 1 }) false) (sym (unless_none before _ room ∙ does number before refl)) (
      record { made = Did act ∷ []; steps = refl; stands = stands; tells = refl; text = none_told told.tells told.text; acted = refl; idle = refl },
      ap (λ (o : Option ℕ). is_some o) room,
    )
act_goes group number i before live told false room (does, stands) =
    subst (WentOnTo group before live told (record told { idle = told.idle + 1 }) false) (sym (unless_none before _ room ∙ does number before refl)) (
      record { made = []; steps = refl; stands = stands; tells = refl; text = none_told told.tells told.text; acted = omega arith; idle = omega arith },
      ap (λ (o : Option ℕ). is_some o) room,
    )

-- ---- names

-- the name at a place is that of the process
pub name_at : (group : GroupStart) (names : List (List ℕ)) (p : ℕ) (name : List ℕ) → group.names ≡ names → p < length names → name ≡ slice_index_or names p name → name ≡ name_of_process group p
name_at group names p name named within at =
    at ∙ get_or_default names p name [] within ∙ ap (λ (names : List (List ℕ)). slice_index_or names p []) (sym named)
