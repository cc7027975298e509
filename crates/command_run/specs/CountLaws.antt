-- What follows of the counts of faults by computing, which crates above need too.
use Rattle.std.specs.Prelude.{◌≡◌, ◌≢◌, ℕ, ⊤, Result, Ok, Err}
use Rattle.std.proofs.Common.{sym, ap, refl, subst, ◌∙◌, inl}
use Rattle.fri_outside.specs.Outside.{Counts}
use Rattle.command_run.specs.declared.refusal.StopCause.{StopCause}
use Rattle.command_run.specs.declared.refusal.StopCause.TheVariants as refusal
use Rattle.command_run.specs.Call.{CountsFaults, CountsMisses, CountsNothing, misses_after, reads_after, writes_after}
use Rattle.command_run.specs.declared.status.Status.{Status}
use Rattle.command_run.specs.declared.status.Status.TheVariants as ends
use Rattle.command_run.specs.Run.{Outside, TellsMisses, faults_of}

-- no miss was counted, and what came of it tells of none
misses_still : {T : Type 0} (a b : ℕ) (result : Result T StopCause) → b ≡ a → misses_after a result ≡ a → CountsMisses a b result
misses_still a b (Ok value) same still = same
misses_still a b (Err (refusal.Refused file why)) same still = same ∙ sym still
misses_still a b (Err (refusal.Absent file)) same still = same ∙ sym still
misses_still a b (Err refusal.ReadFault) same still = same
misses_still a b (Err refusal.WriteFault) same still = same
misses_still a b (Err refusal.NoMemory) same still = inl same

misses_of_part : (T U : Type 0) (a b : ℕ) (e : StopCause) → CountsMisses {T = T} a b (Err e) → CountsMisses {T = U} a b (Err e)
misses_of_part T U a b (refusal.Refused file why) misses = misses
misses_of_part T U a b (refusal.Absent file) misses = misses
misses_of_part T U a b refusal.ReadFault misses = misses
misses_of_part T U a b refusal.WriteFault misses = misses
misses_of_part T U a b refusal.NoMemory misses = misses

-- no fault was counted, and then those that this names
pub counts_later : {T : Type 0} (a b c : Counts) (result : Result T StopCause) → CountsFaults {T = ⊤} a b (Ok tt) → CountsFaults b c result → CountsFaults a c result
counts_later a b c result first then = record {
  reads = then.reads ∙ ap (λ (n : ℕ). reads_after n result) first.reads;
  writes = then.writes ∙ ap (λ (n : ℕ). writes_after n result) first.writes;
  misses = subst (λ (n : ℕ). CountsMisses n c.misses result) first.misses then.misses;
}

-- none was counted
pub counts_none : {T : Type 0} (a b : Counts) (value : T) → CountsFaults a b (Ok value) → CountsFaults {T = ⊤} a b (Ok tt)
counts_none a b value counts = record { reads = counts.reads; writes = counts.writes; misses = counts.misses }

-- what came of one part is what came of the whole
pub counts_of_part : {T U : Type 0} (a b : Counts) (e : StopCause) → CountsFaults {T = T} a b (Err e) → CountsFaults {T = U} a b (Err e)
counts_of_part {T = T} {U = U} a b e counts = record { reads = counts.reads; writes = counts.writes; misses = misses_of_part T U a.misses b.misses e counts.misses }

-- none was counted, and what came of it names none
pub counts_still : {T U : Type 0} (a b : Counts) (value : T) (result : Result U StopCause) → CountsNothing result → CountsFaults a b (Ok value) → CountsFaults a b result
counts_still a b value result still counts = record { reads = counts.reads ∙ sym (still a.reads).0; writes = counts.writes ∙ sym (still a.writes).1.0; misses = misses_still a.misses b.misses result counts.misses (still a.misses).1.1 }

-- the same counts as those
pub counts_same : {T : Type 0} (a b c : Counts) (result : Result T StopCause) → CountsFaults a b result → c ≡ b → CountsFaults a c result
counts_same a b c result first same = subst (λ (d : Counts). CountsFaults a d result) (sym same) first

-- ---- all counts of faults

pub counted_faults : (new : Outside) (reads writes heard said : ℕ) → new.counts.reads ≡ reads → new.counts.writes ≡ writes → new.hearing.faults ≡ heard → new.out_faults ≡ said
    → faults_of new ≡ ((reads, writes), (heard, said))
counted_faults new reads writes heard said r w h s =
    ap (λ (n : ℕ). ((n, new.counts.writes), (new.hearing.faults, new.out_faults))) r
    ∙ ap (λ (n : ℕ). ((reads, n), (new.hearing.faults, new.out_faults))) w
    ∙ ap (λ (n : ℕ). ((reads, writes), (n, new.out_faults))) h
    ∙ ap (λ (n : ℕ). ((reads, writes), (heard, n))) s

-- ---- the misses

-- none was counted
pub unmissed : (old new : ℕ) (answer : Status) → new ≡ old → (answer ≢ ends.Absent) → TellsMisses answer old new
unmissed old new ends.Done same other = same
unmissed old new ends.Diverged same other = same
unmissed old new ends.Usage same other = same
unmissed old new ends.Refused same other = inl same
unmissed old new ends.Absent same other = absurd (other refl)
unmissed old new ends.ReadFault same other = same
unmissed old new ends.WriteFault same other = inl same
unmissed old new ends.NoMemory same other = inl same
