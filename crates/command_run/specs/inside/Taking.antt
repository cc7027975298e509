-- What is counted where a file was refused, and what keeping a module adds.
use Rattle.std.specs.Prelude.{◌≡◌, Result, Ok, Err, ℕ, List, [], ◌∷◌, ◌++◌, string_bytes}
use Rattle.std.proofs.Common.{sym, ap, ◌∙◌, refl, inl, inr}
use Rattle.fri_outside.specs.Outside.{Counts, after_read, raised_count, with_name_asked}
use Rattle.fri_outside.specs.declared.files.FileError.{FileError}
use Rattle.fri_outside.specs.declared.files.FileError.TheVariants as failure
use Rattle.command_run.specs.declared.refusal.StopCause.{StopCause}
use Rattle.command_run.specs.declared.refusal.StopCause.TheVariants as refusal
use Rattle.command_run.specs.declared.refusal.Reason.{Reason}
use Rattle.command_run.specs.declared.refusal.Reason.TheVariants as reason
use Rattle.wasm_types.specs.declared.modules.Module.{Module}
use Rattle.command_run.specs.declared.kept.ModuleFile.{ModuleFile}
use Rattle.command_run.specs.declared.kept.ModuleFiles.{ModuleFiles}
use Rattle.command_run.specs.Call.{CountsFaults, NamesAbsent, RefusesFile, misses_of_refusal}
use Rattle.command_run.specs.Asked.{AsksFirst}
use Rattle.command_run.specs.AskedLaws.{all_are_first, begins_asking}

-- a file that was read
pub counts_read : {T : Type 0} (a b : Counts) (name : List ℕ) (value : T) → b ≡ with_name_asked name a → CountsFaults a b (Ok value)
counts_read a b name value same = record {
  reads = ap (λ (c : Counts). c.reads) same;
  writes = ap (λ (c : Counts). c.writes) same;
  misses = ap (λ (c : Counts). c.misses) same;
}

-- a file that was not there, or was too large
abbrev pub missed : List ℕ → Counts → Counts
missed name a = record (with_name_asked name a) { misses = raised_count a.misses }

pub counts_absent : {T : Type 0} (a b : Counts) (asked name : List ℕ) (e : StopCause) → b ≡ missed asked a → NamesAbsent name e → CountsFaults {T = T} a b (Err e)
counts_absent a b asked name (refusal.Refused file why) same is = absurd is
counts_absent a b asked name (refusal.Absent file) same is = record {
  reads = ap (λ (c : Counts). c.reads) same;
  writes = ap (λ (c : Counts). c.writes) same;
  misses = ap (λ (c : Counts). c.misses) same;
}
counts_absent a b asked name refusal.ReadFault same is = absurd is
counts_absent a b asked name refusal.WriteFault same is = absurd is
counts_absent a b asked name refusal.NoMemory same is = record {
  reads = ap (λ (c : Counts). c.reads) same;
  writes = ap (λ (c : Counts). c.writes) same;
  misses = inr (ap (λ (c : Counts). c.misses) same);
}

pub counts_too_large : {T : Type 0} (a b : Counts) (asked name : List ℕ) (e : StopCause) → b ≡ missed asked a → RefusesFile name reason.TooLarge e → CountsFaults {T = T} a b (Err e)
counts_too_large a b asked name (refusal.Refused file why) same is = record {
  reads = ap (λ (c : Counts). c.reads) same;
  writes = ap (λ (c : Counts). c.writes) same;
  misses = ap (λ (c : Counts). c.misses) same ∙ sym (ap (λ (r : Reason). misses_of_refusal r a.misses) is.1);
}
counts_too_large a b asked name (refusal.Absent file) same is = absurd is
counts_too_large a b asked name refusal.ReadFault same is = absurd is
counts_too_large a b asked name refusal.WriteFault same is = absurd is
counts_too_large a b asked name refusal.NoMemory same is = record {
  reads = ap (λ (c : Counts). c.reads) same;
  writes = ap (λ (c : Counts). c.writes) same;
  misses = inr (ap (λ (c : Counts). c.misses) same);
}

-- a read that failed
pub counts_failed : {T : Type 0} (a b : Counts) (name : List ℕ) → b ≡ record (with_name_asked name a) { reads = raised_count a.reads } → CountsFaults {T = T} a b (Err refusal.ReadFault)
counts_failed a b name same = record {
  reads = ap (λ (c : Counts). c.reads) same;
  writes = ap (λ (c : Counts). c.writes) same;
  misses = ap (λ (c : Counts). c.misses) same;
}

-- and one for which there was no memory
pub counts_no_memory : {T : Type 0} (a b : Counts) → b ≡ a → CountsFaults {T = T} a b (Err refusal.NoMemory)
counts_no_memory a b same = record {
  reads = ap (λ (c : Counts). c.reads) same;
  writes = ap (λ (c : Counts). c.writes) same;
  misses = inl (ap (λ (c : Counts). c.misses) same);
}

-- a read asks for its file and no other
pub asks_by_read : {T : Type 0} (a b : Counts) (name : List ℕ) (result : Result T FileError) → b ≡ after_read name a result → AsksFirst (name ∷ []) a b
asks_by_read a b name (Ok bytes) same = all_are_first _ a b (ap (λ (c : Counts). c.asked) same)
asks_by_read a b name (Err failure.Absent) same = all_are_first _ a b (ap (λ (c : Counts). c.asked) same)
asks_by_read a b name (Err failure.TooLarge) same = all_are_first _ a b (ap (λ (c : Counts). c.asked) same)
asks_by_read a b name (Err failure.Failed) same = all_are_first _ a b (ap (λ (c : Counts). c.asked) same)
asks_by_read a b name (Err failure.NoMemory) same = begins_asking _ a b (ap (λ (c : Counts). c.asked) same)

-- this module of a file of this name comes after those
pub record AddsFile (old new : ModuleFiles) (name : List ℕ) (m : Module) : Type 0 where
  pub file : ModuleFile
  pub named : string_bytes file.name ≡ name
  pub held : file.«module» ≡ m
  pub added : new.kept.items ≡ old.kept.items ++ file ∷ []
