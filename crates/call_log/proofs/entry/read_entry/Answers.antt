use Rattle.std.proofs.Common.{◌≡◌, ℕ, List, ◌++◌, IfSome, IfNone, Option, Some, None, option_map, sym, subst, rules}
use Rattle.fri_bytes.specs.Laws.{AreBytes, ExactReaders}
use Rattle.lib_calls.specs.declared.entry.Entry.{Entry}
use Rattle.lib_calls.specs.Entry.{IsShaped}
use Rattle.call_log.specs.declared.version.Version.{Version}
use Rattle.call_log.specs.Entry.{BeginsNoEntry, encoding}
use Rattle.call_log.specs.Reading.{read_entry}
use Rattle.call_log.proofs.EntryLemmas.{read_entry-found, read_entry-none}
use Rattle.call_log.proofs.entry.read_entry.Goals as goal

-- what is read is an entry of its kind's shape
shaped : {A : Type 0} → ExactReaders → (f : A → Entry × List ℕ) (v w : Version) (last : ℕ) (bytes : List ℕ) → AreBytes bytes → v ≡ w → (r : Option A) → option_map f r ≡ read_entry w last bytes → IfSome r (λ x. IsShaped (f x).0)
shaped readers f v w last bytes are same None e = tt
shaped readers f v w last bytes are same (Some x) e = (read_entry-found readers w last bytes (f x).0 (f x).1 are (sym e)).0

-- which is at the front
spelled : {A : Type 0} → ExactReaders → (f : A → Entry × List ℕ) (v w : Version) (last : ℕ) (bytes : List ℕ) → AreBytes bytes → v ≡ w → (r : Option A) → option_map f r ≡ read_entry w last bytes → IfSome r (λ x. bytes ≡ encoding v last (f x).0 ++ (f x).1)
spelled readers f v w last bytes are same None e = tt
spelled readers f v w last bytes are same (Some x) e =
    subst (λ (u : Version). bytes ≡ encoding u last (f x).0 ++ (f x).1) (sym same) (read_entry-found readers w last bytes (f x).0 (f x).1 are (sym e)).1

-- where nothing is read, none is there
none : {A : Type 0} → ExactReaders → (f : A → Entry × List ℕ) (v w : Version) (last : ℕ) (bytes : List ℕ) → v ≡ w → (r : Option A) → option_map f r ≡ read_entry w last bytes → IfNone r (BeginsNoEntry v last bytes)
none readers f v w last bytes same None e =
    subst (λ (u : Version). BeginsNoEntry u last bytes) (sym same) (read_entry-none readers w last bytes (sym e))
none readers f v w last bytes same (Some x) e = tt

pub returns-in-One-clause-shaped : goal.returns-in-One-clause-shaped
returns-in-One-clause-shaped c =
    shaped c.exact_readers.ensures _ _ _ c.args.last c.args.bytes.now (λ i. search rules) c.in-One.is c.read_framed.result c.read_framed.ensures

pub returns-in-One-clause-spelled : goal.returns-in-One-clause-spelled
returns-in-One-clause-spelled c =
    spelled c.exact_readers.ensures _ _ _ c.args.last c.args.bytes.now (λ i. search rules) c.in-One.is c.read_framed.result c.read_framed.ensures

pub returns-in-One-clause-none : goal.returns-in-One-clause-none
returns-in-One-clause-none c =
    none c.exact_readers.ensures _ _ _ c.args.last c.args.bytes.now c.in-One.is c.read_framed.result c.read_framed.ensures

pub returns-in-Two-clause-shaped : goal.returns-in-Two-clause-shaped
returns-in-Two-clause-shaped c =
    shaped c.exact_readers.ensures _ _ _ c.args.last c.args.bytes.now (λ i. search rules) c.in-Two.is c.read_framed-in-Two.result c.read_framed-in-Two.ensures

pub returns-in-Two-clause-spelled : goal.returns-in-Two-clause-spelled
returns-in-Two-clause-spelled c =
    spelled c.exact_readers.ensures _ _ _ c.args.last c.args.bytes.now (λ i. search rules) c.in-Two.is c.read_framed-in-Two.result c.read_framed-in-Two.ensures

pub returns-in-Two-clause-none : goal.returns-in-Two-clause-none
returns-in-Two-clause-none c =
    none c.exact_readers.ensures _ _ _ c.args.last c.args.bytes.now c.in-Two.is c.read_framed-in-Two.result c.read_framed-in-Two.ensures
