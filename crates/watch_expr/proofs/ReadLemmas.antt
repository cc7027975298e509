-- Where all that an expression reads is the same, its value and what it reads are the same.
use Rattle.std.proofs.Common.{◌≡◌, ℕ, zero, suc, ◌+◌, ◌-◌, ◌*◌, ◌/◌, ◌%◌, ◌<◌, ◌≤◌, Bool, true, false, cond, List, [], ◌∷◌, ◌++◌, length, map, take, drop, Option, Some, None, refl, sym, ap, subst, ◌∙◌, arith, ℤ, pos, negsuc, inl, inr}
use Rattle.std.proofs.Math.Seq.{take-add}
use Rattle.std.proofs.lemmas.Bool.{cases_Bool, eqb-true, le-leb, leb-false, leb-true}
use Rattle.std.proofs.lemmas.List.{drop-drop, drop-take, take-take}
use Rattle.std.proofs.lemmas.Option.{same_Some}
use Rattle.std.specs.Prelude.{◌^◌, is_none, nat_eq, nat_le, nat_lt, option_map, slice_get}
use Rattle.std.specs.List.{AllByRecursion, flat_map, range_with_len}
use Rattle.guest_memory.specs.Memory.{IsMemory, Memory, bytes_from, size_of}
use Rattle.expression_text.specs.declared.expr.Binary.{Binary}
use Rattle.expression_text.specs.declared.expr.Width.{Width}
use Rattle.expression_text.specs.declared.expr.Width.TheVariants as width
use Rattle.expression_text.specs.Expression.{Clock, Events, Expression, Global, HasEnded, LastThread, Load, Number, One, Over, Size, Two, Var}
use Rattle.watch_expr.specs.declared.reads.Place.{Place}
use Rattle.watch_expr.specs.declared.reads.Place.TheVariants as place
use Rattle.watch_expr.specs.Reads.{AreMemories, ReadsTell, SameAtPlace, SamePage, places_at_node, evaluates_right, load_places, no_variables, pages_of, reads_at, two_pages}
use Rattle.watch_expr.specs.Value.{ExpressionSetting, all_numbers, byte_count, decided_by_left, global_value, loaded_at, unary_value, aggregate_over, resolved_node, expression_setting, truth_value, two, value_at, value_of_bytes, decided_with_right}
use Rattle.watch_expr.specs.View.{Node, ◌>>=◌, node_clock, events_at, global_at, has_ended_at, last_thread_at, piece_in_memory, size_at}

-- ---- bytes that lie in one page or two

from_page : (w o n : ℕ) (ys : List ℕ) → o + n ≤ w → take n (drop o (take w ys)) ≡ take n (drop o ys)
from_page w o n ys fits =
    let e : o + (w - o) ≡ w = omega (arith, fits) in
    ap (λ (k : ℕ). take n (drop o (take k ys))) (sym e)
    ∙ ap (take n) (drop-take o (w - o) ys)
    ∙ take-take n (w - o) (drop o ys) (omega (arith, fits))

part_same : (w base o n : ℕ) (xs ys : List ℕ) → o + n ≤ w → take w (drop base ys) ≡ take w (drop base xs)
    → take n (drop (base + o) ys) ≡ take n (drop (base + o) xs)
part_same w base o n xs ys fits same =
    ap (take n) (sym (drop-drop o base ys)) ∙ sym (from_page w o n (drop base ys) fits)
    ∙ ap (λ (zs : List ℕ). take n (drop o zs)) same
    ∙ from_page w o n (drop base xs) fits ∙ ap (take n) (drop-drop o base xs)

joined : (bytes : List ℕ) (addr n m : ℕ) → take (n + m) (drop addr bytes) ≡ take n (drop addr bytes) ++ take m (drop (addr + n) bytes)
joined bytes addr n m = take-add n m (drop addr bytes) ∙ ap (λ (l : List ℕ). take n (drop addr bytes) ++ take m l) (drop-drop n addr bytes)

at_same : (m : Memory) (addr other count : ℕ) → addr ≡ other → bytes_from m addr count ≡ bytes_from m other count
at_same m addr other count e = ap (λ (k : ℕ). bytes_from m k count) e

one_page : (a b : Memory) (addr count : ℕ) → addr % 4096 + count ≤ 4096 → SamePage a b (addr / 4096) → bytes_from b addr count ≡ bytes_from a addr count
one_page a b addr count fits first =
    let e : addr ≡ 4096 * (addr / 4096) + addr % 4096 = omega arith in
    at_same b addr (4096 * (addr / 4096) + addr % 4096) count e
    ∙ part_same 4096 (4096 * (addr / 4096)) (addr % 4096) count a.bytes b.bytes fits first.bytes
    ∙ sym (at_same a addr (4096 * (addr / 4096) + addr % 4096) count e)

pages_two : (a b : Memory) (addr count n m p q : ℕ) → count ≡ n + m → addr + n ≡ 4096 * q → addr ≡ 4096 * p + addr % 4096 → addr % 4096 + n ≤ 4096 → m ≤ 4096
    → SamePage a b p → SamePage a b q → bytes_from b addr count ≡ bytes_from a addr count
pages_two a b addr count n m p q sum next base fits few first last =
    let low : take n (drop addr b.bytes) ≡ take n (drop addr a.bytes) =
    at_same b addr (4096 * p + addr % 4096) n base
    ∙ part_same 4096 (4096 * p) (addr % 4096) n a.bytes b.bytes fits first.bytes
    ∙ sym (at_same a addr (4096 * p + addr % 4096) n base) in
    let high : take m (drop (addr + n) b.bytes) ≡ take m (drop (addr + n) a.bytes) =
    at_same b (addr + n) (4096 * q + 0) m (omega (arith, next))
    ∙ part_same 4096 (4096 * q) 0 m a.bytes b.bytes (omega (arith, few)) last.bytes
    ∙ sym (at_same a (addr + n) (4096 * q + 0) m (omega (arith, next))) in
    ap (λ (k : ℕ). take k (drop addr b.bytes)) sum ∙ joined b.bytes addr n m
    ∙ ap (λ (l : List ℕ). l ++ take m (drop (addr + n) b.bytes)) low
    ∙ ap (λ (l : List ℕ). take n (drop addr a.bytes) ++ l) high
    ∙ sym (joined a.bytes addr n m) ∙ sym (ap (λ (k : ℕ). take k (drop addr a.bytes)) sum)

bytes_same : (a b : Memory) (addr count : ℕ) → 0 < count → count ≤ 8 → SamePage a b (addr / 4096) → SamePage a b ((addr + count - 1) / 4096)
    → bytes_from b addr count ≡ bytes_from a addr count
bytes_same a b addr count some few first last = elim (cases_Bool (nat_le (addr % 4096 + count) 4096)) [
  | inl within ↦ one_page a b addr count (leb-true (addr % 4096 + count) 4096 within) first
  | inr past_end ↦
      let past : 4096 < addr % 4096 + count = leb-false (addr % 4096 + count) 4096 past_end in
      pages_two a b addr count (4096 - addr % 4096) (count - (4096 - addr % 4096)) (addr / 4096) ((addr + count - 1) / 4096)
      (omega (arith, past)) (omega (arith, past, some, few)) (omega arith) (omega arith) (omega (arith, few)) first last
]

-- a memory has whole pages
page_within : (k len size : ℕ) → 65536 * size ≡ len → k < len → 4096 * (k / 4096) + 4096 ≤ len
page_within k len size whole below = omega arith

-- ---- lists of places

split_all : {X : Type 0} (P : X → Type 0) (xs ys : List X) → AllByRecursion P (xs ++ ys) → AllByRecursion P xs × AllByRecursion P ys
split_all P [] ys h = (tt, h)
split_all P (x ∷ xs) ys h = let r = split_all P xs ys h.1 in ((h.0, r.0), r.1)

both_parts : {X : Type 0} (xs ys us vs : List X) → xs ≡ ys → us ≡ vs → xs ++ us ≡ ys ++ vs
both_parts {X} xs ys us vs e f = ap (λ (l : List X). l ++ us) e ∙ ap (λ (l : List X). ys ++ l) f

-- ---- one node in two states of a group

with_both : (old new : List Node) → length new ≡ length old → (k : ℕ) (P : Option Node → Option Node → Type 0) → P None None
    → ((a b : Node) → slice_get old k ≡ Some a → slice_get new k ≡ Some b → P (Some a) (Some b)) → P (slice_get old k) (slice_get new k)
with_both [] [] e k P none some = none
with_both [] (b ∷ new) e k P none some = absurd (omega (arith, e))
with_both (a ∷ old) [] e k P none some = absurd (omega (arith, e))
with_both (a ∷ old) (b ∷ new) e zero P none some = some a b refl refl
with_both (a ∷ old) (b ∷ new) e (suc k) P none some = with_both old new (omega (arith, e)) k P none some

memory_of_node : (nodes : List Node) → AreMemories nodes → (k : ℕ) (s : Node) → slice_get nodes k ≡ Some s → IsMemory s.memory
memory_of_node [] h k s e = absurd cc
memory_of_node (t ∷ nodes) h zero s e = subst (λ (u : Node). IsMemory u.memory) (same_Some t s e) h.0
memory_of_node (t ∷ nodes) h (suc k) s e = memory_of_node nodes h.1 k s e

-- ---- loads

some_bytes : (w : Width) → (0 < byte_count w) × (byte_count w ≤ 8)
some_bytes width.U8 = (omega arith, omega arith)
some_bytes width.U16 = (omega arith, omega arith)
some_bytes width.U32 = (omega arith, omega arith)
some_bytes width.I8 = (omega arith, omega arith)
some_bytes width.I16 = (omega arith, omega arith)
some_bytes width.I32 = (omega arith, omega arith)
some_bytes width.I64 = (omega arith, omega arith)

-- what a load gives at a node
abbrev loaded_from : Option Node → Width → ℤ → Option ℤ
loaded_from o w (pos addr) = option_map (value_of_bytes w) (o >>= λ s. piece_in_memory s.memory addr (byte_count w))
loaded_from o w (negsuc _) = None

loaded_is : (nodes : List Node) (node : ℕ) (w : Width) (addr : ℤ) → loaded_at nodes node w addr ≡ loaded_from (slice_get nodes node) w addr
loaded_is nodes node w (pos addr) = refl
loaded_is nodes node w (negsuc n) = refl

no_address : (node : ℕ) (o : Option Node) (count : ℕ) → load_places node o count None ≡ []
no_address node None count = refl
no_address node (Some s) count = refl

module _ (old new : List Node) (node : ℕ) (a b : Node) (is_a : slice_get old node ≡ Some a) (is_b : slice_get new node ≡ Some b) where
  pages_same : (p q : ℕ) (t : Bool) → nat_eq p q ≡ t → 4096 * p + 4096 ≤ length a.memory.bytes → 4096 * q + 4096 ≤ length a.memory.bytes
      → AllByRecursion (SameAtPlace old new) (cond t (place.Page node p ∷ []) (place.Page node p ∷ place.Page node q ∷ []))
      → SamePage a.memory b.memory p × SamePage a.memory b.memory q
  pages_same p q true e in_p in_q h = let first = h.0 a b is_a is_b in_p in (first, subst (SamePage a.memory b.memory) (eqb-true p q e) first)
  pages_same p q false e in_p in_q h = (h.0 a b is_a is_b in_p, h.1.0 a b is_a is_b in_q)

  lengths_same : IsMemory a.memory → IsMemory b.memory → size_at new node ≡ size_at old node → length b.memory.bytes ≡ length a.memory.bytes
  lengths_same in_a in_b e =
      let sizes : size_of b.memory ≡ size_of a.memory =
      same_Some (size_of b.memory) (size_of a.memory)
      (sym (ap (option_map (λ (s : Node). size_of s.memory)) is_b) ∙ e ∙ ap (option_map (λ (s : Node). size_of s.memory)) is_a) in
      sym in_b.whole ∙ ap (λ (k : ℕ). 65536 * k) sizes ∙ in_a.whole

  pieces_same : (addr count : ℕ) → 0 < count → count ≤ 8 → IsMemory a.memory → IsMemory b.memory
      → (i : Bool) → nat_le (addr + count) (length a.memory.bytes) ≡ i
      → AllByRecursion (SameAtPlace old new) (cond i (two_pages node (addr / 4096) ((addr + count - 1) / 4096)) (place.Size node ∷ []))
      → (piece_in_memory b.memory addr count ≡ cond i (Some (bytes_from a.memory addr count)) None)
      × (pages_of node b.memory addr count ≡ cond i (two_pages node (addr / 4096) ((addr + count - 1) / 4096)) (place.Size node ∷ []))
  pieces_same addr count some few in_a in_b true inside h =
      let within : addr + count ≤ length a.memory.bytes = leb-true (addr + count) (length a.memory.bytes) inside in
      let first = page_within addr (length a.memory.bytes) (size_of a.memory) in_a.whole (omega (arith, within, some)) in
      let last = page_within (addr + count - 1) (length a.memory.bytes) (size_of a.memory) in_a.whole (omega (arith, within, some)) in
      let p = pages_same (addr / 4096) ((addr + count - 1) / 4096) (nat_eq (addr / 4096) ((addr + count - 1) / 4096)) refl first last h in
      let there : nat_le (addr + count) (length b.memory.bytes) ≡ true = le-leb (addr + count) (length b.memory.bytes) (omega (arith, p.1.inside, some)) in (
        ap (λ (t : Bool). cond t (Some (bytes_from b.memory addr count)) None) there ∙ ap Some (bytes_same a.memory b.memory addr count some few p.0 p.1),
        ap (λ (t : Bool). cond t (two_pages node (addr / 4096) ((addr + count - 1) / 4096)) (place.Size node ∷ [])) there,
      )
  pieces_same addr count some few in_a in_b false outside h =
      let lengths = lengths_same in_a in_b h.0 in
      let not_there : nat_le (addr + count) (length b.memory.bytes) ≡ false = ap (nat_le (addr + count)) lengths ∙ outside in (
        ap (λ (t : Bool). cond t (Some (bytes_from b.memory addr count)) None) not_there,
        ap (λ (t : Bool). cond t (two_pages node (addr / 4096) ((addr + count - 1) / 4096)) (place.Size node ∷ [])) not_there,
      )

  load_same : (w : Width) (addr : ℤ) → IsMemory a.memory → IsMemory b.memory → AllByRecursion (SameAtPlace old new) (load_places node (Some a) (byte_count w) (Some addr))
      → (loaded_from (Some b) w addr ≡ loaded_from (Some a) w addr)
      × (load_places node (Some b) (byte_count w) (Some addr) ≡ load_places node (Some a) (byte_count w) (Some addr))
  load_same w (negsuc n) in_a in_b h = (refl, refl)
  load_same w (pos addr) in_a in_b h =
      let c = some_bytes w in
      let i = nat_le (addr + byte_count w) (length a.memory.bytes) in
      let r = pieces_same addr (byte_count w) c.0 c.1 in_a in_b i refl h in
      (ap (option_map (value_of_bytes w)) r.0, r.1)

-- ---- right sides

right_values : (op : Binary) (o yo yn : Option ℤ) → (evaluates_right op o ≡ true → yn ≡ yo)
    → ◌≡◌ {A = Option ℤ} (o >>= λ a. decided_with_right op a (decided_by_left op a) yn) (o >>= λ a. decided_with_right op a (decided_by_left op a) yo)
right_values op None yo yn h = refl
right_values op (Some a) yo yn h = by_decided (decided_by_left op a) h
  where
    by_decided : (d : Option ℤ) → (is_none d ≡ true → yn ≡ yo) → decided_with_right op a d yn ≡ decided_with_right op a d yo
    by_decided (Some r) same = refl
    by_decided None same = ap (λ (y : Option ℤ). y >>= λ b. two op a b) (same refl)

right_reads : (b : Bool) (ro rn : List Place) → (b ≡ true → rn ≡ ro) → cond b rn [] ≡ cond b ro []
right_reads true ro rn h = h refl
right_reads false ro rn h = refl

right_all : (P : Place → Type 0) (b : Bool) (rs : List Place) → AllByRecursion P (cond b rs []) → b ≡ true → AllByRecursion P rs
right_all P true rs h e = h
right_all P false rs h e = absurd (cc)

-- ---- expressions

module _ (old new : List Node) (even : length new ≡ length old)
    (in_old : AreMemories old) (in_new : AreMemories new) where
  abbrev so : ExpressionSetting
  so = expression_setting old no_variables

  abbrev sn : ExpressionSetting
  sn = expression_setting new no_variables

  record Same (each : Option ℕ) (x : Expression) : Type 0 where
    values : value_at sn each x ≡ value_at so each x
    reads : reads_at sn each x ≡ reads_at so each x

  over_nodes : (x : Expression) (ks : List ℕ) → ((k : ℕ) → AllByRecursion (SameAtPlace old new) (reads_at so (Some k) x) → Same (Some k) x)
      → AllByRecursion (SameAtPlace old new) (flat_map (λ (k : ℕ). reads_at so (Some k) x) ks)
      → (map (λ (k : ℕ). value_at sn (Some k) x) ks ≡ map (λ (k : ℕ). value_at so (Some k) x) ks)
      × (flat_map (λ (k : ℕ). reads_at sn (Some k) x) ks ≡ flat_map (λ (k : ℕ). reads_at so (Some k) x) ks)
  over_nodes x [] each_same h = (refl, refl)
  over_nodes x (k ∷ ks) each_same h =
      let parts = split_all (SameAtPlace old new) (reads_at so (Some k) x) (flat_map (λ (k : ℕ). reads_at so (Some k) x) ks) h in
      let first = each_same k parts.0 in
      let rest = over_nodes x ks each_same parts.1 in (
        ap (λ (v : Option ℤ). v ∷ map (λ (k : ℕ). value_at sn (Some k) x) ks) first.values ∙ ap (λ (vs : List (Option ℤ)). value_at so (Some k) x ∷ vs) rest.0,
        both_parts (reads_at sn (Some k) x) (reads_at so (Some k) x) (flat_map (λ (k : ℕ). reads_at sn (Some k) x) ks) (flat_map (λ (k : ℕ). reads_at so (Some k) x) ks)
            first.reads rest.1,
      )

  abbrev LoadsSame : ℕ → Width → ℤ → Option Node → Option Node → Type 0
  LoadsSame node w addr oa ob =
      AllByRecursion (SameAtPlace old new) (load_places node oa (byte_count w) (Some addr))
      → (loaded_from ob w addr ≡ loaded_from oa w addr) × (load_places node ob (byte_count w) (Some addr) ≡ load_places node oa (byte_count w) (Some addr))

  load_case : (r : Option ℕ) (w : Width) (o : Option ℤ)
      → AllByRecursion (SameAtPlace old new) (places_at_node r (λ node. load_places node (slice_get old node) (byte_count w) o))
      → (◌≡◌ {A = Option ℤ} (o >>= λ addr. r >>= λ node. loaded_at new node w addr) (o >>= λ addr. r >>= λ node. loaded_at old node w addr))
      × (places_at_node r (λ node. load_places node (slice_get new node) (byte_count w) o) ≡ places_at_node r (λ node. load_places node (slice_get old node) (byte_count w) o))
  load_case None w o h = (refl, refl)
  load_case (Some node) w None h = (refl, no_address node (slice_get new node) (byte_count w) ∙ sym (no_address node (slice_get old node) (byte_count w)))
  load_case (Some node) w (Some addr) h =
      let r = with_both old new even node (LoadsSame node w addr) (λ _. (refl, refl))
      (λ a b is_a is_b all. load_same old new node a b is_a is_b w addr (memory_of_node old in_old node a is_a) (memory_of_node new in_new node b is_b) all) h in
      (loaded_is new node w addr ∙ r.0 ∙ sym (loaded_is old node w addr), r.1)

  global_case : (r : Option ℕ) (n : ℕ) → AllByRecursion (SameAtPlace old new) (places_at_node r (λ node. cond (nat_lt n (2 ^ 32)) (place.Global node n ∷ []) []))
      → ◌≡◌ {A = Option ℤ} (r >>= λ node. global_value new node n) (r >>= λ node. global_value old node n)
  global_case None n h = refl
  global_case (Some node) n h = by_low (nat_lt n (2 ^ 32)) h
    where
      by_low : (b : Bool) → AllByRecursion (SameAtPlace old new) (cond b (place.Global node n ∷ []) []) → cond b (global_at new node n) None ≡ cond b (global_at old node n) None
      by_low true same = same.0
      by_low false same = refl

  clock_case : (r : Option ℕ) → AllByRecursion (SameAtPlace old new) (places_at_node r (λ node. place.Motion node ∷ [])) → ◌≡◌ {A = Option ℤ} (r >>= node_clock new) (r >>= node_clock old)
  clock_case None h = refl
  clock_case (Some node) h = h.0.0

  events_case : (r : Option ℕ) → AllByRecursion (SameAtPlace old new) (places_at_node r (λ node. place.Motion node ∷ [])) → ◌≡◌ {A = Option ℤ} (r >>= events_at new) (r >>= events_at old)
  events_case None h = refl
  events_case (Some node) h = h.0.1

  thread_case : (r : Option ℕ) → AllByRecursion (SameAtPlace old new) (places_at_node r (λ node. place.Motion node ∷ [])) → ◌≡◌ {A = Option ℤ} (r >>= last_thread_at new) (r >>= last_thread_at old)
  thread_case None h = refl
  thread_case (Some node) h = h.0.2

  ended_case : (r : Option ℕ) → AllByRecursion (SameAtPlace old new) (places_at_node r (λ node. place.Motion node ∷ []))
      → ◌≡◌ {A = Option ℤ} (r >>= λ node. option_map truth_value (has_ended_at new node)) (r >>= λ node. option_map truth_value (has_ended_at old node))
  ended_case None h = refl
  ended_case (Some node) h = ap (option_map truth_value) h.0.3

  size_case : (r : Option ℕ) → AllByRecursion (SameAtPlace old new) (places_at_node r (λ node. place.Size node ∷ []))
      → ◌≡◌ {A = Option ℤ} (r >>= λ node. option_map pos (size_at new node)) (r >>= λ node. option_map pos (size_at old node))
  size_case None h = refl
  size_case (Some node) h = ap (option_map pos) h.0

  agrees : (x : Expression) (each : Option ℕ) → AllByRecursion (SameAtPlace old new) (reads_at so each x) → Same each x
  agrees (Number n) each h = record { values = refl; reads = refl }
  agrees (Var name) each h = record { values = refl; reads = refl }
  agrees (One op x) each h = let r = agrees x each h in record { values = ap (λ (o : Option ℤ). o >>= unary_value op) r.values; reads = r.reads }
  agrees (Two op x y) each h =
      let parts = split_all (SameAtPlace old new) (reads_at so each x) (cond (evaluates_right op (value_at so each x)) (reads_at so each y) []) h in
      let left = agrees x each parts.0 in
      let right : evaluates_right op (value_at so each x) ≡ true → Same each y =
      λ e. agrees y each (right_all (SameAtPlace old new) (evaluates_right op (value_at so each x)) (reads_at so each y) parts.1 e) in
      record {
        values =
            ap (λ (o : Option ℤ). o >>= λ a. decided_with_right op a (decided_by_left op a) (value_at sn each y)) left.values
            ∙ right_values op (value_at so each x) (value_at so each y) (value_at sn each y) (λ e. (right e).values);
        reads =
            both_parts (reads_at sn each x) (reads_at so each x) _ _ left.reads
            (ap (λ (o : Option ℤ). cond (evaluates_right op o) (reads_at sn each y) []) left.values
            ∙ right_reads (evaluates_right op (value_at so each x)) (reads_at so each y) (reads_at sn each y) (λ e. (right e).reads));
      }
  agrees (Over agg x) each h =
      let r = over_nodes x (range_with_len 0 (length old)) (λ k all. agrees x (Some k) all) h in
      record {
        values =
            ap (λ (n : ℕ). all_numbers (map (λ (k : ℕ). value_at sn (Some k) x) (range_with_len 0 n)) >>= aggregate_over agg) even
            ∙ ap (λ (vs : List (Option ℤ)). all_numbers vs >>= aggregate_over agg) r.0;
        reads = ap (λ (n : ℕ). flat_map (λ (k : ℕ). reads_at sn (Some k) x) (range_with_len 0 n)) even ∙ r.1;
      }
  agrees (Load name w x) each h =
      let parts = split_all (SameAtPlace old new) (reads_at so each x)
      (places_at_node (resolved_node None each name) (λ node. load_places node (slice_get old node) (byte_count w) (value_at so each x))) h in
      let r = agrees x each parts.0 in
      let l = load_case (resolved_node None each name) w (value_at so each x) parts.1 in
      record {
        values = ap (λ (o : Option ℤ). o >>= λ addr. resolved_node None each name >>= λ node. loaded_at new node w addr) r.values ∙ l.0;
        reads =
            both_parts (reads_at sn each x) (reads_at so each x) _ _ r.reads
            (ap (λ (o : Option ℤ). places_at_node (resolved_node None each name) (λ node. load_places node (slice_get new node) (byte_count w) o)) r.values ∙ l.1);
      }
  agrees (Global name n) each h = record { values = global_case (resolved_node None each name) n h; reads = refl }
  agrees (Clock name) each h = record { values = clock_case (resolved_node None each name) h; reads = refl }
  agrees (Events name) each h = record { values = events_case (resolved_node None each name) h; reads = refl }
  agrees (Size name) each h = record { values = size_case (resolved_node None each name) h; reads = refl }
  agrees (LastThread name) each h = record { values = thread_case (resolved_node None each name) h; reads = refl }
  agrees (HasEnded name) each h = record { values = ended_case (resolved_node None each name) h; reads = refl }

pub reads_tell : ReadsTell
reads_tell old new each x even in_old in_new h = let r = agrees old new even in_old in_new x each h in (r.values, r.reads)
