-- The schedule of a whole group is well formed and within the limits.
use Rattle.std.proofs.Common.{◌≡◌, ◌≢◌, ℕ, zero, suc, ◌+◌, ◌≤◌, ◌<◌, ◌^◌, ◌%◌, ◌/◌, Bool, true, false, cond, List, [], ◌∷◌, ◌++◌, length, flat_map, Option, Some, None, refl, ap, ◌∙◌, arith}
use Rattle.std.specs.Prelude.{◌==◌, All}
use Rattle.std.specs.Int.{w32, w64, bytes_low_first, byte_at, byte_len, cast_signed, to_le_bytes}
use Rattle.std.specs.List.{AllByRecursion}
use Rattle.std.proofs.lemmas.Bool.{eqb-false}
use Rattle.std.proofs.lemmas.List.Elements.{All-append, All-from_recursion, All-nil}
use Rattle.std.proofs.lemmas.List.Sums.{sum_by-append}
use borrow.Author.Gap.{read_sfits}
use Rattle.fri_bytes.specs.Laws.{AreBytes}
use Rattle.lamport_tag.specs.declared.Tag.{Tag}
use Rattle.lamport_tag.specs.Tag.{magic, tag_bytes}
use Rattle.call_table.specs.declared.kind.Kind.{Kind}
use Rattle.call_table.specs.declared.kind.Kind.TheVariants.{Now, SleepUntil, Random as RandomCall, Recv, TryRecv}
use Rattle.lib_calls.specs.declared.entry.Entry.{Entry}
use Rattle.lib_calls.specs.Effects.{minus_one}
use Rattle.lib_calls.specs.Traffic.{is_taken}
use Rattle.guest_process.specs.OneEvent.{datagram_as}
use Rattle.group_order.specs.Order.{NodeEvent}
use Rattle.schedule_text.specs.declared.item.Item.{Item}
use Rattle.schedule_text.specs.declared.item.Item.TheVariants as item
use Rattle.schedule_text.specs.Schedule.{IsInRange, run_count, tries}
use Rattle.schedule_back.specs.Back.{datagram_items, items_of, random_items, signal_items, world_items}

-- ---- bytes

pub bytes_append : (xs ys : List ℕ) → AreBytes xs → AreBytes ys → AreBytes (xs ++ ys)
bytes_append [] ys are more i = more i
bytes_append (x ∷ xs) ys are more zero = are 0
bytes_append (x ∷ xs) ys are more (suc i) = bytes_append xs ys (λ j. are (suc j)) more i

no_bytes : AreBytes []
no_bytes i = omega arith

low_byte : (n : ℕ) → n % 256 < 256
low_byte n = omega arith

one_byte : (i n : ℕ) → byte_at i n < 256
one_byte zero n = low_byte n
one_byte (suc i) n = low_byte (n / 256 ^ suc i)

number_bytes : (i k n : ℕ) → AreBytes (bytes_low_first i k n)
number_bytes i zero n j = no_bytes j
number_bytes i (suc k) n zero = one_byte i n
number_bytes i (suc k) n (suc j) = number_bytes (suc i) k n j

magic_bytes : AreBytes magic
magic_bytes zero = omega arith
magic_bytes (suc zero) = omega arith
magic_bytes (suc (suc zero)) = omega arith
magic_bytes (suc (suc (suc zero))) = omega arith
magic_bytes (suc (suc (suc (suc i)))) = no_bytes i

tag_are_bytes : (tag : Tag) → AreBytes (tag_bytes tag)
unfolding tag_bytes
tag_are_bytes tag = bytes_append magic (to_le_bytes w32 tag.sender ++ to_le_bytes w64 tag.clock) magic_bytes (bytes_append (to_le_bytes w32 tag.sender) (to_le_bytes w64 tag.clock) (number_bytes 0 (byte_len w32) tag.sender) (number_bytes 0 (byte_len w64) tag.clock))

datagram_bytes : (tag : Option Tag) (payload : List ℕ) → AreBytes payload → AreBytes (datagram_as tag payload)
datagram_bytes None payload are = are
datagram_bytes (Some tag) payload are = bytes_append (tag_bytes tag) payload (tag_are_bytes tag) are

-- ---- the items of one event

-- what is needed of an event of process p so that its items are in range
pub record IsRanged (count : ℕ) (e : NodeEvent Entry) : Type 0 where
  pub process : e.node < count
  pub thread : e.entry.thread < 64
  pub signal : e.entry.signal ≤ 31
  pub incoming : AreBytes e.entry.incoming

module _ (count : ℕ) (e : NodeEvent Entry) (r : IsRanged count e) where
  abbrev Ranged : List Item → Type 0
  Ranged items = AllByRecursion (IsInRange count) items

  clock_in : Ranged (item.Clock e.node (cast_signed w64 e.entry.reply) ∷ [])
  clock_in = ((r.process, read_sfits w64 e.entry.reply), tt)

  random_in : Ranged (random_items e.node e.entry)
  random_in = by_test (e.entry.reply == minus_one) where
    by_test : (b : Bool) → Ranged (cond b [] (item.Random e.node e.entry.incoming ∷ []))
    by_test true = tt
    by_test false = ((r.process, r.incoming), tt)

  datagram_in : Ranged (datagram_items e.node e.entry)
  datagram_in = by_test (is_taken e.entry) where
    by_test : (b : Bool) → Ranged (cond b (item.Inject e.node (datagram_as e.entry.tag e.entry.incoming) ∷ []) [])
    by_test true = ((r.process, datagram_bytes e.entry.tag e.entry.incoming r.incoming), tt)
    by_test false = tt

  world_in : (k : Kind) → Ranged (world_items k e.node e.entry)
  world_in Now = clock_in
  world_in SleepUntil = clock_in
  world_in RandomCall = random_in
  world_in Recv = datagram_in
  world_in TryRecv = datagram_in
  world_in k = tt

  signal_in : Ranged (signal_items e.node e.entry)
  signal_in = by_test (e.entry.signal == 0) refl where
    by_test : (b : Bool) → (e.entry.signal == 0) ≡ b → Ranged (cond b [] (item.Signal e.node e.entry.signal ∷ []))
    by_test true none = tt
    by_test false some = ((r.process, at_least (e.entry.signal) (eqb-false e.entry.signal 0 some), r.signal), tt) where
      at_least : (n : ℕ) → n ≢ 0 → 1 ≤ n
      at_least zero other = absurd (other refl)
      at_least (suc n) other = omega arith

  run_in : Ranged (item.Run e.node e.entry.thread 1 ∷ [])
  run_in = ((r.process, omega (arith, r.thread), omega arith, omega arith), tt)

  append_in : (xs ys : List Item) → Ranged xs → Ranged ys → Ranged (xs ++ ys)
  append_in [] ys xs_in ys_in = ys_in
  append_in (x ∷ xs) ys xs_in ys_in = (xs_in.0, append_in xs ys xs_in.1 ys_in)

  pub items_in : All (IsInRange count) (items_of e.node e.entry)
  items_in =
      let k = e.entry.call.kind in
      let world = world_items k e.node e.entry in
      let signal = signal_items e.node e.entry in
      All-from_recursion (IsInRange count) (items_of e.node e.entry) (append_in world (signal ++ item.Run e.node e.entry.thread 1 ∷ []) (world_in k) (append_in signal (item.Run e.node e.entry.thread 1 ∷ []) signal_in run_in))

-- ---- how often they try

one_try : (p : ℕ) (e : Entry) → run_count (items_of p e) ≡ 1
one_try p e =
    let k = e.call.kind in
    let last = item.Run p e.thread 1 ∷ [] in
    sum_by-append tries (world_items k p e) (signal_items p e ++ last)
    ∙ ap (λ n. n + run_count (signal_items p e ++ last)) (no_world k)
    ∙ ap (λ n. 0 + n) (sum_by-append tries (signal_items p e) last ∙ ap (λ n. n + 1) no_signal) where
      no_random : (b : Bool) → run_count (cond b [] (item.Random p e.incoming ∷ [])) ≡ 0
      no_random true = refl
      no_random false = refl

      no_datagram : (b : Bool) → run_count (cond b (item.Inject p (datagram_as e.tag e.incoming) ∷ []) []) ≡ 0
      no_datagram true = refl
      no_datagram false = refl

      no_world : (k : Kind) → run_count (world_items k p e) ≡ 0
      no_world Now = refl
      no_world SleepUntil = refl
      no_world RandomCall = no_random (e.reply == minus_one)
      no_world Recv = no_datagram (is_taken e)
      no_world TryRecv = no_datagram (is_taken e)
      no_world k = refl

      no_signal : run_count (signal_items p e) ≡ 0
      no_signal = by_test (e.signal == 0) where
        by_test : (b : Bool) → run_count (cond b [] (item.Signal p e.signal ∷ [])) ≡ 0
        by_test true = refl
        by_test false = refl

-- ---- all events

abbrev pub items_of_events : List (NodeEvent Entry) → List Item
items_of_events es = flat_map (λ e. items_of e.node e.entry) es

pub all_in : (count : ℕ) (es : List (NodeEvent Entry)) → AllByRecursion (IsRanged count) es → All (IsInRange count) (items_of_events es)
all_in count [] ranged = All-nil (IsInRange count)
all_in count (e ∷ es) ranged = All-append (IsInRange count) (items_of e.node e.entry) (items_of_events es) (items_in count e ranged.0) (all_in count es ranged.1)

pub all_tries : (es : List (NodeEvent Entry)) → run_count (items_of_events es) ≡ length es
all_tries [] = refl
all_tries (e ∷ es) =
    sum_by-append tries (items_of e.node e.entry) (items_of_events es)
    ∙ ap (λ n. n + run_count (items_of_events es)) (one_try e.node e.entry)
    ∙ ap (λ n. 1 + n) (all_tries es)
    ∙ one_more (length es) where
      one_more : (n : ℕ) → 1 + n ≡ suc n
      one_more n = omega arith
