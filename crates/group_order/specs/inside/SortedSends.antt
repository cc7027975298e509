-- The sends of a group's processes as a list in order.
use Rattle.std.specs.Prelude.{◌≡◌, ℕ, ◌<◌, ◌≤◌, List, length, slice_index_or}
use Rattle.std.specs.declared.cmp.Ordering.TheVariants.{Less, Greater}
use Rattle.group_order.specs.Sends.{by_sender}

-- the sender of the send at a place
abbrev pub sender_at : List ((ℕ × ℕ) × ℕ) → ℕ → ℕ × ℕ
sender_at sends i = let send = slice_index_or sends i ((0, 0), 0) in send.0

-- each send is after those before it
abbrev pub AreInOrder : List ((ℕ × ℕ) × ℕ) → Type 0
AreInOrder sends = (i j : ℕ) → i < j → j < length sends → by_sender (sender_at sends i) (sender_at sends j) ≡ Less

-- the send of this sender is at a place
pub record IsAt (sends : List ((ℕ × ℕ) × ℕ)) (sender : ℕ × ℕ) (i : ℕ) : Type 0 where
  pub within : i < length sends
  pub same : sender_at sends i ≡ sender

-- it would go to a place: those before it are below, and those from there on above
pub record IsGapFor (sends : List ((ℕ × ℕ) × ℕ)) (sender : ℕ × ℕ) (i : ℕ) : Type 0 where
  pub within : i ≤ length sends
  pub below : (j : ℕ) → j < i → by_sender (sender_at sends j) sender ≡ Less
  pub above : (j : ℕ) → i ≤ j → j < length sends → by_sender (sender_at sends j) sender ≡ Greater
