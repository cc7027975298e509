-- How many tries and items are counted while items are done.
use Rattle.std.specs.Prelude.{ℕ, ◌+◌, ◌<◌, ◌^◌}
use Rattle.schedule_text.specs.declared.item.Item.{Item}
use Rattle.schedule_text.specs.declared.item.Item.TheVariants as item
use Rattle.play_command.specs.declared.told.Told.{Told}

-- how many were counted
abbrev pub counted_of : Told → ℕ
counted_of told = told.acted + told.idle

-- so many more can be counted
abbrev pub HasRoomToCount : ℕ → Told → Type 0
HasRoomToCount n told = counted_of told + n < 2 ^ 64

-- how many are counted of an item: each try of a run, and one of any other
abbrev pub counted_tries : Item → ℕ
counted_tries (item.Run p thread times) = times
counted_tries (item.Deliver p n) = 1
counted_tries (item.Inject p bytes) = 1
counted_tries (item.Clock p time) = 1
counted_tries (item.Random p bytes) = 1
counted_tries (item.Signal p signal) = 1
counted_tries (item.Kill p) = 1
