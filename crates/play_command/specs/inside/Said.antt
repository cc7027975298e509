-- What a play said last.
use Rattle.std.specs.Prelude.{ℕ, List, Option}
use Rattle.std.specs.Borrow.{Bor}
use Rattle.std.specs.Option.{option_map_or}
use Rattle.play_command.specs.declared.live_play.Play.{Play}

-- a text of the program, if there is one, and else one that was made
abbrev pub said_by : Option (Bor (List ℕ)) → List ℕ → List ℕ
said_by usual made = option_map_or (λ (line : Bor (List ℕ)). line.now) usual made

abbrev pub said_of : Play → List ℕ
said_of play = said_by play.usual play.told.text
