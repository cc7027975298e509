-- The traffic that what the code told stands for.
use Rattle.std.specs.Prelude.{◌≡◌, List}
use Rattle.byte_streams.specs.Stands.{StandsFor}
use Rattle.byte_streams.specs.Traffic.{SendOrReceive}
use Rattle.streams_command.specs.declared.telling.Told.{Told}
use Rattle.streams_command.specs.Streams.{foreign_receives, odd_sends}

-- these sends and receives were told, and no others
pub record IsToldOf (told : Told) (traffic : List SendOrReceive) : Type 0 where
  pub streams : StandsFor told.streams traffic
  pub odd : told.odd ≡ odd_sends traffic
  pub foreign : told.foreign ≡ foreign_receives traffic
