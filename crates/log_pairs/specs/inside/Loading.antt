-- What loading a pair of files comes to, after the pairs before it.
use Rattle.std.specs.Prelude.{◌≡◌, List, MatchResult, Ok, Result}
use Rattle.fri_outside.specs.Outside.{Folder}
use Rattle.command_run.specs.Call.{StopsAsCause}
use Rattle.command_run.specs.declared.refusal.StopCause.{StopCause}
use Rattle.log_pairs.specs.declared.pairs.Loaded.{Loaded as LoadedFiles}
use Rattle.log_pairs.specs.Pairs.{Loaded, Pair, loaded_pair}
use Rattle.log_pairs.specs.Meanings.{AreLoadedPairs, IsLoadedPair}

-- what a pair comes to after the pairs before it, or why it does not
abbrev pub LoadsPair : Folder → List LoadedFiles → Pair → Result LoadedFiles StopCause → Type 0
LoadsPair folder earlier pair result = (ls : List Loaded) → AreLoadedPairs earlier ls
    → MatchResult result (λ l. (is : Loaded) × ((loaded_pair folder ls pair ≡ Ok is) × IsLoadedPair l is)) (StopsAsCause (loaded_pair folder ls pair))
