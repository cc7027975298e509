-- A session takes bytes: those of the line that has begun, and those that end lines.
use Rattle.std.proofs.Common.{◌≡◌, ℕ, ◌+◌, ◌≤◌, ◌<◌, true, false, List, ◌++◌, length, Option}
use Rattle.std.specs.Prelude.{Ok, Err}
use Rattle.std.specs.List.{list_any}
use Rattle.fri_text.specs.Line.{is_line_feed, lines_of}
use Rattle.conversation.specs.declared.conversing.Ended.{Ended}
use Rattle.conversation.specs.declared.conversing.Ended.TheVariants as cause
use Rattle.conversation.specs.Limits.{most_input}
use Rattle.conversation.specs.Lines.{whole_lines}
use Rattle.conversation.specs.Talker.{Answered, talker_of}
use Rattle.conversation.specs.inside.Reader.{InputReadsOn, SessionGoesOn, SessionReader, SessionStands, SessionStops, SessionStopsIn, AnsweredLines, WasTold, state_after_lines}
use Rattle.conversation.proofs.WholeLines.{IsWhole}
use Rattle.conversation.proofs.PrintedSoFar.{at_line_end, overruns, part_ended, part_kept, quits_ended, stands_ended, stands_open, with_bytes}

module _ {X S : Type 0} (stands : X → S → Type 0) (answer : S → List ℕ → Answered S) (reader : SessionReader X) (bytes : List ℕ) where
  pub stops_large : (now : Option (List ℕ)) → most_input ≤ reader.count → 0 < length bytes → SessionStopsIn stands answer bytes now now reader cause.TooLarge
  unfolding SessionStopsIn
  stops_large now full some = (tt, λ opening state printed taken s. overruns stands (talker_of opening state answer) printed now reader taken s bytes full some)

  pub stops_memory : (now : Option (List ℕ)) → SessionStopsIn stands answer bytes now now reader cause.NoMemory
  unfolding SessionStopsIn
  stops_memory now = (tt, λ opening state printed taken s. part_kept stands (talker_of opening state answer) printed now reader taken s bytes)

  pub takes_open : (now : Option (List ℕ)) → list_any is_line_feed bytes ≡ false → reader.count + length bytes ≤ most_input → SessionGoesOn stands answer bytes now now reader (with_bytes reader bytes)
  unfolding SessionGoesOn
  takes_open now none room = λ opening state printed taken s. stands_open stands (talker_of opening state answer) printed now reader taken s bytes none room

  module _ (old new : Option (List ℕ)) (whole : IsWhole bytes) (some : list_any is_line_feed bytes ≡ true) (room : reader.count + length bytes ≤ most_input) where
    pub takes_lines : (next : X) → WasTold stands answer reader.session (lines_of (reader.begun ++ bytes)) old new (Ok next)
        → SessionGoesOn stands answer bytes old new reader (at_line_end reader bytes next)
    unfolding SessionGoesOn WasTold
    takes_lines next told = λ opening state printed taken s.
        let spoke = told (state_after_lines answer state (whole_lines taken)) s.stands_in in
        stands_ended stands (talker_of opening state answer) printed old reader taken s bytes new whole some room next spoke.0 spoke.1.0 spoke.1.1

    stops_by : (opening : List ℕ) (state : S) (printed : Option (List ℕ)) (taken : List ℕ) → SessionStands stands (talker_of opening state answer) printed old reader taken
        → (why : Ended) → AnsweredLines stands answer (state_after_lines answer state (whole_lines taken)) (lines_of (reader.begun ++ bytes)) old new (Err why)
        → SessionStops (talker_of opening state answer) printed new (taken ++ bytes) why
    stops_by opening state printed taken s cause.Done spoke = quits_ended stands (talker_of opening state answer) printed old reader taken s bytes new whole some room spoke.0 spoke.1
    stops_by opening state printed taken s cause.TooLarge spoke = absurd spoke
    stops_by opening state printed taken s cause.ReadFault spoke = absurd spoke
    stops_by opening state printed taken s cause.WriteFault spoke = part_ended stands (talker_of opening state answer) printed old reader taken s bytes new whole some room spoke
    stops_by opening state printed taken s cause.NoMemory spoke = part_ended stands (talker_of opening state answer) printed old reader taken s bytes new whole some room spoke

    pub stops_lines : (why : Ended) → InputReadsOn why → WasTold stands answer reader.session (lines_of (reader.begun ++ bytes)) old new (Err why)
        → SessionStopsIn stands answer bytes old new reader why
    unfolding SessionStopsIn WasTold
    stops_lines why reads told = (reads, λ opening state printed taken s. stops_by opening state printed taken s why (told (state_after_lines answer state (whole_lines taken)) s.stands_in))
