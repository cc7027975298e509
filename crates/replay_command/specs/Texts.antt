-- How a report is spelled: a line for each log, and one for the group.
use Rattle.std.specs.Prelude.{ℕ, List, ◌++◌, decimal, codes}
use Rattle.std.specs.List.{flat_map}
use Rattle.guest_process.specs.declared.divergence.Divergence.{Divergence}
use Rattle.guest_process.specs.declared.divergence.Divergence.TheVariants as differs
use Rattle.guest_process.specs.declared.verdict.Verdict.{Verdict}
use Rattle.guest_process.specs.declared.verdict.Verdict.TheVariants as said
use Rattle.guest_process.specs.Ends.{end_text}
use Rattle.group_state.specs.declared.report.ReportLine.{ReportLine}
use Rattle.group_state.specs.declared.tally.GroupCounts.{GroupCounts}

-- a divergence by its number and name
abbrev pub divergence_text : Divergence → List ℕ
divergence_text differs.AfterEnd = codes "1 AfterEnd"
divergence_text differs.NoThread = codes "2 NoThread"
divergence_text differs.OtherCall = codes "3 OtherCall"
divergence_text differs.OtherArguments = codes "4 OtherArguments"
divergence_text differs.OtherBytes = codes "5 OtherBytes"
divergence_text differs.OtherReply = codes "6 OtherReply"
divergence_text differs.NoHandler = codes "7 NoHandler"
divergence_text differs.OtherClock = codes "8 OtherClock"

abbrev pub verdict_text : Verdict → List ℕ
verdict_text said.Whole = codes "log whole"
verdict_text (said.Left bytes) = decimal bytes ++ codes " bytes left over"
verdict_text (said.Diverged at why) = codes "diverged at " ++ (decimal at ++ (codes ": " ++ divergence_text why))

-- the line of a log
abbrev pub report_line_text : ReportLine → List ℕ
report_line_text line =
    line.name ++ (codes ": " ++ (decimal line.events ++ (codes " events, "
    ++ (end_text line.end ++ (codes ", " ++ (verdict_text line.verdict ++ codes "\n"))))))

-- what the events of the group's logs say of datagrams
abbrev pub group_text : GroupCounts → List ℕ
group_text c =
    codes "group: " ++ ((decimal c.sends ++ codes " sends, ") ++ ((decimal c.receives ++ codes " receives, ")
    ++ ((decimal c.unmatched ++ codes " unmatched, ") ++ (decimal c.untagged ++ codes " untagged\n"))))

-- a line for each log, and the counts
abbrev pub report_text : List ReportLine → GroupCounts → List ℕ
report_text lines counts = flat_map report_line_text lines ++ group_text counts
