-- The lines that refuse a line of a play.
use Rattle.std.specs.Prelude.{ℕ, List, codes}
use Rattle.shell_lines.specs.Refusals.{refusal_line}
use Rattle.play_lines.specs.declared.refusal.PlayRefusal.{PlayRefusal}
use Rattle.play_lines.specs.declared.refusal.PlayRefusal.TheVariants as refusal

abbrev pub play_refusal_line : PlayRefusal → List ℕ
play_refusal_line (refusal.AsLine why) = refusal_line why
play_refusal_line refusal.BadItem = codes "? 10 bad item\n"
play_refusal_line refusal.TooManyTries = codes "? 11 too many tries\n"
play_refusal_line refusal.Full = codes "? 12 full\n"
