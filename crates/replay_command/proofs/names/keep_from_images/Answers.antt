use Rattle.std.proofs.Common.{◌≡◌, ◌∙◌, ap, map, string_bytes, sym}
use Rattle.log_pairs.specs.Meanings.{pair_of}
use Rattle.log_pairs.specs.Pairs.{names_of_pairs}
use Rattle.replay_command.specs.Report.{images_in}
use Rattle.replay_command.proofs.names.keep_from_images.Goals as goal

pub returns-clause-answer : goal.returns-clause-answer
returns-clause-answer c =
    let read : map (λ file. file.now) c.deref.result.now ≡ names_of_pairs (map pair_of c.args.pairs.now) = ap (map (λ file. file.now)) c.deref.ensures.value ∙ c.in_ok-read.ensures in
    let made : map string_bytes c.deref-2.result.now ≡ map (λ file. file.0) (images_in c.args.replayers.now) = ap (map string_bytes) c.deref-2.ensures.value ∙ c.in_ok-made.ensures in
    rw (sym read, sym made) c.keep_apart.ensures.answer
