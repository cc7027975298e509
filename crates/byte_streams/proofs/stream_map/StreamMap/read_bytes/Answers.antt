use Rattle.std.proofs.Common.{List, ℕ, Bor, None, Some, ap, sym, ◌∙◌, option_map}
use Rattle.byte_streams.specs.Lines.{read_of}
use Rattle.byte_streams.proofs.TreeMaps.{by_stream_exact, get-seen}
use Rattle.byte_streams.proofs.stream_map.StreamMap.read_bytes.Goals as goal

pub returns-in_err-get : goal.returns-in_err-get
returns-in_err-get c =
    ap (option_map (λ (bytes : Bor (List ℕ)). bytes.now)) c.from_residual.ensures
    ∙ ap (option_map read_of)
    (sym (get-seen by_stream_exact c.self.inside.streams.entries c.args.self.now _ None c.self.view_is c.in_err-get.ensures.value))

pub returns : goal.returns
returns c =
    ap Some c.read_bytes.ensures
    ∙ ap (option_map read_of)
    (sym (get-seen by_stream_exact c.self.inside.streams.entries c.args.self.now _ (Some c.in_ok-get.field-0.now) c.self.view_is c.in_ok-get.ensures.value))
