use Rattle.std.proofs.Common.{sym}
use Rattle.byte_streams.specs.Meanings.{piece_of}
use Rattle.byte_streams.proofs.StreamsSteps.{receive_covering, receive_outside, receive_elsewhere}
use Rattle.byte_streams.proofs.streams.Streams.add_received.Goals.{then-not-is_within-via-then-not-is_within, then-not-is_within-via-else-not-is_within+then-not-cover}
use Rattle.byte_streams.proofs.KeptAfterReceive.{received_plain}
use Rattle.byte_streams.proofs.streams.Streams.add_received.Goals as goal

pub returns-in_default : goal.returns-in_default
returns-in_default c = λ early h. received_plain c.args.self.now _ early (sym c.in_default.ensures.value) h

pub returns-then-not-is_within : goal.returns-then-not-is_within
returns-then-not-is_within c = elim c.then-not-is_within.branch [
  | then-not-is_within-via-then-not-is_within w ↦
      receive_outside c.self.inside.streams c.self.inside.streams c.self.inside.sends c.args.self.now c.self.view_is (piece_of c.in-Some.chunk)
      (record { by = c.args.by; tag = c.args.tag; payload = c.args.payload.now }) c.in-Some.ensures.value c.is_within.result c.is_within.ensures
      c.then-not-is_within.self w.self-is w.if-not-is_within.true
  | then-not-is_within-via-else-not-is_within+then-not-cover w ↦
      receive_elsewhere c.self.inside.streams w.cover.new.self c.self.inside.sends c.args.self.now c.self.view_is (piece_of c.in-Some.chunk)
      (record { by = c.args.by; tag = c.args.tag; payload = c.args.payload.now }) c.in-Some.ensures.value c.is_within.result c.is_within.ensures
      w.cover.result w.cover.ensures.stands w.cover.ensures.streams c.then-not-is_within.self w.self-is w.if-not-cover.true
]

pub returns : goal.returns
returns c =
    receive_covering c.self.inside.streams c.cover.new.self c.self.inside.sends c.args.self.now c.self.view_is (piece_of c.in-Some.chunk)
    (record { by = c.args.by; tag = c.args.tag; payload = c.args.payload.now }) c.in-Some.ensures.value c.is_within.result c.is_within.ensures
    c.cover.result c.cover.ensures.stands c.cover.ensures.streams c.if-not-is_within.false c.if-not-cover.false
