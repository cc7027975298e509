use Rattle.std.proofs.Common.{sym}
use Rattle.byte_streams.specs.Meanings.{piece_of}
use Rattle.byte_streams.proofs.KeptAfterSend.{sent_plain}
use Rattle.byte_streams.proofs.StreamsSteps.{counting_send, strange_send}
use Rattle.byte_streams.proofs.streams.Streams.add_sent.Goals as goal

pub returns-in_default : goal.returns-in_default
returns-in_default c = λ early h. sent_plain c.args.self.now _ early (sym c.in_default.ensures.value) h

pub returns-then-not-branch : goal.returns-then-not-branch
returns-then-not-branch c =
    strange_send c.self.inside.streams c.write.new.self c.self.inside.sends c.args.self.now c.self.view_is (piece_of c.in-Some.chunk)
    (record { from = c.args.from; clock = c.args.clock; to = c.args.to; payload = c.args.payload.now }) c.in_ok-write.field-0 c.in-Some.ensures.value
    c.in_ok-write.ensures.counts c.in_ok-write.ensures.streams c.if-not-branch.true

pub returns : goal.returns
returns c =
    counting_send c.self.inside.streams c.write.new.self c.self.inside.sends c.args.self.now c.self.view_is (piece_of c.in-Some.chunk)
    (record { from = c.args.from; clock = c.args.clock; to = c.args.to; payload = c.args.payload.now }) c.in_ok-write.field-0 c.in-Some.ensures.value
    c.in_ok-write.ensures.counts c.in_ok-write.ensures.streams c.add.new.self c.if-not-branch.false c.in_ok-add.ensures
