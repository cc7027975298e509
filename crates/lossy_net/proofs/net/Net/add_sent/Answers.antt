use Rattle.std.proofs.Common.{rules, arith, length-set}
use Rattle.lossy_net.specs.Network.{Sent}
use Rattle.lossy_net.proofs.SentLemmas.{IsAddressed-added}
use Rattle.lossy_net.proofs.net.Net.add_sent.Goals as goal

-- the traffic of the sender has one more datagram, which is for a process of the group, or is as before
pub invariant_of-self : goal.invariant_of-self
invariant_of-self c =
    let net = c.self.inside.endpoints.items in
    let last : Sent = record { to = c.args.to; bytes = c.in_ok-bytes.bytes } in
    (grind (arith, length-set), IsAddressed-added net c.args.p c.index_mut.result.now c.add_sent.new.self last c.add_sent.result (search rules) (search rules) c.index_mut.ensures.value c.add_sent.ensures.ok c.add_sent.ensures.err c.self.invariant.1)
