use Rattle.std.proofs.Common.{◌<◌, ◌≤◌, length, List, ap, subst, sym, ◌∙◌, refl, arith, rules}
use Rattle.std.specs.Prelude.{option_map}
use Rattle.lossy_net.specs.Network.{Sent, Traffic, sent_by}
use Rattle.lossy_net.proofs.SentLemmas.{found_is_for, found_is_within}
use Rattle.lossy_net.proofs.net.Net.deliver.Goals as goal

-- the datagram's receiver is a process of the group, as that of each that was sent
pub index_mut-requires : goal.index_mut-requires
index_mut-requires c =
    let net = c.self.inside.endpoints.items in
    let found = sym c.nth_sent.ensures ∙ ap (option_map (λ d. d.now)) c.in-Some.is in
    let known : c.datagram.inside.to < length net = subst (λ (d : Sent). d.to < length net) (sym c.datagram.view_is) (found_is_for net c.args.p c.args.n c.index.result.now c.in-Some.datagram.now (search rules) c.index.ensures found c.self.invariant.1) in
    omega (arith, c.self.inside.endpoints.ok.0)

-- the number was one of those of the datagrams
pub returns-clause-found : goal.returns-clause-found
returns-clause-found c =
    let net = c.self.inside.endpoints.items in
    let found = sym c.nth_sent.ensures ∙ ap (option_map (λ d. d.now)) c.in-Some.is in
    let within = found_is_within net c.args.p c.args.n c.index.result.now c.in-Some.datagram.now (search rules) c.index.ensures found in
    (λ _. subst (λ (now : List Traffic). (1 ≤ c.args.n) × (c.args.n ≤ length (sent_by now c.args.p))) c.self.view_is within, λ _. refl)
