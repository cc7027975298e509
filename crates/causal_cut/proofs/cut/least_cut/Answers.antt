use Rattle.std.proofs.Common.{◌≡◌, ◌∙◌, ◌≤◌, ◌<◌, List, ap, arith, get_or, length, subst}
use Rattle.std.proofs.lemmas.List.{length-map}
use Rattle.std.proofs.lemmas.Option.{get_or_from_slice_get, slice_get-get_or}
use Rattle.proc_replay.specs.Course.{entries_ahead}
use Rattle.proc_replay.specs.Replaying.{Replaying}
use Rattle.group_state.specs.Place.{GroupPlace}
use Rattle.causal_cut.specs.declared.asks.Ask.{Ask}
use Rattle.causal_cut.specs.inside.Asks.{AreAsks, lengths_of_one, settled_family}
use Rattle.causal_cut.specs.Past.{accepted_counts}
use Rattle.causal_cut.proofs.Families.{at}
use Rattle.causal_cut.proofs.SettledIsLeast.{answered, is_least}
use Rattle.causal_cut.proofs.cut.least_cut.Goals as goal

pub returns-clause-answer : goal.returns-clause-answer
returns-clause-answer c =
    let start = c.args.replayers.items in
    let asks = c.in_ok-walked.walked.asks.items in
    let counts = c.in_ok-walked.walked.counts.items in
    let begun : c.in_ok-group.group.start ≡ start = ap (λ (p : GroupPlace). p.start) c.in_ok-group.ensures in
    let are : AreAsks start asks = subst (λ (rs : List Replaying). AreAsks rs asks) begun c.in_ok-walked.ensures.asks in
    let counted : counts ≡ accepted_counts start = c.in_ok-walked.ensures.counts ∙ ap accepted_counts begun in
    let within : c.args.node < length counts = omega (arith, c.requires.node, ap length counted, length-map start (λ (r : Replaying). length (entries_ahead r))) in
    let there : at counts c.args.node ≡ get_or counts c.args.node c.index.result.now =
    get_or_from_slice_get counts c.args.node _ 0 (slice_get-get_or counts c.args.node c.index.result.now within) in
    let most : c.args.event ≤ at counts c.args.node = omega (arith, c.if-event-index.false, c.index.ensures, there) in
    let nodes : c.len.result ≡ length counts = c.len.ensures ∙ c.in_ok-walked.walked.counts.ok.0 in
    let kept : c.in_ok-kept.kept.items ≡ settled_family asks (lengths_of_one (length counts) c.args.node c.args.event) =
    c.in_ok-kept.ensures ∙ ap (λ (l : List Ask). settled_family l (lengths_of_one c.len.result c.args.node c.args.event)) c.deref-3.ensures.value
    ∙ ap (λ n. settled_family asks (lengths_of_one n c.args.node c.args.event)) nodes in
    answered start asks counts c.in_ok-kept.kept.items c.args.node c.args.event are counted c.requires.node most kept

pub returns-clause-least : goal.returns-clause-least
returns-clause-least c =
    let start = c.args.replayers.items in
    let asks = c.in_ok-walked.walked.asks.items in
    let counts = c.in_ok-walked.walked.counts.items in
    let begun : c.in_ok-group.group.start ≡ start = ap (λ (p : GroupPlace). p.start) c.in_ok-group.ensures in
    let are : AreAsks start asks = subst (λ (rs : List Replaying). AreAsks rs asks) begun c.in_ok-walked.ensures.asks in
    let counted : counts ≡ accepted_counts start = c.in_ok-walked.ensures.counts ∙ ap accepted_counts begun in
    let within : c.args.node < length counts = omega (arith, c.requires.node, ap length counted, length-map start (λ (r : Replaying). length (entries_ahead r))) in
    let there : at counts c.args.node ≡ get_or counts c.args.node c.index.result.now =
    get_or_from_slice_get counts c.args.node _ 0 (slice_get-get_or counts c.args.node c.index.result.now within) in
    let most : c.args.event ≤ at counts c.args.node = omega (arith, c.if-event-index.false, c.index.ensures, there) in
    let nodes : c.len.result ≡ length counts = c.len.ensures ∙ c.in_ok-walked.walked.counts.ok.0 in
    let kept : c.in_ok-kept.kept.items ≡ settled_family asks (lengths_of_one (length counts) c.args.node c.args.event) =
    c.in_ok-kept.ensures ∙ ap (λ (l : List Ask). settled_family l (lengths_of_one c.len.result c.args.node c.args.event)) c.deref-3.ensures.value
    ∙ ap (λ n. settled_family asks (lengths_of_one n c.args.node c.args.event)) nodes in
    is_least start asks counts c.in_ok-kept.kept.items c.args.node c.args.event are counted c.requires.node most kept
