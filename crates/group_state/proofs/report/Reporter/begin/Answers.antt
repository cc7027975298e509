use Rattle.std.proofs.Common.{◌∙◌, ap, length, subst, sym}
use Rattle.group_state.specs.Place.{ReplaysFit, group_count}
use Rattle.group_state.specs.inside.Tallying.{nothing_tallied}
use Rattle.group_state.proofs.AheadInOrder.{few_events}
use Rattle.group_state.proofs.LogReports.{IsBegun, course_begun, reporting_begun}
use Rattle.group_state.proofs.report.Reporter.begin.Goals as goal

begun : (c : goal.After-new) → IsBegun c.args.replayers.items (record { left = c.into_iter.result; tally = c.new-tally.result; lines = c.new.result })
begun c = record {
  left = c.into_iter.ensures.rest;
  len = c.into_iter.ensures.len ∙ c.args.replayers.ok.0 ∙ ap length (sym c.into_iter.ensures.rest);
  tally = c.new-tally.ensures ∙ ap nothing_tallied (c.group_count.ensures ∙ ap group_count c.deref-2.ensures.value);
  lines = c.new.ensures.items;
}

pub invariant_of-result : goal.invariant_of-result
invariant_of-result c =
    course_begun c.finds_one_more.ensures c.rises.ensures c.states_fit.ensures.ranges c.args.replayers.items _ (begun c) c.requires
    (subst ReplaysFit c.deref.ensures.value c.replayers_fit.ensures) (few_events c.replays.ensures.turn c.args.replayers.items c.requires.within c.requires.few)

pub returns : goal.returns
returns c =
    reporting_begun c.finds_one_more.ensures c.rises.ensures c.states_fit.ensures.ranges c.args.replayers.items _ (begun c) c.requires
    (subst ReplaysFit c.deref.ensures.value c.replayers_fit.ensures)
