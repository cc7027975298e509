use Rattle.std.proofs.Common.{◌∙◌, refl, sym}
use Rattle.std.proofs.lemmas.Result.{err_from_is_err_and}
use Rattle.group_record.specs.inside.Recorded.{item_acts, after_act}
use Rattle.group_record.specs.Run.{after_item}
use Rattle.group_record.proofs.RecorderCounts.{counted_other, few_other}
use Rattle.group_record.proofs.GroupRunStops.{item_leads}
use Rattle.group_record.proofs.RecorderSteps.{acted_prints, is_other, item_comes, memory_stops, world_size}
use Rattle.group_record.proofs.recorder.Recorder.perform.Goals as goal

pub act-requires : goal.act-requires
act-requires g c =
    let u = c.requires.under_way in
    record { around = world_size c.by_counting.ensures.counted u.group u.done c.args.self.now u.keeps ∙ sym u.keeps.count; in_range = c.requires.in_range; few = few_other c.args.self.now c.args.item.now (is_other c.args.item.now c.in_default.not-Run).1 c.requires.few }

pub returns-in_err-act-in_default : goal.returns-in_err-act-in_default
returns-in_err-act-in_default g c =
    let p = err_from_is_err_and c.from_residual.result c.from_residual.ensures.1 in
    record {
      comes = λ group done before keeps files.
          rw (p.1, p.2) (memory_stops group done (after_item group c.args.number c.args.item.now done) c.args.self.now before (g.F.Files.told c.args.files.now) (item_leads group c.args.number c.args.item.now done) files);
      total = rw p.1 tt;
      prints = rw p.1 tt;
      counted = rw (p.1, p.2) refl;
    }

pub returns-in_ok-act-in_default : goal.returns-in_ok-act-in_default
returns-in_ok-act-in_default g c = record {
  comes = λ group done before keeps files.
      item_comes c.by_counting.ensures.counted group done before (g.F.Files.told c.args.files.now) c.args.self.now c.act.new.self c.args.number c.args.item.now keeps files c.requires.in_range
      (is_other c.args.item.now c.in_default.not-Run).0 c.in_ok-act-in_default.ensures;
  total = counted_other (item_acts c.args.self.now.members.items c.args.self.now.world c.args.item.now) (after_act c.args.self.now.members.items c.args.self.now.world c.args.item.now) c.args.self.now c.act.new.self c.args.item.now
      (is_other c.args.item.now c.in_default.not-Run).1 c.in_ok-act-in_default.ensures;
  prints = acted_prints (item_acts c.args.self.now.members.items c.args.self.now.world c.args.item.now) (after_act c.args.self.now.members.items c.args.self.now.world c.args.item.now) c.args.self.now c.act.new.self c.in_ok-act-in_default.ensures;
  counted = refl;
}
