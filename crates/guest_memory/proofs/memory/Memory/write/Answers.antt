use Rattle.guest_memory.proofs.PageRanges.{few-bytes}
use Rattle.guest_memory.proofs.memory.Memory.write.Goals as goal

pub put_all-requires-clause-few : goal.put_all-requires-clause-few
put_all-requires-clause-few c = rw c.deref_mut.ensures.value (few-bytes c.self.inside.pages.items c.self.inside.max c.self.invariant.whole c.self.invariant.within c.self.invariant.most)
