use Rattle.wasm_store.proofs.StoreMarks.{follow, grown, same, set, written}
use Rattle.wasm_store.proofs.laws.marked.Goals as goal

pub returns-clause-set : goal.returns-clause-set
returns-clause-set c = set

pub returns-clause-grown : goal.returns-clause-grown
returns-clause-grown c = grown c.stamps_no_later.ensures.grown c.stamps_tell.ensures.grown

pub returns-clause-written : goal.returns-clause-written
returns-clause-written c = written c.stamps_no_later.ensures.written c.stamps_tell.ensures.written c.stamps_tell.ensures.pages

pub returns-clause-nothing : goal.returns-clause-nothing
returns-clause-nothing c = same

pub returns-clause-follow : goal.returns-clause-follow
returns-clause-follow c = follow
