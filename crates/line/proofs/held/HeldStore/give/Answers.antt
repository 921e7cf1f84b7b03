use Rattle.line.proofs.Bounding.{parcel_bound}
use Rattle.line.proofs.held.HeldStore.give.Goals as goal

pub returns-clause-bound : goal.returns-clause-bound
returns-clause-bound c = parcel_bound c.take_first.new.self c.take_all.new.self c.take_first.ensures.within
