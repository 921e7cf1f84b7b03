use Rattle.line.proofs.Bounding.{parcel_bound}
use Rattle.line.proofs.held.HeldStore.put.Goals as goal

pub returns-clause-bound : goal.returns-clause-bound
returns-clause-bound c = parcel_bound c.put.new.self c.put-2.new.self c.put.ensures.within
