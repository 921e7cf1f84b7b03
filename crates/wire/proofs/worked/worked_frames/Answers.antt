use Rattle.wire.proofs.Working as working
use Rattle.wire.proofs.worked.worked_frames.Goals as goal

pub returns : goal.returns
returns c = working.worked_frames
