use Rattle.std.proofs.Common.{rules}
use Rattle.std.specs.Slice.Iter.{iter_rest}
use Rattle.quicklook.proofs.First.{found}
use Rattle.quicklook.proofs.story.picture_in.Goals as goal

pub returns : goal.returns
returns c = found _ _ iter_rest c.iter.result c.args.records.now c.find_map.result (λ x r q k. search rules) c.iter.ensures.runs c.iter.ensures.rest c.find_map.ensures.runs
