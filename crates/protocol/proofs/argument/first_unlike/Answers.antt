use Rattle.std.proofs.Common.{rules, tests}
use Rattle.std.proofs.lemmas.Iterator.{YieldsList-from_slice, YieldsList-from_zip}
use Rattle.std.proofs.lemmas.Iterator.Search.{position_from_yields_List}
use Rattle.protocol.proofs.Pairs.{differs, judged}
use Rattle.protocol.proofs.argument.first_unlike.Goals as goal

pub returns : goal.returns
returns g c same =
    judged c.args.signature.now c.args.args.now same c.position.result
    (position_from_yields_List {s = c.zip.result} differs c.position.new.self _ c.position.result c.position.ensures.ran
    (YieldsList-from_zip (YieldsList-from_slice c.args.args.now cc) (YieldsList-from_slice c.args.signature.now cc)) (λ x b q k. search (rules, tests)))
