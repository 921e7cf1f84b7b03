use Rattle.std.proofs.Common.{List, Iter, sym, ap, ◌∙◌, subst}
use Rattle.std.proofs.lemmas.Fn.{fronts}
use Rattle.std.proofs.lemmas.Iterator.{YieldsList, YieldsList-from_slice}
use Rattle.std.proofs.lemmas.Iterator.Consumers.{YieldsList-from_chain}
use Rattle.std.specs.Iterator.Adapters.{chain_steps}
use Rattle.line.proofs.queue.Queue.iter.Goals as goal

pub returns : goal.returns
returns g c =
    subst (λ (xs : List g.row.T.Denot). YieldsList (chain_steps fronts fronts) (λ x. x.now) c.chain.result xs) (sym c.parts.ensures)
    (YieldsList-from_chain (YieldsList-from_slice c.parts.result.0.now (ap (λ (i : Iter g.row.T.Denot). i.rest.now) c.chain.ensures.first ∙ c.iter.ensures.rest))
    (YieldsList-from_slice c.parts.result.1.now c.chain.ensures.second.0) c.chain.ensures.first_done c.chain.ensures.second_done)
