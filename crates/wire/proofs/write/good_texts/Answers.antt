use Rattle.std.proofs.Common.{pos, refl, rules}
use Rattle.std.proofs.lemmas.List.Recursion.{and_is}
use Rattle.protocol.specs.declared.argument.Argument.TheVariants.{Int}
use Rattle.wire.specs.Write.{good_text, good_texts}
use Rattle.wire.proofs.write.good_texts.Goals as goal

pub returns : goal.returns
returns c = and_is (good_texts c.args.text.now) (good_text c.args.text.now) refl (λ _ _. refl) c.args.args.now (Int (pos 0)) _ (search rules) (search rules)
