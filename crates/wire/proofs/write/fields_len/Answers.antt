use Rattle.std.proofs.Common.{◌≡◌, ℕ, ◌+◌, ◌-◌, ◌^◌, ◌≤◌, min, map, List, [], ◌∷◌, ◌∙◌, arith, rules}
use Rattle.std.proofs.lemmas.Iterator.{YieldsList-from_slice, YieldsList-from_map}
use Rattle.std.proofs.lemmas.Iterator.Consumers.{YieldsList-at, fold_from_yields_List}
use Rattle.std.specs.List.{fold}
use Rattle.protocol.specs.declared.argument.Argument.{Argument}
use Rattle.protocol.specs.declared.fd.RawFd.{RawFd}
use Rattle.wire.specs.Records.{field_length, fields_length}
use Rattle.wire.proofs.write.fields_len.Goals as goal

folded : (n : ℕ) (xs : List (Argument RawFd)) → n ≤ 2 ^ 64 - 1 → fold (λ a x. min (a + x) (2 ^ 64 - 1)) n (map (λ a. min (field_length a) (2 ^ 64 - 1)) xs) ≡ min (n + fields_length xs) (2 ^ 64 - 1)
folded n [] h = omega arith
folded n (a ∷ xs) h = folded (min (n + min (field_length a) (2 ^ 64 - 1)) (2 ^ 64 - 1)) xs (omega arith) ∙ omega arith

pub returns : goal.returns
returns c =
    fold_from_yields_List _ (λ a x. min (a + x) (2 ^ 64 - 1)) 0 c.fold.result c.fold.ensures.ran
    (YieldsList-from_map _ (λ (a : Argument RawFd). min (field_length a) (2 ^ 64 - 1)) (YieldsList-at c.map.ensures.source (YieldsList-from_slice c.args.args.now cc)) c.map.ensures.closure (λ x r q k. search rules))
    (λ a x b q k. search rules)
    ∙ folded 0 c.args.args.now (omega arith)
    ∙ omega arith
