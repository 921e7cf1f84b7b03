use Rattle.std.proofs.Common.{List, ℕ, [], ◌∷◌, ◌++◌, take, drop, sym, ap, ◌∙◌, append-nil, arith}
use Rattle.protocol.specs.declared.argument.Argument.{Argument}
use Rattle.protocol.specs.declared.fd.RawFd.{RawFd}
use Rattle.wire.specs.Frame.{block, field, overlay}
use Rattle.wire.specs.Records.{value_of}
use Rattle.wire.proofs.write.put_argument.Goals as goal

-- the field of an argument, as a function of the argument alone
abbrev laid_as : List ℕ → List ℕ → Argument RawFd → List ℕ
laid_as text p a = overlay (field (value_of text a)) p

pub returns-in-Str-clause-laid : goal.returns-in-Str-clause-laid
returns-in-Str-clause-laid c =
    c.put_block.ensures
    ∙ ap (λ (n : ℕ). overlay (block (take n (drop c.in-Str.t.place c.args.text.now) ++ 0 ∷ [])) c.args.out.now) (omega arith)
    ∙ sym (ap (laid_as c.args.text.now c.args.out.now) c.in-Str.is)

pub returns-in-Array-clause-laid : goal.returns-in-Array-clause-laid
returns-in-Array-clause-laid c =
    c.put_block-in-Array.ensures
    ∙ ap (λ (bs : List ℕ). overlay (block bs) c.args.out.now) (append-nil _)
    ∙ ap (λ (n : ℕ). overlay (block (take n (drop c.in-Array.t.place c.args.text.now))) c.args.out.now) (omega arith)
    ∙ sym (ap (laid_as c.args.text.now c.args.out.now) c.in-Array.is)
