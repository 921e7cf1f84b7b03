-- The message `show` of an exposure: frame number, filter, label, thumbnail and picture, in this order.
use Rattle.std.specs.Prelude.{List, [], ◌∷◌, map, vec_items}
use Rattle.protocol.specs.declared.fd.RawFd.{RawFd}
use Rattle.wire.specs.Records.{value_of}
use Rattle.wire.specs.Values.{Value, uint, string, array, descriptor}
use Rattle.quicklook.specs.declared.draft.Draft.{Draft}
use Rattle.quicklook.specs.declared.draft.Exposure.{Exposure}

abbrev pub told : Exposure → List (Value RawFd)
told e = uint e.number ∷ string e.filter.now ∷ string e.label.now ∷ array e.thumbnail.now ∷ descriptor e.picture ∷ []

-- what the arguments of a draft say
abbrev pub drafted : Draft → List (Value RawFd)
drafted d = map (value_of (vec_items d.text)) (vec_items d.args)
