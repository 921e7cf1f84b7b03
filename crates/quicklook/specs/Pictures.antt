-- The picture of a message is the first of the descriptors that came with it.
use Rattle.std.specs.Prelude.{ℕ, List, [], ◌∷◌, Some, None, Option}
use Rattle.protocol.specs.declared.fd.OwnedFd.{OwnedFd}

abbrev pub first : List OwnedFd → Option ℕ
first [] = None
first (fd ∷ fds) = Some fd.0
