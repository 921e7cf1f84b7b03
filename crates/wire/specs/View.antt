-- The argument view as a value.
use Rattle.protocol.specs.declared.fd.OwnedFd.{OwnedFd}
use Rattle.wire.specs.declared.view.ArgumentView.{ArgumentView}
use Rattle.wire.specs.declared.view.ArgumentView.TheVariants as view
use Rattle.wire.specs.Values.{Value, int, uint, fixed, string, null, object, new_id, array, descriptor}

-- what a view shows
abbrev pub shown : ArgumentView → Value OwnedFd
shown (view.Int z) = int z
shown (view.Uint n) = uint n
shown (view.Fixed z) = fixed z
shown (view.Str bs) = string bs.now
shown view.NullStr = null
shown (view.Object n) = object n
shown (view.NewId n) = new_id n
shown (view.Array bs) = array bs.now
shown (view.Fd x) = descriptor x
