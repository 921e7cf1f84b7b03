-- The four numbers of a link, as the code has them. Definitions take them from a record, so that another link may have others.
use Rattle.protocol.specs.declared.limits.Limits.{Limits}

abbrev pub limits : Limits
limits = record { descriptors = 28; bytes = 4096; arguments = 20; incoming = 4096 }
