-- What the host of a line sees of it.
use Rattle.std.specs.Prelude.{ℕ, List, length, Option}
use Rattle.std.specs.List.{slice_get}
use Rattle.std.specs.Option.{option_map}
use Rattle.line.specs.Line.{Cell, State}
use Rattle.line.specs.declared.view.CellView.{CellView}
use Rattle.line.specs.declared.view.LineView.{LineView}

abbrev pub line_seen : State → LineView
line_seen s = record { waiting = length s.cells; window = s.window; shut = s.shut }

abbrev pub seen : Cell → CellView
seen c = record { byte = c.byte; fds = length c.fds }

-- the cell at a place, if there is one
abbrev pub seen_at : List Cell → ℕ → Option CellView
seen_at cells place = option_map seen (slice_get cells place)
