-- What a reader has left of its text.
use Rattle.std.specs.Prelude.{List, Result}
use Rattle.event.specs.declared.Event.{Event}
use Rattle.trace.specs.declared.Misread.{Misread}
use Rattle.trace_reader.specs.declared.TraceReader.{TraceReader}
use Rattle.trace_reader.specs.Readings.{readings_from}

abbrev pub readings_left : TraceReader → List (Result Event Misread)
readings_left reader = readings_from reader.text.now reader.at
