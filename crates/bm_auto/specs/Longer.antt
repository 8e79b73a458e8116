-- A run with more events behind its own.
use Rattle.std.specs.Prelude.{List, ◌++◌}
use Rattle.spec_run.specs.declared.event.Event.{Event}
use Rattle.spec_run.specs.declared.event.Run.{Run}
use Rattle.spec_run.specs.declared.header.Header.{Header}

abbrev pub longer : Header → List Event → List Event → Run
longer header events more = record { header = header; events = events ++ more }
