-- The event of a line by its first word, one of the last six.
use Rattle.std.specs.Prelude.{None, if◌then◌else◌, codes, ℕ, List}
use Rattle.std.specs.Str.{bytes_eq}
use Rattle.spec_run.specs.declared.event.Event.TheVariants as events
use Rattle.spec_text.specs.EventLines.{LineReader, bytes_event, sign, give, fire, mine}

abbrev pub other_event_by : List ℕ → LineReader
other_event_by word parties words =
    if bytes_eq word (codes "post") then bytes_event events.Post parties words
    else if bytes_eq word (codes "sign") then sign parties words
    else if bytes_eq word (codes "give") then give parties words
    else if bytes_eq word (codes "append") then bytes_event events.Append parties words
    else if bytes_eq word (codes "fire") then fire parties words
    else if bytes_eq word (codes "mine") then mine parties words
    else None
