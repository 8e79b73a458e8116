-- Kinds of events.
use Rattle.spec_run.specs.declared.event.Event.{Event}
use Rattle.spec_run.specs.declared.event.Event.TheVariants as events

-- it commits nothing
abbrev pub IsNoCommit : Event → Type 0
IsNoCommit (events.Commit contract party digests) = ⊥
IsNoCommit _ = Unit {0}
