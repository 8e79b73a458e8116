-- The entries of a run, by its records and the steps of each.
use Rattle.std.specs.Prelude.{List, [], ◌∷◌}
use Rattle.spec_calculus.specs.declared.step.Step.{Step}
use Rattle.spec_run.specs.declared.outcome.Record.{Record}
use Rattle.spec_text.specs.declared.entry.Entry.{Entry}

abbrev pub entry_by : Record → List Step → Entry
entry_by r steps = record { event = r.event; outcome = r.outcome; steps = steps }

abbrev pub entries_by : List Record → List (List Step) → List Entry
entries_by [] steps = []
entries_by (r ∷ rs) [] = []
entries_by (r ∷ rs) (steps ∷ later) = entry_by r steps ∷ entries_by rs later
