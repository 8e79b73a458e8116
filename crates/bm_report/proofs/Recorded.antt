-- Entries by records and steps.
use Rattle.std.proofs.Common.{◌≡◌, suc, List, [], ◌∷◌, length, refl, ap, arith}
use Rattle.spec_calculus.specs.declared.step.Step.{Step}
use Rattle.spec_run.specs.declared.outcome.Record.{Record}
use Rattle.bm_report.specs.Entries.{entries_by}

-- there is one for each record
pub length-entries_by : (rs : List Record) (ss : List (List Step)) → length ss ≡ length rs → length (entries_by rs ss) ≡ length rs
length-entries_by [] ss h = refl
length-entries_by (r ∷ rs) [] h = cc
length-entries_by (r ∷ rs) (s ∷ ss) h = ap suc (length-entries_by rs ss (omega (arith, h)))
