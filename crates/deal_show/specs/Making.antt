-- What the outputs of a transaction are of, as code has it.
use Rattle.std.specs.Prelude.{ℕ, List, [], Option}
use Rattle.std.specs.Option.{option_map_or}
use Rattle.spec_terms.specs.Term as term
use Rattle.spec_terms.specs.Core.{core, reveals_of}
use Rattle.spec_terms.specs.declared.path.PathStep.{PathStep}
use Rattle.spec_show.specs.Made as spec
use Rattle.deal_show.specs.declared.made.Made.{Made}
use Rattle.deal_show.specs.declared.made.Made.TheVariants.{GoesOn, Paid}

abbrev pub made_in : Made → spec.Made
made_in (GoesOn position) = spec.goes_on position
made_in (Paid party) = spec.paid party

-- by the branch at a path, if there is one
abbrev pub made_at : List PathStep → Option term.Guarded → List spec.Made
made_at path b = option_map_or (λ b. spec.core_made path (core b)) b []

abbrev pub revealed_at : Option term.Guarded → List (List ℕ)
revealed_at b = option_map_or (λ b. reveals_of (core b)) b []
