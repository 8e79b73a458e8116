-- What is printed of a compiled contract with its numbered nodes, and of a run in numbers.
use Rattle.std.specs.Prelude.{ℕ, List, [], ◌∷◌, ◌++◌, length, Option, Some, None, codes}
use Rattle.std.specs.Fmt.{decimal}
use Rattle.spec_terms.specs.Advert.{Advert}
use Rattle.spec_compiler.specs.Compilation.{Compilation}
use Rattle.spec_calculus.specs.Configuration.{Configuration}
use Rattle.spec_text.specs.RunText.{newline}
use Rattle.spec_text.specs.PlanText.{compiled_text, count_line}
use Rattle.spec_tool.specs.WeighText.{bracketed, object, transaction_values, named_all}
use Rattle.bm_compile.specs.Numbered.{Numbered}
use Rattle.bm_plan.specs.Listed.{listed_weights}

-- without the nodes
abbrev pub compilation_of : Numbered → Compilation
compilation_of c = record { init = c.init; paths = c.paths; scripts = c.scripts }

-- what `plan` prints of a contract, compiled or not
abbrev pub plan_told : Option Numbered → List ℕ
plan_told None = codes "contract 0 not compiled" ++ newline
plan_told (Some c) = compiled_text (compilation_of c)

-- how many events and steps a run has, and what is there at its end
abbrev pub numbers_told : ℕ → ℕ → Configuration → ℕ → List ℕ
numbers_told events steps g value =
    count_line (codes "events") events
    ++ (count_line (codes "steps") steps
    ++ (count_line (codes "deposits") (length g.deposits)
    ++ (count_line (codes "contracts") (length g.active)
    ++ count_line (codes "value") value)))

-- ---- with weights

-- none where the contract isn't compiled
abbrev pub listed_values : Advert → Option Numbered → List (List ℕ)
listed_values advert None = []
listed_values advert (Some c) = transaction_values (named_all (compilation_of c)) (listed_weights advert c.init c.paths c.scripts)

-- a contract, compiled or not, as one JSON object
abbrev pub weigh_plan : Advert → Option Numbered → List ℕ
weigh_plan advert c = object ((codes "contract", decimal 0) ∷ ((codes "transactions", bracketed (listed_values advert c)) ∷ []))

-- what `weigh` prints of it
abbrev pub weigh_told : Advert → Option Numbered → List ℕ
weigh_told advert c = weigh_plan advert c ++ newline
