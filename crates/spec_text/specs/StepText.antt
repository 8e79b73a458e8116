-- How the steps of the calculus are printed.
use Rattle.std.specs.Prelude.{ℕ, List, [], ◌++◌, flat_map, map, Option, Some, None, codes}
use Rattle.std.specs.Fmt.{decimal}
use Rattle.spec_calculus.specs.declared.step.Owner.{Owner}
use Rattle.spec_calculus.specs.declared.step.Owner.TheVariants.{Party, Outside}
use Rattle.spec_calculus.specs.declared.step.Step.{Step}
use Rattle.spec_calculus.specs.declared.step.Step.TheVariants as steps
use Rattle.spec_run.specs.declared.outcome.Outcome.{Outcome}
use Rattle.spec_run.specs.declared.outcome.Outcome.TheVariants.{Done, Accepted, Refused}
use Rattle.spec_text.specs.RunText.{newline, output_text, outputs_text, bindings_text, contract_party_text}

abbrev pub owner_text : Owner → List ℕ
owner_text (Party name) = name
owner_text Outside = codes "Outside"

-- ` A v` for each share
abbrev pub owned_text : List (Owner × ℕ) → List ℕ
owned_text ps = flat_map (λ p. codes " " ++ (owner_text p.0 ++ (codes " " ++ decimal p.1))) ps

-- a number, or `none`
abbrev pub length_text : Option ℕ → List ℕ
length_text (Some n) = decimal n
length_text None = codes "none"

-- ` a=N` for each length
abbrev pub lengths_text : List (List ℕ × Option ℕ) → List ℕ
lengths_text ls = flat_map (λ l. codes " " ++ (l.0 ++ (codes "=" ++ length_text l.1))) ls

-- a branch of an output
abbrev pub branch_text : ℕ → ℕ → List ℕ
branch_text n i = output_text n ++ (codes " " ++ decimal i)

-- ` -> #m ..`, the outputs that the event made
abbrev pub leads_text : List ℕ → List ℕ
leads_text made = codes " ->" ++ outputs_text made

-- a step behind the word `step`; these outputs were made by its event
abbrev pub step_words : List ℕ → Step → List ℕ
step_words made (steps.Delay n) = codes "delay " ++ decimal n
step_words made (steps.AuthMove a action) = codes "authmove " ++ a
step_words made (steps.Move action) = codes "move" ++ (outputs_text action.inputs ++ (codes " ->" ++ owned_text action.outputs))
step_words made (steps.Advertise k bs) = codes "advertise " ++ (decimal k ++ bindings_text bs)
step_words made (steps.Commit k a ls) = codes "commit " ++ (contract_party_text k a ++ lengths_text ls)
step_words made (steps.AuthInit k a x) = codes "authinit " ++ (contract_party_text k a ++ (codes " " ++ x))
step_words made (steps.Init k) = codes "init " ++ (decimal k ++ leads_text made)
step_words made (steps.Reveal k a s) = codes "reveal " ++ (contract_party_text k a ++ (codes " " ++ s))
step_words made (steps.AuthBranch a n i) = codes "authbranch " ++ (a ++ (codes " " ++ branch_text n i))
step_words made (steps.PutReveal n i) = codes "putreveal " ++ (branch_text n i ++ leads_text made)
step_words made (steps.Withdraw n i) = codes "withdraw " ++ (branch_text n i ++ leads_text made)
step_words made (steps.Split n i) = codes "split " ++ (branch_text n i ++ leads_text made)

abbrev pub step_line : List ℕ → Step → List ℕ
step_line made s = codes "step " ++ (step_words made s ++ newline)

-- the numbers of the outputs that an event made
abbrev pub made_by : Outcome → List ℕ
made_by Done = []
made_by (Accepted spent made lock) = map (λ m. m.0) made
made_by (Refused r) = []

-- the lines of the steps of an event
abbrev pub step_lines : Outcome → List Step → List ℕ
step_lines outcome ss = flat_map (step_line (made_by outcome)) ss
