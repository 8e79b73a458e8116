-- Lines of what is missing: each once, and one line for all parties that lack the same.
use Rattle.std.specs.Prelude.{ℕ, ◌==◌, List, [], ◌∷◌, ◌++◌, map, filter, flat_map, codes, Bool, false, ◌&&◌, if◌then◌else◌, Option, Some, None}
use Rattle.std.specs.Fmt.{decimal}
use Rattle.spec_data.specs.Lists.{is_among}
use Rattle.spec_text.specs.RunText.{newline}
use Rattle.spec_text.specs.StepText.{branch_text}
use Rattle.spec_next.specs.declared.requirement.Requirement.{Requirement}
use Rattle.spec_next.specs.declared.requirement.Requirement.TheVariants as requirements
use Rattle.spec_next.specs.Prospects.{awaited}
use Rattle.spec_next.specs.RequirementText.{requirement_text}

-- ---- each once

-- these lines, and one more that isn't among them
abbrev pub with_line : List (List ℕ) → List ℕ → List (List ℕ)
with_line seen line = if is_among line seen then seen else seen ++ line ∷ []

abbrev pub once_onto : List (List ℕ) → List (List ℕ) → List (List ℕ)
once_onto seen [] = seen
once_onto seen (line ∷ more) = once_onto (with_line seen line) more

-- each line once, where it first stands
abbrev pub once : List (List ℕ) → List (List ℕ)
once lines = once_onto [] lines

-- ---- what several parties lack

-- whether the same is missing of their parties
abbrev pub is_alike : Requirement → Requirement → Bool
is_alike (requirements.Commitment party k) (requirements.Commitment other j) = k == j
is_alike (requirements.Endorsement party k) (requirements.Endorsement other j) = k == j
is_alike (requirements.Start party k) (requirements.Start other j) = k == j
is_alike (requirements.Authorisation party n i) (requirements.Authorisation other m j) = (n == m) && (i == j)
is_alike _ _ = false

-- the name, if there is one
abbrev pub named : Option (List ℕ) → List (List ℕ)
named None = []
named (Some name) = name ∷ []

-- the parties of whom the same is missing among these, each once
abbrev pub parties_alike : List Requirement → Requirement → List (List ℕ)
parties_alike all requirement = once (flat_map (λ other. named (awaited other)) (filter (λ other. is_alike requirement other) all))

-- ---- lines

-- ` A`
abbrev pub spaced : List ℕ → List ℕ
spaced name = codes " " ++ name

-- `commits` of one party, `commit` of several
abbrev pub ending : List (List ℕ) → List ℕ
ending (party ∷ []) = codes "s "
ending _ = codes " "

-- `needs A commits 0`, `needs A B commit 0`
abbrev pub together_text : List (List ℕ) → List ℕ → List ℕ → List ℕ
together_text parties verb what = codes "needs" ++ (flat_map spaced parties ++ (codes " " ++ (verb ++ (ending parties ++ what))))

-- what is missing, with all parties of whom it is missing among these
abbrev pub joined_text : List Requirement → Requirement → List ℕ
joined_text all (requirements.Commitment party k) =
    together_text (parties_alike all (requirements.Commitment party k)) (codes "commit") (decimal k)
joined_text all (requirements.Endorsement party k) =
    together_text (parties_alike all (requirements.Endorsement party k)) (codes "endorse") (decimal k)
joined_text all (requirements.Start party k) = together_text (parties_alike all (requirements.Start party k)) (codes "init") (decimal k)
joined_text all (requirements.Authorisation party n i) =
    together_text (parties_alike all (requirements.Authorisation party n i)) (codes "authorise") (branch_text n i)
joined_text all requirement = requirement_text requirement

abbrev pub joined_line : List Requirement → Requirement → List ℕ
joined_line all requirement = joined_text all requirement ++ newline

-- all that is missing, each line once
abbrev pub requirements_text : List Requirement → List ℕ
requirements_text required = flat_map (λ line. line) (once (map (joined_line required) required))
