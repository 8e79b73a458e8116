-- The strings of a deal are those of the deposit scripts of whoever uses its key, and then those of its compiled contract: keys that are given have none.
use Rattle.std.proofs.Common.{◌≡◌, ℕ, List, [], ◌∷◌, ◌++◌, map, filter, refl, ap}
use Rattle.std.specs.List.{flat_map}
use Rattle.spec_bitcoin.specs.declared.label.Label.{Label}
use Rattle.spec_compiler.specs.Keyed.OwnScripts.{OwnScripts}
use Rattle.spec_compiler.specs.Keyed.Keys.{Keys, given}
use Rattle.spec_compiler.specs.Keyed.Instance.{Instance, people}
use Rattle.spec_compiler.specs.Keyed.Transactions.{party_script, initial_unsigned}
use Rattle.spec_compiler.specs.Keyed.Compilation.{path_transactions, scripts}
use Rattle.spec_compiler.specs.Keyed.Hashed.{compiled_strings, unsigned_strings}
use Rattle.spec_deal.specs.Hashed.{deal_strings}
use Rattle.spec_deal.specs.Used.{uses_key}

abbrev no_strings : List (List ℕ)
no_strings = []

none_of : {X : Type 0} (xs : List X) → flat_map (λ x. no_strings) xs ≡ no_strings
none_of [] = refl
none_of (x ∷ xs) = none_of xs

-- the deposit scripts of the participants whose keys are used
abbrev pub used_scripts : (List ℕ → List ℕ) → Keys → Instance → List (List ℕ)
used_scripts hash keys s = map (party_script hash keys) (filter (uses_key keys s.advert) (people s))

pub strings_of_deal : (hash : List ℕ → List ℕ) (keys : Label → List ℕ) (own : OwnScripts) (s : Instance)
    → used_scripts hash (given keys own) s ++ compiled_strings hash (given keys own) s ≡ deal_strings hash (given keys own) s
strings_of_deal hash keys own s =
    ap
    (λ none. used_scripts hash (given keys own) s ++ (none ++ (map (λ p. p.1) (scripts hash (given keys own) s)
    ++ (unsigned_strings hash (initial_unsigned hash (given keys own) s)
    ++ flat_map (λ p. unsigned_strings hash p.1) (path_transactions hash (given keys own) s)))))
    (none_of (path_transactions hash (given keys own) s))
