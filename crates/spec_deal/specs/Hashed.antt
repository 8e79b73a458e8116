-- The strings that are hashed when a deal is compiled, in their order.
use Rattle.std.specs.Prelude.{ℕ, List, ◌++◌, map, filter}
use Rattle.std.specs.List.{flat_map}
use Rattle.spec_compiler.specs.Keyed.Keys.{Keys}
use Rattle.spec_compiler.specs.Keyed.Instance.{Instance, people}
use Rattle.spec_compiler.specs.Keyed.Transactions.{party_script, initial_unsigned}
use Rattle.spec_compiler.specs.Keyed.Compilation.{path_transactions, scripts}
use Rattle.spec_compiler.specs.Keyed.Hashed.{unsigned_strings}
use Rattle.spec_deal.specs.Used.{uses_key}

-- The deposit scripts of the participants whose keys are used, the scripts by position, and the strings of the initial transaction and of
-- each path's. Those of a wallet's input are among them, of an empty script where it isn't known what its signature signs.
abbrev pub deal_strings : (List ℕ → List ℕ) → Keys → Instance → List (List ℕ)
deal_strings hash keys s =
    map (party_script hash keys) (filter (uses_key keys s.advert) (people s))
    ++ (map (λ p. p.1) (scripts hash keys s) ++ (unsigned_strings hash (initial_unsigned hash keys s)
    ++ flat_map (λ p. unsigned_strings hash p.1) (path_transactions hash keys s)))
