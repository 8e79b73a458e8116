-- What a contract is compiled to, by its number.
use Rattle.std.proofs.Common.{◌≡◌, ℕ, zero, suc, ◌+◌, List, [], ◌∷◌, Option, Some, None, refl, sym, ap, ◌∙◌, arith}
use Rattle.std.specs.Prelude.{slice_get}
use Rattle.std.specs.Option.{option_map}
use Rattle.spec_terms.specs.Advert.{Advert}
use Rattle.spec_run.specs.Setup.{Setup, contract_at}
use Rattle.spec_run.specs.World.{World}
use Rattle.spec_run.specs.Compiled.{instance_if_complete, compiled_instance}
use Rattle.bm_compile.specs.Numbered.{Numbered, numbered}
use Rattle.bm_match.specs.Matches.{compiled_from, all_compiled}
use Rattle.bm_world_board.specs.Compiling.{compiled_at}

-- what a contract is compiled to, where it is there
abbrev where_there : Option Advert → Option Numbered → Option Numbered
where_there None compiled = None
where_there (Some advert) compiled = compiled

-- what contract j is compiled to
abbrev numbered_at : Setup → World → ℕ → Option Numbered
numbered_at s w j = option_map (numbered s.hash) (compiled_instance s w j)

at_from : (s : Setup) (w : World) (k i : ℕ) (adverts : List Advert) → compiled_at (compiled_from s w k adverts) i
    ≡ where_there (slice_get adverts i) (numbered_at s w (k + i))
at_from s w k i [] = refl
at_from s w k zero (a ∷ adverts) = let z : k ≡ k + 0 = omega arith in ap (numbered_at s w) z
at_from s w k (suc i) (a ∷ adverts) =
    let z : k + 1 + i ≡ k + suc i = omega arith in
    at_from s w (k + 1) i adverts ∙ ap (λ j. where_there (slice_get adverts i) (numbered_at s w j)) z

where_missing : (s : Setup) (w : World) (k : ℕ) (o : Option Advert) → contract_at s k ≡ o → where_there o (numbered_at s w k) ≡ numbered_at s w k
where_missing s w k None e = sym (ap (λ (a : Option Advert). option_map (numbered s.hash) (instance_if_complete w k a)) e)
where_missing s w k (Some advert) e = refl

-- it is what the definitions compile it to
pub compiled_is : (s : Setup) (w : World) (k : ℕ) (compiled : List (Option Numbered)) → compiled ≡ all_compiled s w
    → compiled_at compiled k ≡ option_map (numbered s.hash) (compiled_instance s w k)
compiled_is s w k compiled all =
    let z : 0 + k ≡ k = omega arith in
    ap (λ l. compiled_at l k) all
    ∙ at_from s w 0 k s.contracts
    ∙ ap (λ j. where_there (slice_get s.contracts k) (numbered_at s w j)) z
    ∙ where_missing s w k (contract_at s k) refl
