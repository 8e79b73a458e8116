-- Before any event no contract is compiled.
use Rattle.std.proofs.Common.{◌≡◌, ℕ, ◌+◌, List, [], ◌∷◌, Option, Some, None, refl, ap}
use Rattle.std.specs.Option.{option_map}
use Rattle.spec_terms.specs.Advert.{Advert}
use Rattle.spec_compiler.specs.Instance.{Instance}
use Rattle.spec_run.specs.declared.header.Header.{Header}
use Rattle.spec_run.specs.Setup.{Setup, contract_at}
use Rattle.spec_run.specs.Compiled.{instance_if_complete, compiled_instance}
use Rattle.spec_run.specs.Event.{opening_world}
use Rattle.bm_compile.specs.Numbered.{Numbered, numbered}
use Rattle.bm_match.specs.Matches.{compiled_from, all_compiled}
use Rattle.bm_world_opening.specs.Opening.{setup_with, none_compiled}

no_instance : (s : Setup) (k : ℕ) (o : Option Advert) → instance_if_complete (opening_world s) k o ≡ None
no_instance s k None = refl
no_instance s k (Some advert) = refl

none_from : (s : Setup) (k : ℕ) (adverts : List Advert) → none_compiled adverts ≡ compiled_from s (opening_world s) k adverts
none_from s k [] = refl
none_from s k (a ∷ adverts) =
    let head : compiled_instance s (opening_world s) k ≡ None = no_instance s k (contract_at s k) in
    rw head (ap (λ (l : List (Option Numbered)). None ∷ l) (none_from s (k + 1) adverts))

-- that none is compiled is what the definitions say
pub none_is : (hash : List ℕ → List ℕ) (header : Header) (contracts : List Advert) (compiled : List (Option Numbered)) → compiled ≡ none_compiled contracts
    → compiled ≡ all_compiled (setup_with hash header contracts) (opening_world (setup_with hash header contracts))
none_is hash header contracts compiled e = rw e (none_from (setup_with hash header contracts) 0 contracts)
