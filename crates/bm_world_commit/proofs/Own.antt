-- A party's own secrets and their digests, name by name.
use Rattle.std.proofs.Common.{◌≡◌, ℕ, List, [], ◌∷◌, map, refl, ap}
use Rattle.spec_run.specs.Setup.{Setup}
use Rattle.spec_run.specs.Committing.{own_digests, own_strings}
use Rattle.bm_world_commit.specs.Committed.{own_string, own_digest}

module _ (s : Setup) (party : List ℕ) where
  pub digests_each : (names : List (List ℕ)) → map (own_digest s.hash s.header.secrets party) names ≡ own_digests s party names
  digests_each [] = refl
  digests_each (name ∷ names) = ap (λ ds. own_digest s.hash s.header.secrets party name ∷ ds) (digests_each names)

  pub strings_each : (names : List (List ℕ)) → map (own_string s.header.secrets party) names ≡ own_strings s party names
  strings_each [] = refl
  strings_each (name ∷ names) = ap (λ ss. own_string s.header.secrets party name ∷ ss) (strings_each names)
