-- The witnesses of deposits, one by one.
use Rattle.std.proofs.Common.{◌≡◌, ℕ, ◌+◌, ◌<◌, List, [], ◌∷◌, ◌++◌, length, drop, Some, None, get_or, refl, sym, ap, ◌∙◌, append_assoc, append-nil}
use Rattle.std.specs.Prelude.{slice_get}
use Rattle.std.proofs.lemmas.List.{drop_more}
use Rattle.bm_world_fire.specs.Filled.{deposit_items, deposits_items}
use Rattle.bm_tx_filled.proofs.Inputs.{get-drop, drop-next}

module _ (hash : List ℕ → List ℕ) where
  first_owner : (owner d : List ℕ) (owners ds : List (List ℕ)) → slice_get ds 0 ≡ Some d → deposits_items hash (owner ∷ owners) ds
      ≡ deposit_items hash owner d ∷ deposits_items hash owners (drop 1 ds)
  first_owner owner d owners [] e = cc
  first_owner owner d owners (x ∷ ds) e =
      let z : x ≡ d = cc in
      ap (λ y. deposit_items hash owner y ∷ deposits_items hash owners ds) z

  no_digest : (owners ds : List (List ℕ)) → slice_get ds 0 ≡ None → deposits_items hash owners ds ≡ []
  no_digest [] ds e = refl
  no_digest (owner ∷ owners) [] e = refl
  no_digest (owner ∷ owners) (d ∷ ds) e = cc

  -- one more is put
  pub owner_step : (owners digests : List (List ℕ)) (k : ℕ) (owner d : List ℕ) (now new all : List (List (List ℕ))) → k < length owners
      → owner ≡ get_or owners k owner → slice_get digests k ≡ Some d
      → new ≡ now ++ deposit_items hash owner d ∷ [] → now ++ deposits_items hash (drop k owners) (drop k digests) ≡ all → new
      ++ deposits_items hash (drop (k + 1) owners) (drop (k + 1) digests) ≡ all
  owner_step owners digests k owner d now new all lt at there pushed so =
      let cut : drop k owners ≡ owner ∷ drop (k + 1) owners = drop_more owners k owner lt ∙ ap (λ z. z ∷ drop (k + 1) owners) (sym at) in
      let first : deposits_items hash (drop k owners) (drop k digests)
      ≡ deposit_items hash owner d ∷ deposits_items hash (drop (k + 1) owners) (drop (k + 1) digests) =
      ap (λ l. deposits_items hash l (drop k digests)) cut ∙ first_owner owner d (drop (k + 1) owners) (drop k digests) (get-drop k digests ∙ there)
      ∙ ap (λ ds. deposit_items hash owner d ∷ deposits_items hash (drop (k + 1) owners) ds) (drop-next k digests) in
      ap (λ l. l ++ deposits_items hash (drop (k + 1) owners) (drop (k + 1) digests)) pushed
      ∙ append_assoc now (deposit_items hash owner d ∷ []) (deposits_items hash (drop (k + 1) owners) (drop (k + 1) digests))
      ∙ ap (λ l. now ++ l) (sym first) ∙ so

  -- no more digests
  pub owners_end : (owners digests : List (List ℕ)) (k : ℕ) (now all : List (List (List ℕ))) → slice_get digests k ≡ None → now
      ++ deposits_items hash (drop k owners) (drop k digests) ≡ all → now ≡ all
  owners_end owners digests k now all none so =
      sym (append-nil now) ∙ ap (λ l. now ++ l) (sym (no_digest (drop k owners) (drop k digests) (get-drop k digests ∙ none))) ∙ so
