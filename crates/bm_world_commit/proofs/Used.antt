-- Digests that were used, one after another.
use Rattle.std.proofs.Common.{◌≡◌, ℕ, ◌+◌, ◌<◌, List, [], ◌∷◌, ◌++◌, length, map, take, drop, Option, Some, get_or, refl, sym, ap, ◌∙◌, append_assoc, append-nil}
use Rattle.std.specs.Prelude.{◌||◌, if◌then◌else◌}
use Rattle.std.specs.Str.{bytes_eq}
use Rattle.std.proofs.lemmas.List.{drop_more, take_more}
use Rattle.spec_data.specs.Lists.{is_among}
use Rattle.spec_run.specs.Committing.{used_again}
use Rattle.theory_world.proofs.Tests.{any-append}

-- among the first or among the others
pub among_either : (x : List ℕ) (xs ys : List (List ℕ)) → is_among x (xs ++ ys) ≡ (is_among x xs || is_among x ys)
among_either x xs ys = any-append (λ t. bytes_eq t x) xs ys

abbrev pub seconds : List (List ℕ × List ℕ) → List (List ℕ)
seconds ds = map (λ (d : List ℕ × List ℕ). d.1) ds

seconds_push : (ds : List (List ℕ × List ℕ)) (d : List ℕ × List ℕ) → seconds (ds ++ d ∷ []) ≡ seconds ds ++ d.1 ∷ []
seconds_push [] d = refl
seconds_push (x ∷ xs) d = ap (λ l. x.1 ∷ l) (seconds_push xs d)

module _ (used : List (List ℕ)) (ds : List (List ℕ × List ℕ)) where
  -- the first k digests are behind
  abbrev pub from_here : ℕ → Option (List ℕ)
  from_here k = used_again (used ++ seconds (take k ds)) (drop k ds)

  pub at_first : from_here 0 ≡ used_again used ds
  at_first = ap (λ seen. used_again seen ds) (append-nil used)

  -- the next one
  pub from_next : (k : ℕ) (d : List ℕ × List ℕ) → k < length ds → d ≡ get_or ds k d
      → from_here k ≡ (if is_among (d.1) (used ++ seconds (take k ds)) then Some (d.0) else from_here (k + 1))
  from_next k d lt at =
      let cut : drop k ds ≡ d ∷ drop (k + 1) ds = drop_more ds k d lt ∙ ap (λ z. z ∷ drop (k + 1) ds) (sym at) in
      let more : take (k + 1) ds ≡ take k ds ++ d ∷ [] = take_more ds k d lt ∙ ap (λ z. take k ds ++ z ∷ []) (sym at) in
      let seen : used ++ seconds (take k ds) ++ d.1 ∷ [] ≡ used ++ seconds (take (k + 1) ds) =
      append_assoc used (seconds (take k ds)) (d.1 ∷ []) ∙ ap (λ l. used ++ l) (sym (ap seconds more ∙ seconds_push (take k ds) d)) in
      ap (used_again (used ++ seconds (take k ds))) cut
      ∙ ap (λ l. if is_among (d.1) (used ++ seconds (take k ds)) then Some (d.0) else used_again l (drop (k + 1) ds)) seen
