-- Names among others, list by list.
use Rattle.std.proofs.Common.{◌≡◌, ℕ, List, ◌++◌}
use Rattle.std.specs.Prelude.{◌&&◌}
use Rattle.std.proofs.lemmas.List.Folds.{list_all-append}
use Rattle.spec_data.specs.Lists.{is_among}
use Rattle.spec_terms.specs.Faults.{are_among}

pub are_among_append : (known xs ys : List (List ℕ)) → are_among (xs ++ ys) known ≡ (are_among xs known && are_among ys known)
are_among_append known xs ys = list_all-append (λ name. is_among name known) xs ys
