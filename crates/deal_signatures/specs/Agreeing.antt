-- Whether all that are needed at one place are of one digest, so that one verification of a signature is enough.
use Rattle.std.specs.Prelude.{ℕ, List, [], Bool, true, Option, Some, None}
use Rattle.std.specs.List.{find, list_all}
use Rattle.std.specs.Str.{bytes_eq}
use Rattle.spec_deal.specs.Transactions.{Required, is_at}
use Rattle.deal_signatures.specs.Keying.{signed_by}

-- whether the digest is that of the first, if there is one
abbrev pub is_same : Required → Option Required → Bool
is_same w None = true
is_same w (Some first) = bytes_eq first.digest w.digest

-- the first that is needed at the same place
abbrev pub first_like : List Required → Required → Option Required
first_like all w = find (λ (x : Required). is_at x.spot (signed_by w.spot.tx w.spot.input w.spot.key [])) all

abbrev pub is_as_first : List Required → Required → Bool
is_as_first all w = is_same w (first_like all w)

abbrev pub do_agree : List Required → Bool
do_agree all = list_all (is_as_first all) all
