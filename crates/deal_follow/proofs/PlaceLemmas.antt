-- Places of outputs: those of the positions that transactions make, and those of other transactions.
use Rattle.std.proofs.Common.{◌≡◌, List, [], ◌∷◌, ◌++◌, map, Bool, true, false, cond, Option, Some, None, refl, ap, ◌∙◌}
use Rattle.std.specs.Prelude.{filter, ◌==◌, ◌&&◌, ◌||◌}
use Rattle.std.specs.List.{find, flat_map}
use Rattle.std.specs.Str.{bytes_eq}
use Rattle.std.proofs.lemmas.List.{map-append}
use Rattle.std.proofs.lemmas.List.Elements.{filter-append}
use Rattle.spec_terms.specs.Advert.{Advert}
use Rattle.spec_bitcoin.specs.declared.tx.OutPoint.{OutPoint}
use Rattle.spec_deal.specs.declared.transaction.Transaction.{Transaction}
use Rattle.spec_chain.specs.Outputs.{is_position, made_by, position_outputs}
use Rattle.deal_follow.specs.declared.spots.Spot.{Spot}
use Rattle.deal_follow.specs.Boards.{place_in, place_of, has_place}

-- the positions of the first transaction come first
pub first_positions : (advert : Advert) (t : Transaction) (ts : List Transaction)
    → map place_of (position_outputs advert (t ∷ ts))
    ≡ map place_of (filter is_position (made_by advert 0 t)) ++ map place_of (position_outputs advert ts)
first_positions advert t ts =
    ap (map place_of) (filter-append is_position (made_by advert 0 t) (flat_map (made_by advert 0) ts))
    ∙ map-append place_of (filter is_position (made_by advert 0 t)) (position_outputs advert ts)

found_none : {X : Type 0} (b : Bool) (x : X) (o : Option X) → cond b (Some x) o ≡ None → (b ≡ false) × (o ≡ None)
found_none true x o h = cc
found_none false x o h = (refl, h)

-- where no place is of the transaction, none is this one
pub no_spot : (spots : List Spot) (place : OutPoint) → find (λ (spot : Spot). bytes_eq spot.place.txid place.txid) spots ≡ None
    → has_place (map place_in spots) place ≡ false
no_spot [] place none = refl
no_spot (spot ∷ spots) place none =
    let parts = found_none (bytes_eq spot.place.txid place.txid) spot
    (find (λ (spot : Spot). bytes_eq spot.place.txid place.txid) spots) none in
    ap (λ b. (b && spot.place.vout == place.vout) || has_place (map place_in spots) place) parts.0
    ∙ no_spot spots place parts.1
