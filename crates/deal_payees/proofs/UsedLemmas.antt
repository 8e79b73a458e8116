-- A deposit that no wallet brings has the script of its owner's key.
use Rattle.std.proofs.Common.{◌≡◌, ℕ, List, [], ◌∷◌, Bool, true, false, refl, sym}
use Rattle.std.specs.Prelude.{not, ◌&&◌, ◌||◌, is_some, Option, Some, if◌then◌else◌}
use Rattle.std.specs.List.{list_any}
use Rattle.std.specs.Str.{bytes_eq}
use Rattle.spec_data.specs.Lists.{is_among, look_up}
use Rattle.spec_terms.specs.Precondition.{Holding, names_of}
use Rattle.spec_compiler.specs.Keyed.Keys.{Keys}
use Rattle.spec_deal.specs.declared.deal.Deal.{Deal}
use Rattle.spec_deal.specs.Setting.{deal_keys}
use Rattle.spec_deal.specs.Used.{is_key_deposit}
use Rattle.deal_payees.specs.Brought.{AreBrought, is_left}

module _ (keys : Keys) (brought : List (List ℕ)) (known : AreBrought keys brought) (party : List ℕ) where
  pub left_any : (ds : List (List ℕ × Holding)) → list_any (is_left brought party) ds ≡ list_any (is_key_deposit keys party) ds
  left_any [] = refl
  left_any (d ∷ ds) = λ j. (bytes_eq (d.1).owner party && not (sym (known (d.0)) j)) || left_any ds j

by_test : {V : Type 0} (t : Bool) (v : V) (rest : Option V) (among : Bool) → is_some rest ≡ among
    → is_some (if t then Some v else rest) ≡ (t || among)
by_test true v rest among h = refl
by_test false v rest among h = h

-- a name is found where it is among the names
pub found_among : {V : Type 0} (name : List ℕ) (ps : List (List ℕ × V)) → is_some (look_up name ps) ≡ is_among name (names_of ps)
found_among name [] = refl
found_among name (p ∷ ps) = by_test (bytes_eq (p.0) name) (p.1) (look_up name ps) (is_among name (names_of ps)) (found_among name ps)

-- the names of a deal's wallets are those of the deposits that they bring
pub deal_brought : (deal : Deal) → AreBrought (deal_keys deal) (names_of deal.wallets)
deal_brought deal name = found_among name deal.wallets
