-- Why a transaction is bad for what it spends: by places it is what it is by outputs.
use Rattle.std.proofs.Common.{◌≡◌, ℕ, ◌+◌, List, [], ◌∷◌, map, Bool, true, false, not, ◌&&◌, ◌||◌, cond, Option, Some, None}
use Rattle.std.proofs.Common.{refl, sym, ap, ◌∙◌}
use Rattle.std.specs.Prelude.{if◌then◌else◌}
use Rattle.std.proofs.lemmas.List.Folds.{list_any-append}
use Rattle.spec_data.specs.Lists.{first_reason, or_else}
use Rattle.spec_bitcoin.specs.declared.tx.OutPoint.{OutPoint}
use Rattle.spec_bitcoin.specs.declared.tx.TxIn.{TxIn}
use Rattle.spec_compiler.specs.Keyed.Instance.{Instance}
use Rattle.spec_deal.specs.declared.transaction.Transaction.{Transaction}
use Rattle.spec_chain.specs.declared.fault.ChainReason.{ChainReason}
use Rattle.spec_chain.specs.declared.fault.ChainReason.TheVariants as reasons
use Rattle.spec_chain.specs.declared.output.Output.{Output}
use Rattle.spec_chain.specs.Outputs as outputs
use Rattle.spec_chain.specs.Outputs.{is_there, without, deposit_outputs, position_outputs, deal_outputs}
use Rattle.spec_chain.specs.Refusals.{input_row, inputs_reason}
use Rattle.deal_follow.specs.Boards.{place_of, has_place}
use Rattle.deal_follow.specs.Judging.{is_ours, row_by, without_place, inputs_by, do_touch}

-- ---- places of outputs

place_there : (os : List Output) (place : OutPoint) → has_place (map place_of os) place ≡ outputs.has_place os place
place_there [] place = refl
place_there (o ∷ os) place = ap (λ b. is_there place o || b) (place_there os place)

left_there : (os : List Output) (place : OutPoint) → without_place (map place_of os) place ≡ map place_of (without os place)
left_there [] place = refl
left_there (o ∷ os) place = by (is_there place o) (left_there os place)
  where
    by : (b : Bool) → without_place (map place_of os) place ≡ map place_of (without os place)
        → cond (not b) (place_of o ∷ without_place (map place_of os) place) (without_place (map place_of os) place)
        ≡ map place_of (cond (not b) (o ∷ without os place) (without os place))
    by true h = h
    by false h = ap (λ (l : List OutPoint). place_of o ∷ l) h

module _ (s : Instance) (ts : List Transaction) where
  abbrev deposit_places : List OutPoint
  deposit_places = map place_of (deposit_outputs s)

  abbrev position_places : List OutPoint
  position_places = map place_of (position_outputs s.advert ts)

  ours_there : (place : OutPoint) → is_ours deposit_places position_places place ≡ outputs.has_place (deal_outputs s ts) place
  ours_there place =
      ap (λ b. b || has_place position_places place) (place_there (deposit_outputs s) place)
      ∙ ap (λ b. outputs.has_place (deposit_outputs s) place || b) (place_there (position_outputs s.advert ts) place)
      ∙ sym (list_any-append (is_there place) (deposit_outputs s) (position_outputs s.advert ts))

  abbrev row : ℕ → Bool → Bool → Option ChainReason
  row k first second = if first then Some (reasons.Input k) else if second then Some (reasons.Foreign k) else None

  row_there : (is_own : Bool) (live : List Output) (k : ℕ) (place : OutPoint)
      → row_by deposit_places position_places is_own (map place_of live) k place ≡ first_reason (input_row s ts is_own live k place)
  row_there is_own live k place =
      ap (λ b. row k (b && not (has_place (map place_of live) place)) (not is_own && has_place position_places place)) (ours_there place)
      ∙ ap (λ b. row k (outputs.has_place (deal_outputs s ts) place && not b) (not is_own && has_place position_places place)) (place_there live place)
      ∙ ap
      (λ b. row k (outputs.has_place (deal_outputs s ts) place && not (outputs.has_place live place)) (not is_own && b))
      (place_there (position_outputs s.advert ts) place)

  -- the first bad input by the places is that by the outputs
  pub inputs_are : (is_own : Bool) (live : List Output) (k : ℕ) (ins : List TxIn)
      → inputs_by deposit_places position_places is_own (map place_of live) k ins ≡ inputs_reason s ts is_own live k ins
  inputs_are is_own live k [] = refl
  inputs_are is_own live k (i ∷ is) =
      ap
      (λ r. or_else r (inputs_by deposit_places position_places is_own (without_place (map place_of live) i.prev) (k + 1) is))
      (row_there is_own live k i.prev)
      ∙ ap (or_else (first_reason (input_row s ts is_own live k i.prev))) (
      ap (λ l. inputs_by deposit_places position_places is_own l (k + 1) is) (left_there live i.prev)
      ∙ inputs_are is_own (without live i.prev) (k + 1) is)

-- ---- a transaction that spends no output of the deal

or_false : (a b : Bool) → (a || b) ≡ false → (a ≡ false) × (b ≡ false)
or_false true b h = cc
or_false false b h = (refl, h)

and_false : (a b : Bool) → b ≡ false → (a && b) ≡ false
and_false true b h = h
and_false false b h = refl

pub untouched : (deposits positions : List OutPoint) (is_own : Bool) (live : List OutPoint) (k : ℕ) (ins : List TxIn)
    → do_touch deposits positions ins ≡ false → inputs_by deposits positions is_own live k ins ≡ None
untouched deposits positions is_own live k [] h = refl
untouched deposits positions is_own live k (i ∷ is) h =
    let parts = or_false (is_ours deposits positions i.prev) (do_touch deposits positions is) h in
    let apart = or_false (has_place deposits i.prev) (has_place positions i.prev) parts.0 in
    ap
    (λ b. or_else
    (if b && not (has_place live i.prev) then Some (reasons.Input k)
    else if not is_own && has_place positions i.prev then Some (reasons.Foreign k) else None)
    (inputs_by deposits positions is_own (without_place live i.prev) (k + 1) is)) parts.0
    ∙ ap
    (λ b. or_else (if b then Some (reasons.Foreign k) else None)
    (inputs_by deposits positions is_own (without_place live i.prev) (k + 1) is)) (and_false (not is_own) (has_place positions i.prev) apart.1)
    ∙ untouched deposits positions is_own (without_place live i.prev) (k + 1) is parts.1

-- ---- the same of what the code has at hand

module _ (s : Instance) (ts : List Transaction) (deposits positions : List OutPoint) (same_deposits : deposits ≡ map place_of (deposit_outputs s))
    (same_positions : positions ≡ map place_of (position_outputs s.advert ts)) (is_own : Bool) (live : List Output) (ins : List TxIn) where
  pub reason_is : inputs_by deposits positions is_own (map place_of live) 0 ins ≡ inputs_reason s ts is_own live 0 ins
  reason_is =
      ap (λ (ds : List OutPoint). inputs_by ds positions is_own (map place_of live) 0 ins) same_deposits
      ∙ ap (λ (ps : List OutPoint). inputs_by (map place_of (deposit_outputs s)) ps is_own (map place_of live) 0 ins) same_positions
      ∙ inputs_are s ts is_own live 0 ins

  pub no_reason : do_touch deposits positions ins ≡ false → None ≡ inputs_reason s ts is_own live 0 ins
  no_reason h = sym (untouched deposits positions is_own (map place_of live) 0 ins h) ∙ reason_is
