-- Why a transaction is bad for what it spends, by the places of outputs.
use Rattle.std.specs.Prelude.{ℕ, ◌+◌, List, [], ◌∷◌, filter, Bool, not, ◌&&◌, ◌||◌, if◌then◌else◌, Option, Some, None}
use Rattle.std.specs.List.{list_any}
use Rattle.spec_data.specs.Lists.{or_else}
use Rattle.spec_bitcoin.specs.declared.tx.OutPoint.{OutPoint}
use Rattle.spec_bitcoin.specs.declared.tx.TxIn.{TxIn}
use Rattle.spec_bitcoin.specs.Live.{same_outpoint}
use Rattle.spec_chain.specs.declared.fault.ChainReason.{ChainReason}
use Rattle.spec_chain.specs.declared.fault.ChainReason.TheVariants as reasons
use Rattle.deal_follow.specs.Boards.{has_place}

-- the places of a deal's deposits, and of its positions
abbrev pub is_ours : List OutPoint → List OutPoint → OutPoint → Bool
is_ours deposits positions place = has_place deposits place || has_place positions place

-- why input k is bad, which spends this place
abbrev pub row_by : List OutPoint → List OutPoint → Bool → List OutPoint → ℕ → OutPoint → Option ChainReason
row_by deposits positions is_own live k place =
    if is_ours deposits positions place && not (has_place live place) then Some (reasons.Input k)
    else if not is_own && has_place positions place then Some (reasons.Foreign k)
    else None

abbrev pub without_place : List OutPoint → OutPoint → List OutPoint
without_place live place = filter (λ p. not (same_outpoint p place)) live

-- the first bad input from number k on
abbrev pub inputs_by : List OutPoint → List OutPoint → Bool → List OutPoint → ℕ → List TxIn → Option ChainReason
inputs_by deposits positions is_own live k [] = None
inputs_by deposits positions is_own live k (i ∷ is) =
    or_else (row_by deposits positions is_own live k i.prev)
    (inputs_by deposits positions is_own (without_place live i.prev) (k + 1) is)

-- whether one of the inputs spends an output of the deal
abbrev pub do_touch : List OutPoint → List OutPoint → List TxIn → Bool
do_touch deposits positions inputs = list_any (λ (i : TxIn). is_ours deposits positions i.prev) inputs
