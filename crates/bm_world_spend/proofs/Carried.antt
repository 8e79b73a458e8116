-- What holds of the board and the trail after a gift is signed.
use Rattle.std.proofs.Common.{◌≡◌, List, sym, subst}
use Rattle.spec_bitcoin.specs.Keys.{Pair}
use Rattle.spec_bitcoin.specs.declared.tx.Tx.{Tx}
use Rattle.bm_hash.specs.Messages.{Message}
use Rattle.bm_hash.specs.declared.messages.TrailError.{TrailError}
use Rattle.bm_hash.specs.Trails.{Stops}
use Rattle.bm_match.specs.Matches.{all_compiled}
use Rattle.bm_world_board.specs.declared.board.Board.{Board}
use Rattle.bm_world_board.specs.Prepares.{setup_of, world_of}
use Rattle.bm_world_board.specs.Reaching.{reaches_in}
use Rattle.bm_world_spend.specs.Placed.{IsPlaced}
use Rattle.bm_world_spend.proofs.Handed.{world_with}
use Rattle.bm_world_spend.proofs.Standing.{compiled_unsigned, placed_unsigned}

module _ {H : Type 0} (digest : H → Message → Message)
    (first here : H) (same : here ≡ first) (before after : Board) (pairs : List Pair) (signs : after ≡ record before { book = pairs }) where
  -- what holds of the old board with these pairs and of the old hasher
  pub carried : (K : H → Board → Type 0) → K first (record before { book = pairs }) → K here after
  carried K k = subst (λ h. K h after) (sym same) (subst (λ b. K first b) (sym signs) k)

  -- and the other way round
  pub returned : (K : H → Board → Type 0) → K here after → K first (record before { book = pairs })
  returned K k = subst (λ b. K first b) signs (subst (λ h. K h after) same k)

  module _ (old mid : List Message) where
    pub compiled_next : before.compiled ≡ all_compiled (setup_of (digest first) before) (world_of before old) → after.compiled
        ≡ all_compiled (setup_of (digest here) after) (world_of after mid)
    compiled_next e = carried (λ h b. b.compiled ≡ all_compiled (setup_of (digest h) b) (world_of b mid))
        (compiled_unsigned (setup_of (digest first) before) (world_of before old) pairs mid before.compiled e)

    pub placed_next : IsPlaced (setup_of (digest first) before) (world_of before old) → IsPlaced (setup_of (digest here) after) (world_of after mid)
    placed_next placed = carried (λ h b. IsPlaced (setup_of (digest h) b) (world_of b mid))
        (placed_unsigned (setup_of (digest first) before) (world_of before old) pairs mid placed)

    -- where the ledger stopped, it stopped so for the old hasher
    pub stops_returned : (new : List Message) (tx t : Tx) (e : TrailError) → tx ≡ t
        → Stops (digest here) mid new ((reaches_in (setup_of (digest here) after) (world_of after mid) tx).hashes) e
        → Stops (digest first) mid new ((reaches_in (setup_of (digest first) before) (world_with (world_of before old) pairs mid) t).hashes) e
    stops_returned new tx t e is h =
        subst (λ x. Stops (digest first) mid new ((reaches_in (setup_of (digest first) before) (world_with (world_of before old) pairs mid) x).hashes) e) is
        (returned (λ h b. Stops (digest h) mid new ((reaches_in (setup_of (digest h) b) (world_of b mid) tx).hashes) e) h)
