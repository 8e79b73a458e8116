-- What a world's board says of a rule.
use Rattle.std.proofs.Common.{◌≡◌, ℕ, List, Option, Some, None, sym, subst, ◌∙◌}
use Rattle.spec_run.specs.declared.event.Event.{Event}
use Rattle.spec_run.specs.Conditions.{IsSetup, IsEvent}
use Rattle.spec_run.specs.Setup.{Setup}
use Rattle.spec_tool.specs.declared.rule.Rule.{Rule}
use Rattle.spec_tool.specs.Turns.{rule_event}
use Rattle.theory_world.specs.KeptApart.{NoCollision}
use Rattle.theory_auto.specs.OwnRules.{IsHonest}
use Rattle.bm_world_board.specs.declared.board.Board.{Board}
use Rattle.bm_world_board.specs.Prepares.{setup_of, world_of}
use Rattle.bm_world.specs.Playing as world
use Rattle.bm_world.specs.Playing.{setup_in, IsWorld}
use Rattle.bm_auto.proofs.Tried.{event_is}

module _ {H : Type 0} (digest : H → List ℕ → List ℕ) (old : world.Played H) (b : Board) (r : Rule) (o : Option Event)
    (same : world_of b old.world.hashed ≡ old.world) (header : b.header ≡ old.header) (contracts : b.contracts ≡ old.contracts)
    (is : IsWorld (setup_of (digest old.hasher) b) b old.world.hashed old.trace old.halt)
    (comes : (hash : List ℕ → List ℕ) (messages : List (List ℕ)) → o ≡ rule_event (setup_of hash b) (world_of b messages) r) where
  setup_is : setup_of (digest old.hasher) b ≡ setup_in digest old
  setup_is = λ i. record { hash = digest old.hasher; header = header i; contracts = contracts i }

  -- the rule has this event in the world
  pub has_event : rule_event (setup_in digest old) old.world r ≡ o
  has_event =
      sym (comes (digest old.hasher) old.world.hashed
      ∙ (λ i. rule_event (record { hash = digest old.hasher; header = header i; contracts = contracts i }) (same i) r))

  pub fine : (e : Event) → o ≡ Some e → IsHonest old.header r → IsEvent (setup_in digest old) e
  fine e there honest =
      let setup : IsSetup (setup_in digest old) = subst IsSetup setup_is is.setup in
      event_is (setup_in digest old) old.world r e setup honest (has_event ∙ there)

  -- no messages collision where nothing has halted
  pub clear : old.halt ≡ None → NoCollision (setup_in digest old).hash old.world.hashed
  clear none = (is.kept none).books.clear
