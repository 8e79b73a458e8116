-- A world in which only more was hashed, and why a call that asks what would be stops.
use Rattle.std.specs.Prelude.{◌≡◌, ℕ, List, Some, None}
use Rattle.spec_data.specs.Messages.{noted_all, collision}
use Rattle.bm_hash.specs.Messages.{evidence_of}
use Rattle.bm_world.specs.declared.halt.Halt.{Halt}
use Rattle.bm_world.specs.declared.halt.Halt.TheVariants.{Collided, Guessed, Memory}
use Rattle.bm_world.specs.Halts.{IsAgain}
use Rattle.bm_world.specs.Playing.{Played, SameSetup}

-- only more is hashed
pub record Hears {H : Type 0} (old new : Played H) (hashed : List (List ℕ)) : Type 0 where
  pub setup : SameSetup old new
  pub halt : new.halt ≡ old.halt
  pub world : new.world ≡ record old.world { hashed = hashed }
  pub trace : new.trace ≡ old.trace

-- these strings were hashed in turn until two different messages had one digest, as the messages then show, or memory was short
pub record CollidesHere (hash : List ℕ → List ℕ) (old new strings : List (List ℕ)) (halt : Halt) : Type 0 where
  pub collided : (earlier later : List ℕ) → halt ≡ Collided earlier later → collision hash old strings ≡ Some (earlier, later)
  pub shown : (earlier later : List ℕ) → halt ≡ Collided earlier later → evidence_of hash new ≡ Some (earlier, later)
  pub unguessed : (party secret : List ℕ) → halt ≡ Guessed party secret → ⊥

-- a call that hashes these strings stopped: nothing changed but what was hashed
pub record Stopped {H : Type 0} (digest : H → List ℕ → List ℕ) (old new : Played H) (strings : List (List ℕ)) (halt : Halt) : Type 0 where
  pub setup : SameSetup old new
  pub kept : new.world ≡ record old.world { hashed = new.world.hashed }
  pub trace : new.trace ≡ old.trace
  -- later calls answer the same, unless it was as memory ran out
  pub halted : (halt ≡ Memory → ⊥) → new.halt ≡ Some halt
  -- the run was halted before by this
  pub again : (earlier : Halt) → old.halt ≡ Some earlier → IsAgain earlier halt
  pub cause : old.halt ≡ None → CollidesHere (digest old.hasher) old.world.hashed new.world.hashed strings halt

-- these strings were hashed, and collide with none
pub record Calm {H : Type 0} (digest : H → List ℕ → List ℕ) (old new : Played H) (strings : List (List ℕ)) : Type 0 where
  pub hears : Hears old new (noted_all old.world.hashed strings)
  pub calm : collision (digest old.hasher) old.world.hashed strings ≡ None

-- some of all these strings were hashed, and these are left
pub record Reaches {H : Type 0} (digest : H → List ℕ → List ℕ) (old now : Played H) (rest all : List (List ℕ)) : Type 0 where
  pub hears : Hears old now now.world.hashed
  pub hashed : noted_all now.world.hashed rest ≡ noted_all old.world.hashed all
  pub calm : collision (digest old.hasher) now.world.hashed rest ≡ collision (digest old.hasher) old.world.hashed all
