-- A run that opened, and one that didn't.
use Rattle.std.specs.Prelude.{◌≡◌, ℕ, List, [], Some, None}
use Rattle.spec_terms.specs.Advert.{Advert}
use Rattle.spec_run.specs.declared.header.Header.{Header}
use Rattle.spec_run.specs.Setup.{Setup}
use Rattle.spec_run.specs.Event.{opening_world, opening_collision}
use Rattle.bm_world_opening.specs.Opening.{setup_with}
use Rattle.bm_world.specs.declared.halt.Halt.{Halt}
use Rattle.bm_world.specs.declared.halt.Halt.TheVariants.{Collided, Guessed}
use Rattle.bm_world.specs.Playing.{Played}

-- a run that opened: no two different opening strings have one digest, and this is the world before any event
pub record Opens {H : Type 0} (digest : H → List ℕ → List ℕ) (hash : H) (header : Header) (contracts : List Advert)
    (p : Played H) : Type 0 where
  pub apart : opening_collision (setup_with (digest hash) header contracts) ≡ None
  pub is : p ≡ record {
    hasher = hash;
    header = header;
    contracts = contracts;
    world = opening_world (setup_with (digest hash) header contracts);
    trace = [];
    halt = None;
  }

-- a run that doesn't open: the first two of its opening strings that collide are shown, or memory was short
pub record Unopened (s : Setup) (halt : Halt) : Type 0 where
  pub collided : (earlier later : List ℕ) → halt ≡ Collided earlier later → opening_collision s ≡ Some (earlier, later)
  pub unguessed : (party secret : List ℕ) → halt ≡ Guessed party secret → ⊥
