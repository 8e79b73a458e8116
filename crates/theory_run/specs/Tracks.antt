-- How a configuration tracks a world.
use Rattle.std.specs.Prelude.{◌≡◌, ℕ, List, [], length}
use Rattle.spec_calculus.specs.Configuration.{Configuration}
use Rattle.spec_run.specs.Setup.{Setup}
use Rattle.spec_run.specs.World.{World}
use Rattle.spec_run.specs.Agreement.{deposits_from, actives_from}
use Rattle.theory_run.specs.KeptSecrets.{KeptSecrets}

-- time, names, deposits and contracts agree, and no authorisation of a move stands
pub record AgreeOnMoney (s : Setup) (g : Configuration) (w : World) : Type 0 where
  pub time : g.time ≡ w.tip
  pub next : g.next ≡ length w.outputs
  pub deposits : g.deposits ≡ deposits_from s 0 w.outputs
  pub active : g.active ≡ actives_from 0 w.outputs
  pub moves : g.move_authorised ≡ []

-- what never changes is the same
pub record Constant (s : Setup) (g : Configuration) : Type 0 where
  pub parties : g.parties ≡ s.header.parties
  pub honest : g.honest ≡ s.header.honest
  pub contracts : g.contracts ≡ s.contracts

-- the configuration has the world's money, secrets and adverts, and the setup's parties and contracts
pub record Tracks (s : Setup) (z : List (List ℕ)) (g : Configuration) (w : World) : Type 0 where
  pub money : AgreeOnMoney s g w
  pub secrets : KeptSecrets s z g w
  pub constant : Constant s g
  pub advertised : g.advertised ≡ w.advertised
