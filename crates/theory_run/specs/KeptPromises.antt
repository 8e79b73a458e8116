-- What every run keeps of commitments: they are of advertised contracts, to secrets of their parties, each by a digest of 32 bytes.
use Rattle.std.specs.Prelude.{◌≡◌, ℕ, List, length, true, Some, is_some}
use Rattle.spec_data.specs.Lists.{is_among, look_up}
use Rattle.spec_run.specs.Setup.{Setup}
use Rattle.spec_run.specs.World.{Promise, World, is_advertised, has_promised}
use Rattle.spec_run.specs.Committing.{secrets_at}
use Rattle.theory_calculus.specs.Members.{Is_in}

-- each commitment is to secrets of its party
pub record PromisesNamed (s : Setup) (ps : List Promise) : Type 0 where
  pub named : (p : Promise) → Is_in p ps → (n d : List ℕ) → look_up n p.digests ≡ Some d
      → is_among n (secrets_at s p.contract p.party) ≡ true

-- what is kept of all commitments
pub record KeptPromises (s : Setup) (w : World) : Type 0 where
  -- who has committed had the contract advertised before
  pub told : (k : ℕ) (a : List ℕ) → has_promised w k a ≡ true → is_advertised w k ≡ true
  pub named : PromisesNamed s w.promises
  pub sized : (p : Promise) → Is_in p w.promises → (n d : List ℕ) → look_up n p.digests ≡ Some d → length d ≡ 32
  -- and to all of them
  pub full : (p : Promise) → Is_in p w.promises
      → (n : List ℕ) → is_among n (secrets_at s p.contract p.party) ≡ true → is_some (look_up n p.digests) ≡ true
