-- What every run keeps of secrets.
use Rattle.std.specs.Prelude.{◌≡◌, ℕ, List, map, Bool, true, false, ◌&&◌, Option, Some, None, is_some}
use Rattle.std.specs.Str.{bytes_eq}
use Rattle.spec_data.specs.Lists.{is_among}
use Rattle.spec_calculus.specs.declared.parts.Committed.{Committed}
use Rattle.spec_calculus.specs.declared.parts.Revealed.{Revealed}
use Rattle.spec_calculus.specs.Configuration.{Configuration}
use Rattle.spec_calculus.specs.Branches.{is_revealed}
use Rattle.spec_run.specs.Setup.{Setup, is_honest, held_secret}
use Rattle.spec_run.specs.World.{Promise, World, has_promised}
use Rattle.spec_run.specs.Committing.{secrets_at, is_secret_long, used_digests}
use Rattle.spec_run.specs.Secrets.{all_secrets, digest_at, shown, lengths_in_run}
use Rattle.theory_world.specs.KeptApart.{NoCollision, Once}

-- whether a secret stands in the list
abbrev pub has_secret : Revealed → List Revealed → Bool
has_secret x xs = is_revealed xs x.contract x.party x.secret

-- a commitment with its lengths by the strings z
abbrev pub committed_by : Setup → List (List ℕ) → Promise → Committed
committed_by s z p = record { contract = p.contract; party = p.party; lengths = lengths_in_run s z p.party p.digests }

-- an honest party's digest is that of its own secret, which was hashed
abbrev pub is_own : Setup → List (List ℕ) → Option (List ℕ) → Option (List ℕ) → Bool
is_own s hs o None = true
is_own s hs None (Some d) = false
is_own s hs (Some t) (Some d) = bytes_eq (s.hash t) d && is_secret_long t && is_among t hs

-- the configuration has the commitments with their lengths, and the secrets that are shown
pub record KeptSecrets (s : Setup) (z : List (List ℕ)) (g : Configuration) (w : World) : Type 0 where
  pub lengths : g.committed ≡ map (committed_by s z) w.promises
  pub revealed : (x : Revealed) → has_secret x g.revealed ≡ shown s w x
  -- what is committed is a secret of the run's contracts
  pub known : (x : Revealed) → is_some (digest_at w.promises x) ≡ true → has_secret x (all_secrets s) ≡ true
  pub own : (x : Revealed) → is_honest s x.party ≡ true
      → is_own s w.hashed (held_secret s x.party x.secret) (digest_at w.promises x) ≡ true
  pub clear : NoCollision s.hash w.hashed
  pub heard : (t : List ℕ) → is_among t w.posted ≡ true → is_among t w.hashed ≡ true
  pub once : Once w.promises
  -- an honest party's secret is posted only where its digest is committed
  pub early : (a n t : List ℕ) → held_secret s a n ≡ Some t → is_among t w.posted ≡ true
      → is_among (s.hash t) (used_digests w.promises) ≡ true
  -- who has committed to a contract has committed all its secrets
  pub full : (x : Revealed) → has_promised w x.contract x.party ≡ true
      → is_among x.secret (secrets_at s x.contract x.party) ≡ true → is_some (digest_at w.promises x) ≡ true
