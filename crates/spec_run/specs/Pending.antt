-- What an event comes to where nothing collides and nothing is guessed, and what is left of it.
use Rattle.std.specs.Prelude.{ℕ, List, [], ◌∷◌, ◌++◌, Bool, false, not, ◌&&◌, Option, Some, None}
use Rattle.std.specs.List.{find}
use Rattle.std.specs.Str.{bytes_eq}
use Rattle.spec_data.specs.Lists.{is_among}
use Rattle.spec_bitcoin.specs.declared.tx.Tx.{Tx}
use Rattle.spec_run.specs.declared.header.HeldSecret.{HeldSecret}
use Rattle.spec_run.specs.declared.outcome.Outcome.{Outcome}
use Rattle.spec_run.specs.declared.outcome.Outcome.TheVariants.{Done, Refused}
use Rattle.spec_run.specs.declared.outcome.Reason.{Reason}
use Rattle.spec_run.specs.Setup.{Setup}
use Rattle.spec_data.specs.Messages.{noted_all, collision}
use Rattle.spec_run.specs.World.{World}

pub record Pending : Type 0 where
  pub outcome : Outcome
  -- the accepted transaction with its witnesses
  pub tx : Option Tx
  -- the next world, but for what is hashed and posted
  pub world : World
  -- the strings that are hashed, in order
  pub hashes : List (List ℕ)
  -- the strings that are posted, in order
  pub posts : List (List ℕ)
  -- the secret that the event may post, by its owner and its name
  pub allowed : Option (List ℕ × List ℕ)

-- a refused event leaves the world as it is, and may have hashed strings
abbrev pub refused : World → List (List ℕ) → Reason → Pending
refused w hashes reason = record { outcome = Refused reason; tx = None; world = w; hashes = hashes; posts = []; allowed = None }

-- an event that is done, makes this world and hashes these strings
abbrev pub done : World → List (List ℕ) → Pending
done w hashes = record { outcome = Done; tx = None; world = w; hashes = hashes; posts = []; allowed = None }

-- an event that is done, and posts this string
abbrev pub posting : World → List ℕ → Option (List ℕ × List ℕ) → Pending
posting w string allowed = record { outcome = Done; tx = None; world = w; hashes = string ∷ []; posts = string ∷ []; allowed = allowed }

-- refused for the reason, where there is one, after these strings were hashed; else the pending effect
abbrev pub unless : Option Reason → World → List (List ℕ) → Pending → Pending
unless (Some reason) w hashes pending = refused w hashes reason
unless None w hashes pending = pending

-- ---- what halts a run

pub data Halt : Type 0 where
  -- two different messages with one digest, the earlier one first
  Collided : (earlier later : List ℕ) → Halt
  -- a secret that was posted by an event that isn't its owner's reveal of it
  Guessed : (party secret : List ℕ) → Halt

-- whether it is the secret that the event may post
abbrev pub is_allowed : Option (List ℕ × List ℕ) → HeldSecret → Bool
is_allowed None held = false
is_allowed (Some p) held = bytes_eq (p.0) held.party && bytes_eq (p.1) held.name

-- whether these strings hold the bytes of a secret that isn't posted and may not be
abbrev pub is_guessed : List (List ℕ) → List (List ℕ) → Option (List ℕ × List ℕ) → HeldSecret → Bool
is_guessed posted posts allowed held = is_among held.bytes posts && not (is_among held.bytes posted) && not (is_allowed allowed held)

-- the first secret of the header that is guessed
abbrev pub guess : Setup → List (List ℕ) → List (List ℕ) → Option (List ℕ × List ℕ) → Option HeldSecret
guess s posted posts allowed = find (is_guessed posted posts allowed) s.header.secrets

-- ---- what is left of an event

pub data Answer : Type 0 where
  -- the event came to this, and left this world
  Went : (pending : Pending) → (next : World) → Answer
  Halted : (halt : Halt) → Answer

-- the world with what the pending effect hashed and posted
abbrev pub applied : World → Pending → World
applied w d = record d.world { hashed = noted_all w.hashed d.hashes; posted = w.posted ++ d.posts }

-- a collision comes before a guess, and either halts the run
abbrev pub apply : World → Pending → Option (List ℕ × List ℕ) → Option HeldSecret → Answer
apply w d (Some pair) guessed = Halted (Collided (pair.0) (pair.1))
apply w d None (Some held) = Halted (Guessed held.party held.name)
apply w d None None = Went d (applied w d)

-- what is left of a pending effect
abbrev pub answer : Setup → World → Pending → Answer
answer s w d = apply w d (collision s.hash w.hashed d.hashes) (guess s w.posted d.posts d.allowed)
