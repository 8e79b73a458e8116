-- Worlds in which only more was hashed.
use Rattle.std.proofs.Common.{◌≡◌, ℕ, List, [], ◌∷◌, ◌++◌, Option, Some, None, refl, sym, ap, subst, ◌∙◌, inr}
use Rattle.std.specs.Prelude.{IsSome}
use Rattle.std.specs.Option.{option_or}
use Rattle.std.proofs.lemmas.Option.{none-some}
use Rattle.spec_data.specs.Messages.{noted, noted_all, collision_with, collision}
use Rattle.spec_bitcoin.specs.declared.tx.Tx.{Tx}
use Rattle.spec_run.specs.declared.event.Event.{Event}
use Rattle.spec_run.specs.World.{World}
use Rattle.spec_run.specs.declared.outcome.Outcome.{Outcome}
use Rattle.spec_run.specs.Event.{pending}
use Rattle.spec_run.specs.Ledger.{strings_of}
use Rattle.theory_run.proofs.Worlds.Hashed.{noted-append}
use Rattle.bm_hash.specs.Messages.{evidence_of}
use Rattle.bm_world.specs.declared.halt.Halt.{Halt}
use Rattle.bm_world.specs.declared.halt.Halt.TheVariants.{Collided, Guessed, Memory}
use Rattle.bm_world.specs.Playing.{Played, SameSetup, setup_in, OnlyHears, StoppedJudging}
use Rattle.bm_world.specs.Foreseeing.{Foresees, StoppedForeseeing}
use Rattle.bm_world.specs.Halts.{IsAgain}
use Rattle.bm_world.proofs.Stopped.{stopped_again, kept_halt}
use Rattle.bm_world_heard.specs.Heard.{Hears, Stopped, Calm, Reaches}

-- ---- collisions of more strings

pub neither : {A : Type 0} (a b : Option A) → option_or a b ≡ None → (a ≡ None) × (b ≡ None)
neither None b h = (refl, h)
neither (Some x) b h = cc

pub collision-calm : (hash : List ℕ → List ℕ) (ms xs ys : List (List ℕ)) → collision hash ms xs ≡ None
    → collision hash ms (xs ++ ys) ≡ collision hash (noted_all ms xs) ys
collision-calm hash ms [] ys h = refl
collision-calm hash ms (x ∷ xs) ys h =
    let p = neither (collision_with hash ms x) (collision hash (noted ms x) xs) h in
    ap (λ o. option_or o (collision hash (noted ms x) (xs ++ ys))) p.0 ∙ collision-calm hash (noted ms x) xs ys p.1

shown_first : (a b c : Option (List ℕ × List ℕ)) → IsSome (option_or a b) → (IsSome b → c ≡ b) → option_or a c ≡ option_or a b
shown_first None b c h later = later h
shown_first (Some x) b c h later = refl

pub collision-shown : (hash : List ℕ → List ℕ) (ms xs ys : List (List ℕ)) → IsSome (collision hash ms xs)
    → collision hash ms (xs ++ ys) ≡ collision hash ms xs
collision-shown hash ms [] ys h = cc
collision-shown hash ms (x ∷ xs) ys h =
    shown_first (collision_with hash ms x) (collision hash (noted ms x) xs) (collision hash (noted ms x) (xs ++ ys)) h
    (collision-shown hash (noted ms x) xs ys)

-- ---- worlds

module _ {H : Type 0} (digest : H → List ℕ → List ℕ) where
  pub setup_same : (old new : Played H) → SameSetup old new → setup_in digest new ≡ setup_in digest old
  setup_same old new h = λ i. record { hash = digest (h.hasher i); header = h.header i; contracts = h.contracts i }

  pub same_again : (old mid new : Played H) → SameSetup old mid → SameSetup mid new → SameSetup old new
  same_again old mid new h k = record { hasher = k.hasher ∙ h.hasher; header = k.header ∙ h.header; contracts = k.contracts ∙ h.contracts }

  pub hears_none : (old : Played H) → Hears old old old.world.hashed
  hears_none old = record { setup = record { hasher = refl; header = refl; contracts = refl }; halt = refl; world = refl; trace = refl }

  pub calm_none : (old : Played H) → Calm digest old old []
  calm_none old = record { hears = hears_none old; calm = refl }

  -- what was hashed is what is there
  pub hears_own : (old new : Played H) (hashed : List (List ℕ)) → Hears old new hashed → Hears old new new.world.hashed
  hears_own old new hashed h = record {
    setup = h.setup;
    halt = h.halt;
    world = h.world ∙ ap (λ (hs : List (List ℕ)). record old.world { hashed = hs }) (sym (ap (λ (w : World). w.hashed) h.world));
    trace = h.trace;
  }

  pub hears_again : (old mid new : Played H) (first hashed : List (List ℕ)) → Hears old mid first → Hears mid new hashed → Hears old new hashed
  hears_again old mid new first hashed h k = record {
    setup = same_again old mid new h.setup k.setup;
    halt = k.halt ∙ h.halt;
    world = k.world ∙ ap (λ (w : World). record w { hashed = hashed }) h.world;
    trace = k.trace ∙ h.trace;
  }

  -- of a run that goes on
  pub hears_only : (old new : Played H) (hashed : List (List ℕ)) → OnlyHears old new hashed → Hears old new hashed
  hears_only old new hashed h = record {
    setup = h.setup;
    halt = h.going.1 ∙ sym h.going.0;
    world = h.world;
    trace = h.trace;
  }

  -- ---- a transaction that was judged

  pub judging_stopped : (old new : Played H) (tx : Tx) (halt : Halt) → StoppedJudging digest old new tx halt
      → Stopped digest old new (strings_of (setup_in digest old) old.world tx) halt
  judging_stopped old new tx halt h = record {
    setup = h.setup;
    kept = h.kept;
    trace = h.trace;
    halted = kept_halt old new halt _ h;
    again = λ earlier q. (h.again earlier q).0;
    cause = λ none. let why = h.cause none in record { collided = why.collided; shown = why.shown; unguessed = why.unguessed };
  }

  -- ---- an event that was asked for

  pub foreseen_calm : (old new : Played H) (e : Event) (result : Option Outcome) → Foresees digest old new e result
      → Calm digest old new (pending (setup_in digest old) old.world e).hashes
  foreseen_calm old new e result f = record { hears = hears_only old new _ f.hears; calm = f.calm }

  pub foreseeing_stopped : (old new : Played H) (e : Event) (halt : Halt) → StoppedForeseeing digest old new e halt
      → Stopped digest old new (pending (setup_in digest old) old.world e).hashes halt
  foreseeing_stopped old new e halt h = record {
    setup = h.setup;
    kept = h.kept;
    trace = h.trace;
    halted = kept_halt old new halt _ h;
    again = λ earlier q. (h.again earlier q).0;
    cause = λ none. let why = h.cause none in record { collided = why.collided; shown = why.shown; unguessed = why.unguessed };
  }

  -- ---- a run that has halted

  pub halted_before : (old : Played H) (strings : List (List ℕ)) (kept halt : Halt) → old.halt ≡ Some kept → IsAgain kept halt
      → Stopped digest old old strings halt
  halted_before old strings kept halt at again =
      let h = stopped_again old kept halt (Unit {0}) at again in
      record {
        setup = h.setup;
        kept = h.kept;
        trace = h.trace;
        halted = kept_halt old old halt (Unit {0}) h;
        again = λ earlier e. (h.again earlier e).0;
        cause = λ none. absurd (none-some kept (sym none ∙ at));
      }

  -- ---- out of memory

  pub outstanding : (old new : Played H) (hashed strings : List (List ℕ)) (halt : Halt) → Hears old new hashed → halt ≡ Memory
      → Stopped digest old new strings halt
  outstanding old new hashed strings halt h e = record {
    setup = h.setup;
    kept = (hears_own old new hashed h).world;
    trace = h.trace;
    halted = λ f. absurd (f e);
    again = λ earlier q. inr e;
    cause = λ none. record {
      collided = λ earlier later c. absurd (not_collided earlier later (sym e ∙ c));
      shown = λ earlier later c. absurd (not_collided earlier later (sym e ∙ c));
      unguessed = λ party secret g. not_guessed party secret (sym e ∙ g);
    };
  }
    where
      not_collided : (earlier later : List ℕ) → Memory ≡ Collided earlier later → ⊥
      not_collided earlier later q = cc

      not_guessed : (party secret : List ℕ) → Memory ≡ Guessed party secret → ⊥
      not_guessed party secret q = cc

  -- the same strings
  pub stopped_same : (old new : Played H) (xs ys : List (List ℕ)) (halt : Halt) → xs ≡ ys → Stopped digest old new xs halt
      → Stopped digest old new ys halt
  stopped_same old new xs ys halt e h = subst (λ (zs : List (List ℕ)). Stopped digest old new zs halt) e h

  -- ---- strings that are hashed in turn

  pub reach_none : (old : Played H) (all : List (List ℕ)) → Reaches digest old old all all
  reach_none old all = record { hears = hears_none old; hashed = refl; calm = refl }

  module _ (old mid new : Played H) (rest all xs left here : List (List ℕ)) (r : Reaches digest old mid rest all) (cut : rest ≡ xs ++ left)
      (same : here ≡ xs) where
    hash_same : digest mid.hasher ≡ digest old.hasher
    hash_same = ap digest r.hears.setup.hasher

    pub reach_more : Calm digest mid new here → Reaches digest old new left all
    reach_more c =
        let heard : new.world.hashed ≡ noted_all mid.world.hashed xs =
        ap (λ (x : World). x.hashed) c.hears.world ∙ ap (noted_all mid.world.hashed) same in
        let none : collision (digest old.hasher) mid.world.hashed xs ≡ None =
        (λ i. collision (sym hash_same i) mid.world.hashed (sym same i)) ∙ c.calm in
        record {
          hears = hears_own old new _ (hears_again old mid new mid.world.hashed (noted_all mid.world.hashed here) r.hears c.hears);
          hashed =
              ap (λ (hs : List (List ℕ)). noted_all hs left) heard ∙ sym (noted-append mid.world.hashed xs left)
              ∙ ap (noted_all mid.world.hashed) (sym cut) ∙ r.hashed;
          calm =
              ap (λ (hs : List (List ℕ)). collision (digest old.hasher) hs left) heard
              ∙ sym (collision-calm (digest old.hasher) mid.world.hashed xs left none)
              ∙ ap (collision (digest old.hasher) mid.world.hashed) (sym cut) ∙ r.calm;
        }

    pub reach_stopped : (halt : Halt) → Stopped digest mid new here halt → Stopped digest old new all halt
    reach_stopped halt h = record {
      setup = same_again old mid new r.hears.setup h.setup;
      kept = h.kept ∙ ap (λ (x : World). record x { hashed = new.world.hashed }) r.hears.world;
      trace = h.trace ∙ r.hears.trace;
      halted = h.halted;
      again = λ earlier e. h.again earlier (r.hears.halt ∙ e);
      cause = λ none.
          let why = h.cause (r.hears.halt ∙ none) in
          record {
            collided = λ earlier later e.
                let known : collision (digest mid.hasher) mid.world.hashed here ≡ collision (digest old.hasher) mid.world.hashed xs =
                (λ i. collision (hash_same i) mid.world.hashed (same i)) in
                let found : collision (digest old.hasher) mid.world.hashed xs ≡ Some (earlier, later) = sym known ∙ why.collided earlier later e in
                let shown : IsSome (collision (digest old.hasher) mid.world.hashed xs) = subst IsSome (sym found) refl in
                sym r.calm ∙ ap (collision (digest old.hasher) mid.world.hashed) cut
                ∙ collision-shown (digest old.hasher) mid.world.hashed xs left shown ∙ found;
            shown = λ earlier later e.
                ap (λ (hash : List ℕ → List ℕ). evidence_of hash new.world.hashed) (sym hash_same) ∙ why.shown earlier later e;
            unguessed = why.unguessed;
          };
    }

  pub reach_end : (old new : Played H) (all : List (List ℕ)) → Reaches digest old new [] all → Calm digest old new all
  reach_end old new all r = record { hears = subst (Hears old new) r.hashed r.hears; calm = sym r.calm }
