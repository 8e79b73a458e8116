-- What an event would come to, by what was prepared of it.
use Rattle.std.proofs.Common.{◌≡◌, ℕ, List, Option, Some, None, sym, ap, ◌∙◌}
use Rattle.std.specs.List.{find}
use Rattle.spec_data.specs.Messages.{collision}
use Rattle.spec_data.specs.Messages as run_messages
use Rattle.spec_run.specs.declared.event.Event.{Event}
use Rattle.spec_run.specs.declared.header.HeldSecret.{HeldSecret}
use Rattle.spec_run.specs.declared.outcome.Outcome.{Outcome}
use Rattle.spec_run.specs.Setup.{Setup}
use Rattle.spec_run.specs.World.{World}
use Rattle.spec_run.specs.Pending.{Pending, is_guessed, guess, apply}
use Rattle.spec_run.specs.Event.{pending}
use Rattle.bm_hash.specs.Messages.{evidence_of}
use Rattle.bm_hash.proofs.Collisions.{hashed_adds}
use Rattle.bm_world_board.specs.declared.pending_change.PendingChange.{PendingChange}
use Rattle.bm_world_board.specs.Prepares.{Prepares}
use Rattle.bm_world.specs.Foreseeing.{outcome_in, Foretells}

module _ (s : Setup) (w v : World) (new : List (List ℕ)) (e : Event) (x : PendingChange) (clear : evidence_of s.hash w.hashed ≡ None)
    (prepares : Prepares s.hash v w.hashed new (pending s w e) x) where
  heard : (new ≡ run_messages.noted_all w.hashed (pending s w e).hashes) × (collision s.hash w.hashed (pending s w e).hashes ≡ None)
  heard = hashed_adds s.hash w.hashed new ((pending s w e).hashes) clear prepares.hashed

  same_guess : find (is_guessed w.posted x.posts x.allowed) s.header.secrets
      ≡ guess s w.posted ((pending s w e).posts) ((pending s w e).allowed)
  same_guess = ap (λ (d : Pending). guess s w.posted d.posts d.allowed) prepares.same

  foretold : (result : Option Outcome) → result ≡ outcome_in (apply w (pending s w e) None (guess s w.posted ((pending s w e).posts) ((pending s w e).allowed)))
      → Foretells s w new e result
  foretold result comes = record {
    hashed = heard.0;
    clear = prepares.hashed.clear;
    calm = heard.1;
    comes = comes ∙ ap (λ c. outcome_in (apply w (pending s w e) c (guess s w.posted ((pending s w e).posts) ((pending s w e).allowed)))) (sym heard.1);
  }

  -- a secret would be guessed
  pub foretells_guess : (held : HeldSecret) → find (is_guessed w.posted x.posts x.allowed) s.header.secrets ≡ Some held
      → Foretells s w new e None
  foretells_guess held found = foretold None (ap (λ g. outcome_in (apply w (pending s w e) None g)) (sym (sym same_guess ∙ found)))

  -- none would be
  pub foretells_outcome : find (is_guessed w.posted x.posts x.allowed) s.header.secrets ≡ None → Foretells s w new e (Some x.outcome)
  foretells_outcome unguessed = foretold (Some x.outcome) (ap (λ (d : Pending). Some d.outcome) prepares.same
      ∙ ap (λ g. outcome_in (apply w (pending s w e) None g)) (sym (sym same_guess ∙ unguessed)))
