-- An event of a run that is done and hashes nothing never halts.
use Rattle.std.proofs.Common.{◌≡◌, ℕ, List, [], ◌∷◌, ◌++◌, Some, None, sym, ap, ◌∙◌}
use Rattle.spec_data.specs.Messages.{collision}
use Rattle.spec_run.specs.declared.event.Event.{Event}
use Rattle.spec_run.specs.declared.header.HeldSecret.{HeldSecret}
use Rattle.spec_run.specs.Setup.{Setup}
use Rattle.spec_run.specs.World.{World}
use Rattle.spec_run.specs.Pending.{Pending, done, guess, applied}
use Rattle.spec_run.specs.Event.{pending, played}
use Rattle.spec_run.specs.Values.{is_refused}
use Rattle.spec_run.specs.Conditions.{IsEvent}
use Rattle.spec_run.specs.Translation.{last_world}
use Rattle.theory_next.proofs.OneMore.{none_guessed}
use Rattle.theory_next.proofs.Onward.{GoesSoFar, Fine, goes}

module _ (s : Setup) (es : List Event) (so : GoesSoFar s es) (e : Event) (is : IsEvent s e) (later : List Event) (next : World)
    (is_done : pending s (last_world s es) e ≡ done next []) where
  abbrev w : World
  w = last_world s es

  pub unguessed : (x : HeldSecret) → guess s w.posted (pending s w e).posts (pending s w e).allowed ≡ Some x → ⊥
  unguessed x h =
      let q = sym (ap (λ (d : Pending). guess s w.posted d.posts d.allowed) is_done ∙ none_guessed w.posted None s.header.secrets) ∙ h in cc

  uncollided : (pair : List ℕ × List ℕ) → collision s.hash w.hashed (pending s w e).hashes ≡ Some pair → ⊥
  uncollided pair h = let q = sym (ap (λ (d : Pending). collision s.hash w.hashed d.hashes) is_done) ∙ h in cc

  -- the run goes on with it
  pub passes_quietly : (GoesSoFar s (es ++ e ∷ []) → last_world s (es ++ e ∷ []) ≡ applied w (done next [])
      → Fine s (played s ((es ++ e ∷ []) ++ later))) → Fine s (played s (es ++ e ∷ later))
  passes_quietly go = goes s es so e is later
      (λ calm. ap (λ (d : Pending). is_refused d.outcome) is_done)
      (λ pair h. absurd (uncollided pair h))
      (λ x calm h. absurd (unguessed x h))
      (λ calm on. go on.so_far (on.world ∙ ap (applied w) is_done))
