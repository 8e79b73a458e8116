-- A run with one more event, which is done and hashes and posts nothing.
use Rattle.std.proofs.Common.{◌≡◌, ℕ, List, [], ◌∷◌, ◌++◌, Option, None, refl, sym, ap, ◌∙◌, append-nil}
use Rattle.std.specs.List.{find}
use Rattle.spec_data.specs.Messages.{collision}
use Rattle.spec_calculus.specs.Steps.{after_steps}
use Rattle.spec_run.specs.declared.event.Event.{Event}
use Rattle.spec_run.specs.declared.header.HeldSecret.{HeldSecret}
use Rattle.spec_run.specs.Setup.{Setup}
use Rattle.spec_run.specs.World.{World}
use Rattle.spec_run.specs.Pending.{Pending, done, guess, is_guessed, applied, apply, answer}
use Rattle.spec_run.specs.Event.{Passed, Progress, pending, opening_world, played}
use Rattle.spec_run.specs.Steps.{done_steps}
use Rattle.spec_run.specs.Translation.{turn_of, world_after, opening_configuration, last_configuration, last_world, first_halt}
use Rattle.spec_run.specs.Conditions.{IsEvent}
use Rattle.spec_run.specs.Statements.{IsRun}
use Rattle.spec_run.proofs.Courses.{left_more, last_left, reached, reached_more, passing, played_more}
use Rattle.spec_next.specs.declared.outlook.Ruling.TheVariants as rulings
use Rattle.spec_next.specs.Prospects.{ruling, ruling_of}
use Rattle.theory_run.proofs.Following.{run_posts}
use Rattle.theory_run.proofs.Worlds.Committed.{all_push}

abbrev with_one : List Passed → Passed → Progress
with_one ps p = record { passed = ps ++ p ∷ []; halt = None }

-- nothing is guessed where nothing is posted
pub none_guessed : (posted : List (List ℕ)) (allowed : Option (List ℕ × List ℕ)) (xs : List HeldSecret)
    → find (is_guessed posted [] allowed) xs ≡ None
none_guessed posted allowed [] = refl
none_guessed posted allowed (x ∷ xs) = none_guessed posted allowed xs

module _ (s : Setup) (es : List Event) (run : IsRun s es) (on : first_halt s es ≡ None) (e : Event) (is : IsEvent s e) (next : World)
    (is_done : pending s (last_world s es) e ≡ done next []) where
  abbrev w : World
  w = last_world s es

  abbrev pub after : World
  after = applied w (done next [])

  calm : collision s.hash w.hashed (pending s w e).hashes ≡ None
  calm = ap (λ (d : Pending). collision s.hash w.hashed d.hashes) is_done

  unguessed : guess s w.posted (pending s w e).posts (pending s w e).allowed ≡ None
  unguessed = ap (λ (d : Pending). guess s w.posted d.posts d.allowed) is_done ∙ none_guessed w.posted None s.header.secrets

  pub can : ruling s w e ≡ rulings.Can
  can =
      ap (λ (d : Pending). ruling_of (answer s w d)) is_done
      ∙ ap (λ u. ruling_of (apply w (done next []) None u)) (none_guessed w.posted None s.header.secrets)

  left : w ≡ world_after (opening_world s) (played s es).passed
  left = last_left s (run_posts s es) (played s es).passed (opening_configuration s) (opening_world s)

  more : played s (es ++ e ∷ []) ≡ with_one (played s es).passed (passing s w e)
  more = played_more s es e (opening_world s) w on (sym left) calm unguessed

  pub is_run : IsRun s (es ++ e ∷ [])
  is_run = record { setup = run.setup; opens = run.opens; events = all_push (IsEvent s) es e run.events is }

  pub goes_on : first_halt s (es ++ e ∷ []) ≡ None
  goes_on = ap (λ (p : Progress). p.halt) more

  world_more : world_after (opening_world s) (played s (es ++ e ∷ [])).passed ≡ applied w (pending s w e)
  world_more =
      ap (λ (p : Progress). world_after (opening_world s) p.passed) more
      ∙ left_more (played s es).passed (passing s w e) (opening_world s)

  pub last_world_is : last_world s (es ++ e ∷ []) ≡ after
  last_world_is =
      last_left s (run_posts s (es ++ e ∷ [])) (played s (es ++ e ∷ [])).passed (opening_configuration s) (opening_world s)
      ∙ world_more ∙ ap (applied w) is_done

  posts_same : run_posts s (es ++ e ∷ []) ≡ run_posts s es
  posts_same =
      ap (λ (x : World). x.posted) world_more ∙ ap (λ (d : Pending). (applied w d).posted) is_done ∙ append-nil w.posted
      ∙ ap (λ (x : World). x.posted) left

  pub last_configuration_is : last_configuration s (es ++ e ∷ [])
      ≡ after_steps (last_configuration s es) (done_steps s (run_posts s es) w after e)
  last_configuration_is =
      let g = opening_configuration s in
      let o = opening_world s in
      ap (λ y. reached s y g o (played s (es ++ e ∷ [])).passed) posts_same
      ∙ ap (λ (p : Progress). reached s (run_posts s es) g o p.passed) more
      ∙ reached_more s (run_posts s es) (played s es).passed (passing s w e) g o
      ∙ ap (λ x. (turn_of s (run_posts s es) (last_configuration s es) x (passing s w e)).configuration) (sym left)
      ∙ ap (λ (d : Pending). (turn_of s (run_posts s es) (last_configuration s es) w
      (record { event = e; pending = d; world = applied w d })).configuration) is_done
