-- A run is walked, and the steps so far are counted.
use Rattle.std.proofs.Common.{◌≡◌, ℕ, ◌+◌, ◌<◌, ◌^◌, List, [], ◌∷◌, ◌++◌, length, sym, ap, ◌∙◌}
use Rattle.std.proofs.lemmas.List.Sums.{sum_by_push}
use Rattle.spec_calculus.specs.declared.step.Step.{Step}
use Rattle.spec_calculus.specs.Configuration.{Configuration}
use Rattle.spec_run.specs.declared.outcome.Record.{Record}
use Rattle.spec_run.specs.Setup.{Setup}
use Rattle.spec_run.specs.World.{World}
use Rattle.spec_run.specs.Steps.{outcome_steps}
use Rattle.spec_text.specs.PlanText.{step_count}
use Rattle.bm_world_board.specs.declared.board.Board.{Board}
use Rattle.bm_translate.specs.declared.running.Running.{Running}
use Rattle.bm_translate.specs.Shown.{posts_of}
use Rattle.bm_translate.specs.Moments.{IsTurn}
use Rattle.bm_translate_course.specs.Courses.{IsNext, passed_by, IsUnderWay}
use Rattle.bm_translate_course.proofs.Course.{is_next, goes_on, ended}

-- so many events are played, which stand for so many steps, and these records are left
pub record IsTallied (s : Setup) (b : Board) (messages : List (List ℕ)) (f : World) (r : Running) (rest : List Record) (count : ℕ)
    (all : List (List Step)) (last : Configuration) : Type 0 where
  pub so_far : List (List Step)
  pub counted : count ≡ step_count so_far
  pub under_way : IsUnderWay s b messages f r rest so_far all last

module _ (s : Setup) (b : Board) (messages : List (List ℕ)) (f : World) (room : length f.outputs < 2 ^ 32) (r : Running) (rest : List Record)
    (count : ℕ) (all : List (List Step)) (last : Configuration) where
  module _ (x : Record) (at : IsTallied s b messages f r (x ∷ rest) count all last) where
    pub next_counted : IsNext s b messages r x
    next_counted = is_next s b messages f room r rest at.so_far all last x at.under_way

    -- the steps of one more event are counted
    pub tallied_on : (made : List Step) (new : Running) (more : ℕ) → more ≡ count + length made
        → ((end w next : World) → IsTurn s b messages end w next r x
        → (made ≡ outcome_steps s end.posted r.config w next x.event x.tx x.outcome) × (new ≡ passed_by r made (posts_of b.header.secrets x)))
        → IsTallied s b messages f new rest more all last
    tallied_on made new more e says = record {
      so_far = at.so_far ++ made ∷ [];
      counted = e ∙ ap (λ n. n + length made) at.counted ∙ sym (sum_by_push length at.so_far made);
      under_way = goes_on s b messages f room r rest at.so_far all last x at.under_way made new says;
    }

  -- all are
  pub all_tallied : IsTallied s b messages f r [] count all last → (count ≡ step_count all) × (r.config ≡ last)
  all_tallied at =
      let end = ended s b messages f room r [] at.so_far all last at.under_way in
      (at.counted ∙ ap step_count end.0, end.1)
