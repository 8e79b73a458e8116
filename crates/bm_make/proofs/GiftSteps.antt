-- One gift or one stage of several, and then the others.
use Rattle.std.proofs.Common.{◌≡◌, ℕ, zero, suc, ◌+◌, ◌-◌, ◌<◌, List, ◌++◌, ap, refl, ◌∙◌, arith}
use Rattle.std.proofs.lemmas.Grind.{flat_map-append}
use Rattle.spec_run.specs.declared.event.Event.{Event}
use Rattle.spec_text.specs.RunText.{event_text, newline}
use Rattle.spec_text.specs.Generator.{Going, gift_from, gifts, stage_events, all_stages}
use Rattle.bm_make.specs.Lines.{lines}
use Rattle.bm_make.specs.Stages.{stage_with, stages_with}

less_one : (k i : ℕ) → i < k → k - i ≡ suc (k - (i + 1))
less_one k i h = omega arith

lines_append : (ds es : List Event) → lines (ds ++ es) ≡ lines ds ++ lines es
lines_append ds es = flat_map-append (λ e. event_text e ++ newline) ds es

-- the lines of the gifts that are left
pub gift_lines : (k i : ℕ) (g : Going) → i < k
    → lines ((gifts (k - i) g).0) ≡ lines ((gift_from g.queue g).0) ++ lines ((gifts (k - (i + 1)) ((gift_from g.queue g).1)).0)
gift_lines k i g h =
    ap (λ n. lines ((gifts n g).0)) (less_one k i h)
    ∙ lines_append ((gift_from g.queue g).0) ((gifts (k - (i + 1)) ((gift_from g.queue g).1)).0)

pub gift_going : (k i : ℕ) (g : Going) → i < k → (gifts (k - i) g).1 ≡ (gifts (k - (i + 1)) ((gift_from g.queue g).1)).1
gift_going k i g h = ap (λ n. (gifts n g).1) (less_one k i h)

-- the lines of the stages that are left
pub stage_lines : (n k i : ℕ) (g : Going) → i < k
    → lines (stages_with n (k - i) (i + 1) g)
    ≡ lines ((stage_with n (i + 1) g).0) ++ lines (stages_with n (k - (i + 1)) (i + 1 + 1) ((stage_with n (i + 1) g).1))
stage_lines n k i g h =
    ap (λ m. lines (stages_with n m (i + 1) g)) (less_one k i h)
    ∙ lines_append ((stage_with n (i + 1) g).0) (stages_with n (k - (i + 1)) (i + 1 + 1) ((stage_with n (i + 1) g).1))

-- the stages of the definition are those with 300 gifts
pub stages_are : (k j : ℕ) (g : Going) → stages_with 300 k j g ≡ all_stages k j g
stages_are zero j g = refl
stages_are (suc k) j g = ap (λ es. (stage_events j g).0 ++ es) (stages_are k (j + 1) ((stage_events j g).1))
