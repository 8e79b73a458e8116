-- What the commands on a run answer, by how the run ends.
use Rattle.std.proofs.Common.{◌≡◌, ℕ, ◌==◌, Bool, true, false, cond, List, [], Option, Some, None, refl, sym, ap, subst, ◌∙◌}
use Rattle.std.specs.Prelude.{IfSome}
use Rattle.std.proofs.lemmas.Bool.{ne_eqb}
use Rattle.spec_terms.specs.Advert.{Advert}
use Rattle.spec_compiler.specs.Instance.{Instance}
use Rattle.spec_run.specs.declared.event.Event.{Event}
use Rattle.spec_run.specs.Setup.{Setup, contract_at}
use Rattle.spec_run.specs.World.{World}
use Rattle.spec_run.specs.Compiled.{compiled_instance, instance_if_complete, is_complete, instance_of}
use Rattle.spec_run.specs.Translation.{last_world}
use Rattle.spec_text.specs.PlanText.{unless_halted, plan_text, setting_text, make_text}
use Rattle.spec_text.specs.Played.{ending}
use Rattle.spec_tool.specs.declared.which.Which.{Which}
use Rattle.spec_tool.specs.Commands.{Printed, prints, ending_status, run_answer}
use Rattle.spec_tool.specs.Answers.{if_whole, printed_of}
use Rattle.spec_tool.specs.WeighText.{weigh_text}
use Rattle.spec_tool.specs.PsbtText.{psbt_text, which_psbt}
use Rattle.spec_tool.specs.Replies.{printed}
use Rattle.spec_tool.specs.declared.reply.Reply.{Reply}
use Rattle.bm_world.specs.Playing as world
use Rattle.tool_replies.specs.Last.{IsHalted, IsWhole}
use Rattle.tool_replies.specs.Counted.{run_counts}
use Rattle.tool_replies.specs.Weighed.{weigh_line}

-- ---- runs that were halted

pub halted_plan : (s : Setup) (es : List Event) (reply : Reply) → IsHalted s es reply → printed reply ≡ run_answer plan_text s es
unfolding plan_text
halted_plan s es reply h = h.replied (setting_text s.hash (compiled_instance s (last_world s es) 0))

pub halted_make : (s : Setup) (es : List Event) (reply : Reply) → IsHalted s es reply → printed reply ≡ run_answer make_text s es
unfolding make_text
halted_make s es reply h = h.replied (run_counts s es)

pub halted_if_whole : (s : Setup) (es : List Event) (reply : Reply) (answer : Setup → List Event → Printed) → IsHalted s es reply
    → printed reply ≡ if_whole answer s es
halted_if_whole s es reply answer h =
    h.replied [] ∙ sym (ap (λ b. cond b (answer s es) (prints (ending_status (ending s es)) (unless_halted (ending s es) [])))
    (ne_eqb (ending_status (ending s es)) 0 h.halted))

-- ---- runs that weren't

module _ {H : Type 0} (digest : H → List ℕ → List ℕ) (s : Setup) (es : List Event) (left : world.Played H) (w : IsWhole digest s es left) where
  whole_run : (text : List ℕ) → prints 0 text ≡ prints (ending_status (ending s es)) (unless_halted (ending s es) text)
  whole_run text = ap (λ n. prints n text) (sym w.unhalted) ∙ ap (prints (ending_status (ending s es))) (sym (w.told text))

  pub whole_plan : (text : List ℕ) → text ≡ setting_text s.hash (compiled_instance s left.world 0) → prints 0 text ≡ run_answer plan_text s es
  unfolding plan_text
  whole_plan text e =
      ap (prints 0) (e ∙ ap (λ (x : World). setting_text s.hash (compiled_instance s x 0)) (w.left_is.whole refl))
      ∙ whole_run (setting_text s.hash (compiled_instance s (last_world s es) 0))

  pub whole_make : (text : List ℕ) → text ≡ run_counts s es → prints 0 text ≡ run_answer make_text s es
  unfolding make_text
  whole_make text e = ap (prints 0) e ∙ whole_run (run_counts s es)

  pub whole_if : (answer : Setup → List Event → Printed) → answer s es ≡ if_whole answer s es
  whole_if answer = sym (ap (λ n. cond (n == 0) (answer s es) (prints n (unless_halted (ending s es) []))) w.unhalted)

  pub whole_weigh : (text : List ℕ) → text ≡ weigh_line s left.world → prints 0 text ≡ if_whole (printed_of weigh_text) s es
  unfolding weigh_text
  whole_weigh text e = ap (prints 0) (e ∙ ap (weigh_line s) (w.left_is.whole refl)) ∙ whole_if (printed_of weigh_text)

  pub whole_psbt : (which : Which) (text : List ℕ) → text ≡ which_psbt s left.world which → prints 0 text ≡ if_whole (printed_of (psbt_text which)) s es
  unfolding psbt_text
  whole_psbt which text e = ap (prints 0) (e ∙ ap (λ (x : World). which_psbt s x which) (w.left_is.whole refl)) ∙ whole_if (printed_of (psbt_text which))

-- ---- compiled contracts

complete_is : (w : World) (advert : Advert) (b : Bool) → IfSome (cond b (Some (instance_of w 0 advert)) None) (λ (i : Instance). i.advert ≡ advert)
complete_is w advert true = refl
complete_is w advert false = tt

-- what the contract is compiled with is of the contract
pub compiled_of : (s : Setup) (w : World) (advert : Advert) → contract_at s 0 ≡ Some advert
    → IfSome (compiled_instance s w 0) (λ (i : Instance). i.advert ≡ advert)
compiled_of s w advert e =
    subst (λ (o : Option Advert). IfSome (instance_if_complete w 0 o) (λ (i : Instance). i.advert ≡ advert)) (sym e)
    (complete_is w advert (is_complete w 0 advert))
