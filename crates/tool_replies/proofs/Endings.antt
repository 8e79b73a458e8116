-- How runs end, by what halts them.
use Rattle.std.proofs.Common.{◌≡◌, ℕ, List, Some, None, Result, refl, sym, ap, subst, ◌∙◌}
use Rattle.std.specs.Prelude.{IfOk}
use Rattle.std.proofs.lemmas.Option.{none-some, same_Some}
use Rattle.std.proofs.lemmas.Result.{IfOk-weaker}
use Rattle.spec_run.specs.declared.event.Event.{Event}
use Rattle.spec_run.specs.Setup.{Setup}
use Rattle.spec_run.specs.Pending as run
use Rattle.spec_run.specs.Event.{opening_collision}
use Rattle.spec_run.specs.Translation.{course, end_world, end_configuration, first_halt}
use Rattle.spec_text.specs.PlanText.{unless_halted}
use Rattle.spec_text.specs.PlayText as shown
use Rattle.spec_text.specs.PlayText.{Ending, collided_line, guessed_line}
use Rattle.spec_text.specs.Played.{halted, ending_by, ending_from, end_of, ending}
use Rattle.spec_tool.specs.Commands.{Printed, prints, ending_status}
use Rattle.spec_tool.specs.Replies.{printed}
use Rattle.spec_tool.specs.declared.reply.Reply.{Reply}
use Rattle.bm_world.specs.Playing as world
use Rattle.bm_world.specs.declared.halt.Halt.{Halt}
use Rattle.bm_world.specs.declared.halt.Halt.TheVariants.{Collided, Guessed, Memory}
use Rattle.bm_world.specs.Halts.{halt_of}
use Rattle.bm_world.specs.Starting.{Unopened}
use Rattle.tool_replies.specs.Whole.{IsLeft}
use Rattle.tool_replies.specs.Halting.{halt_printed}
use Rattle.tool_replies.specs.Last.{IsHalted, IsHaltedBy, IsWhole}

-- ---- how a run ends

-- its opening collides
pub unopened_is : (s : Setup) (es : List Event) (earlier later : List ℕ) → opening_collision s ≡ Some (earlier, later) → ending s es
    ≡ shown.collided None earlier later
unopened_is s es earlier later e = ap (λ o. ending_from (end_world s (course s es)) (end_configuration s (course s es)) o (first_halt s es)) e

-- an event is halted
pub halted_is : (s : Setup) (es : List Event) (e : Event) (halt : run.Halt) → opening_collision s ≡ None → first_halt s es ≡ Some (e, halt)
    → ending s es ≡ halted e halt
halted_is s es e halt opens h =
    ap (λ o. ending_from (end_world s (course s es)) (end_configuration s (course s es)) o (first_halt s es)) opens
    ∙ ap (ending_by (end_world s (course s es)) (end_configuration s (course s es))) h

-- none is
pub whole_is : (s : Setup) (es : List Event) → opening_collision s ≡ None → first_halt s es ≡ None
    → ending s es ≡ end_of (end_world s (course s es)) (end_configuration s (course s es))
whole_is s es opens h =
    ap (λ o. ending_from (end_world s (course s es)) (end_configuration s (course s es)) o (first_halt s es)) opens
    ∙ ap (ending_by (end_world s (course s es)) (end_configuration s (course s es))) h

-- ---- what is replied

abbrev OfEnding : Ending → Reply → Type 0
OfEnding end reply = (ending_status end ≡ 0 → ⊥) × ((text : List ℕ) → printed reply ≡ prints (ending_status end) (unless_halted end text))

of_ending : (s : Setup) (es : List Event) (reply : Reply) (end : Ending) → ending s es ≡ end → OfEnding end reply → IsHalted s es reply
of_ending s es reply end e h =
    let k : OfEnding (ending s es) reply = subst (λ (x : Ending). OfEnding x reply) (sym e) h in
    record { halted = k.0; replied = k.1 }

-- the reply of a halt
told_of : (reply : Reply) (told : Printed) → Some (printed reply) ≡ Some told → printed reply ≡ told
told_of reply told e = same_Some (printed reply) told e

-- the opening collided
pub unopened_halts : (s : Setup) (es : List Event) (halt : Halt) → Unopened s halt → IsHaltedBy s es halt
unopened_halts s es (Collided earlier later) u reply told =
    of_ending s es reply (shown.collided None earlier later) (unopened_is s es earlier later (u.collided earlier later refl))
    ((λ f. absurd (cc)), λ text. told_of reply (prints 8 (collided_line earlier later)) told)
unopened_halts s es (Guessed party secret) u reply told = absurd (u.unguessed party secret refl)
unopened_halts s es Memory u reply told = absurd (none-some (printed reply) (sym told))

-- an event was halted
pub stopped_ending : {H : Type 0} (digest : H → List ℕ → List ℕ) (s : Setup) (es : List Event) (left : world.Played H) (n : ℕ) (halt : Halt)
    → (l : IsLeft digest s es left (Some (n, halt))) → (h : run.Halt) → halt_of halt ≡ Some h → ending s es ≡ halted (l.stops.0) h
stopped_ending digest s es left n halt l h named =
    let k = l.stops in
    let same : k.1 ≡ h = same_Some (k.1) h (sym (k.3) ∙ named) in
    halted_is s es (k.0) h l.run.opens (k.4 ∙ ap (λ x. Some (k.0, x)) same)

pub stopped_halts : {H : Type 0} (digest : H → List ℕ → List ℕ) (s : Setup) (es : List Event) (left : world.Played H) (n : ℕ) (halt : Halt)
    → IsLeft digest s es left (Some (n, halt)) → IsHaltedBy s es halt
stopped_halts digest s es left n (Collided earlier later) l reply told =
    of_ending s es reply (shown.collided (Some (l.stops.0)) earlier later)
    (stopped_ending digest s es left n (Collided earlier later) l (run.Collided earlier later) refl)
    ((λ f. absurd (cc)), λ text. told_of reply (prints 8 (collided_line earlier later)) told)
stopped_halts digest s es left n (Guessed party secret) l reply told =
    of_ending s es reply (shown.guessed (l.stops.0) party secret)
    (stopped_ending digest s es left n (Guessed party secret) l (run.Guessed party secret) refl)
    ((λ f. absurd (cc)), λ text. told_of reply (prints 7 (guessed_line party secret)) told)
stopped_halts digest s es left n Memory l reply told = absurd (none-some (printed reply) (sym told))

-- what is replied then
pub halted_told : {E : Type 0} (r : Result Reply E) (s : Setup) (es : List Event) (halt : Halt) (Q : Reply → Type 0) → IsHaltedBy s es halt
    → IfOk r (λ reply. Some (printed reply) ≡ halt_printed halt) → ((reply : Reply) → IsHalted s es reply → Q reply) → IfOk r Q
halted_told r s es halt Q h told q =
    IfOk-weaker r (λ reply. Some (printed reply) ≡ halt_printed halt) Q (λ reply t. q reply (h reply t)) told

pub whole_left : {H : Type 0} (digest : H → List ℕ → List ℕ) (s : Setup) (es : List Event) (left : world.Played H)
    → IsLeft digest s es left None → IsWhole digest s es left
whole_left digest s es left l =
    let e = whole_is s es l.run.opens l.stops in
    record {
      unhalted = ap ending_status e;
      told = λ text. ap (λ (x : Ending). unless_halted x text) e;
      left_is = l;
    }
