-- What is replied of a run that is played.
use Rattle.std.proofs.Common.{◌≡◌, ℕ, List, Option, Some, None, Result, Ok, Err, refl, sym, ap, ◌∙◌}
use Rattle.std.specs.Prelude.{IfOk}
use Rattle.std.proofs.lemmas.Option.{none-some, same_Some}
use Rattle.spec_data.specs.Messages.{collision}
use Rattle.spec_calculus.specs.Configuration.{Configuration}
use Rattle.spec_run.specs.declared.event.Event.{Event}
use Rattle.spec_run.specs.Setup.{Setup}
use Rattle.spec_run.specs.World.{World}
use Rattle.spec_run.specs.Translation.{last_configuration, last_world}
use Rattle.spec_text.specs.PlayText.{collided_line}
use Rattle.spec_tool.specs.Answers.{if_whole}
use Rattle.spec_tool.specs.Commands.{Printed, prints}
use Rattle.spec_next.specs.declared.outlook.Outlook.{Outlook}
use Rattle.spec_next.specs.Candidates.{all_candidates}
use Rattle.spec_next.specs.Prospects.{outlooks}
use Rattle.spec_next.specs.declared.form.Form.{Form}
use Rattle.spec_next.specs.Forms.{told_text, next_text}
use Rattle.spec_next.specs.Foreseen.{foreseen_strings, foreseen_collision, unless_collided, next_printed}
use Rattle.spec_tool.specs.Replies.{printed}
use Rattle.spec_tool.specs.declared.reply.Reply.{Reply}
use Rattle.bm_world.specs.declared.halt.Halt.{Halt}
use Rattle.bm_world.specs.declared.halt.Halt.TheVariants.{Collided, Guessed, Memory}
use Rattle.bm_world.specs.Playing.{Played, setup_in}
use Rattle.bm_translate_course.specs.Courses.{events_of}
use Rattle.tool_replies.specs.Halting.{halt_printed}
use Rattle.tool_replies.specs.Last.{IsWhole}
use Rattle.tool_replies.proofs.Ended.{whole_if}
use Rattle.tool_replies.proofs.Left.{last_is}
use Rattle.bm_world_heard.specs.Heard.{CollidesHere, Stopped}

-- ---- what is told

-- what is printed of this world
abbrev pub told_of : Form → Option (List ℕ) → Setup → Configuration → World → Printed
told_of form party s g w = unless_collided (foreseen_collision s g w) (told_text form party g (outlooks s g w))

pub told_path : (form : Form) (party : Option (List ℕ)) (s : Setup) (g : Configuration) (w : World) (list : List Outlook) → foreseen_collision s g w ≡ None → list ≡ outlooks s g w
    → prints 0 (told_text form party g list) ≡ told_of form party s g w
told_path form party s g w list none e =
    ap (λ (os : List Outlook). prints 0 (told_text form party g os)) e
    ∙ sym (ap (λ o. unless_collided o (told_text form party g (outlooks s g w))) none)

-- ---- a halt

collision_is : {E : Type 0} (r : Result Reply E) (hash : List ℕ → List ℕ) (old new strings : List (List ℕ)) (halt : Halt) (text : List ℕ)
    → CollidesHere hash old new strings halt → IfOk r (λ reply. Some (printed reply) ≡ halt_printed halt)
    → IfOk r (λ reply. printed reply ≡ unless_collided (collision hash old strings) text)
collision_is (Err e) hash old new strings halt text c h = tt
collision_is (Ok reply) hash old new strings (Collided earlier later) text c h =
    same_Some (printed reply) (prints 8 (collided_line earlier later)) h
    ∙ sym (ap (λ o. unless_collided o text) (c.collided earlier later refl))
collision_is (Ok reply) hash old new strings (Guessed party secret) text c h = absurd (c.unguessed party secret refl)
collision_is (Ok reply) hash old new strings Memory text c h = absurd (none-some (printed reply) (sym h))

-- it is the one that is answered
pub halted_is : {H E : Type 0} (form : Form) (party : Option (List ℕ)) (digest : H → List ℕ → List ℕ) (g : Configuration) (old new : Played H) (halt : Halt) (r : Result Reply E)
    → old.halt ≡ None
    → Stopped digest old new (foreseen_strings (setup_in digest old) old.world (all_candidates (setup_in digest old) g old.world)) halt
    → IfOk r (λ reply. Some (printed reply) ≡ halt_printed halt)
    → IfOk r (λ reply. printed reply ≡ told_of form party (setup_in digest old) g old.world)
halted_is form party digest g old new halt r going t h =
    collision_is r (digest old.hasher) old.world.hashed new.world.hashed
    (foreseen_strings (setup_in digest old) old.world (all_candidates (setup_in digest old) g old.world)) halt
    (told_text form party g (outlooks (setup_in digest old) g old.world)) (t.cause going) h

-- ---- after a run

module _ {H : Type 0} (form : Form) (party : Option (List ℕ)) (digest : H → List ℕ → List ℕ) (s : Setup) (es : List Event) (left : Played H) (w : IsWhole digest s es left) where
  configuration_is : last_configuration (setup_in digest left) (events_of left.trace) ≡ last_configuration s es
  configuration_is =
      ap (λ (t : Setup). last_configuration t (events_of left.trace)) w.left_is.setup
      ∙ last_is digest s es left None w.left_is (last_configuration s (events_of left.trace)) refl

  last_told : told_of form party s (last_configuration s es) (last_world s es) ≡ if_whole (next_printed form party) s es
  unfolding next_printed next_text
  last_told = whole_if digest s es left w (next_printed form party)

  pub whole_next : told_of form party (setup_in digest left) (last_configuration (setup_in digest left) (events_of left.trace)) left.world
      ≡ if_whole (next_printed form party) s es
  whole_next = (λ i. told_of form party (w.left_is.setup i) (configuration_is i) (w.left_is.whole refl i)) ∙ last_told
