-- What is replied to an audit.
use Rattle.std.proofs.Common.{◌≡◌, ℕ, List, [], ◌++◌, Option, Some, None, Result, Ok, Err, refl, sym, ap, subst, ◌∙◌}
use Rattle.std.specs.Prelude.{option_map, IfOk}
use Rattle.std.proofs.lemmas.Option.{none-some, same_Some}
use Rattle.spec_data.specs.Messages.{collision}
use Rattle.spec_compiler.specs.Instance.{Instance}
use Rattle.spec_run.specs.declared.event.Event.{Event}
use Rattle.spec_run.specs.Setup.{Setup}
use Rattle.spec_run.specs.World.{World}
use Rattle.spec_run.specs.Compiled.{compiled_instance}
use Rattle.spec_run.specs.Translation.{last_world}
use Rattle.spec_text.specs.PlayText.{collided_line}
use Rattle.spec_tool.specs.declared.finding.AuditReport.{AuditReport}
use Rattle.spec_tool.specs.Audit.{audit_report, audit_strings, audit_collision}
use Rattle.spec_tool.specs.Answers.{if_whole}
use Rattle.spec_tool.specs.Commands.{prints}
use Rattle.spec_tool.specs.PsbtText.{not_compiled_line}
use Rattle.spec_tool.specs.AuditText.{report_text, uncompiled_text, audit_text, audited, audit_answer}
use Rattle.spec_tool.specs.Replies.{printed}
use Rattle.spec_tool.specs.declared.reply.Reply.{Reply}
use Rattle.bm_compile.specs.Numbered.{Numbered, numbered}
use Rattle.bm_world.specs.declared.halt.Halt.{Halt}
use Rattle.bm_world.specs.declared.halt.Halt.TheVariants.{Collided, Guessed, Memory}
use Rattle.bm_world.specs.Playing.{Played, setup_in}
use Rattle.tool_replies.specs.Halting.{halt_printed}
use Rattle.tool_replies.specs.Last.{IsWhole}
use Rattle.tool_replies.proofs.Ended.{whole_if}
use Rattle.bm_world_heard.specs.Heard.{CollidesHere, Stopped}

-- ---- compiled or not

pub compiled_some : (hash : List ℕ → List ℕ) (o : Option Instance) (n : Numbered) → Some n ≡ option_map (numbered hash) o → [] ≡ uncompiled_text o
compiled_some hash None n h = absurd (none-some n (sym h))
compiled_some hash (Some instance) n h = refl

pub compiled_none : (hash : List ℕ → List ℕ) (o : Option Instance) → None ≡ option_map (numbered hash) o → not_compiled_line ≡ uncompiled_text o
compiled_none hash None h = refl
compiled_none hash (Some instance) h = absurd (none-some (numbered hash instance) h)

-- ---- a report

pub found_path : (s : Setup) (w : World) (text : List ℕ) (report : AuditReport) (last : List ℕ)
    → report ≡ audit_report s w 0 text → audit_collision s w text ≡ None → last ≡ uncompiled_text (compiled_instance s w 0)
    → prints 0 (report_text report ++ last) ≡ audited (audit_collision s w text) (audit_text s w text)
found_path s w text report last r none l =
    (λ i. prints 0 (report_text (r i) ++ l i)) ∙ sym (ap (λ o. audited o (audit_text s w text)) none)

-- ---- a halt

collision_is : {E : Type 0} (r : Result Reply E) (hash : List ℕ → List ℕ) (old new strings : List (List ℕ)) (halt : Halt) (text : List ℕ)
    → CollidesHere hash old new strings halt → IfOk r (λ reply. Some (printed reply) ≡ halt_printed halt)
    → IfOk r (λ reply. printed reply ≡ audited (collision hash old strings) text)
collision_is (Err e) hash old new strings halt text c h = tt
collision_is (Ok reply) hash old new strings (Collided earlier later) text c h =
    same_Some (printed reply) (prints 8 (collided_line earlier later)) h
    ∙ sym (ap (λ o. audited o text) (c.collided earlier later refl))
collision_is (Ok reply) hash old new strings (Guessed party secret) text c h = absurd (c.unguessed party secret refl)
collision_is (Ok reply) hash old new strings Memory text c h = absurd (none-some (printed reply) (sym h))

module _ {H : Type 0} (digest : H → List ℕ → List ℕ) (old new : Played H) (text : List ℕ) (halt : Halt) (going : old.halt ≡ None)
    (t : Stopped digest old new (audit_strings (setup_in digest old) old.world text) halt) where
  abbrev strings : List (List ℕ)
  strings = audit_strings (setup_in digest old) old.world text

  collides_here : CollidesHere (digest new.hasher) old.world.hashed new.world.hashed strings halt
  collides_here = subst (λ h. CollidesHere (digest h) old.world.hashed new.world.hashed strings halt) (sym t.setup.hasher) (t.cause going)

  -- it is the one that is answered
  pub halted_is : {E : Type 0} (r : Result Reply E)
      → IfOk r (λ reply. Some (printed reply) ≡ halt_printed halt)
      → IfOk r (λ reply. printed reply ≡ audited (audit_collision (setup_in digest old) old.world text)
      (audit_text (setup_in digest old) old.world text))
  halted_is r h =
      subst (λ x. IfOk r (λ reply. printed reply ≡ audited (collision (digest x) old.world.hashed strings) (audit_text (setup_in digest old) old.world text)))
      t.setup.hasher
      (collision_is r (digest new.hasher) old.world.hashed new.world.hashed strings halt (audit_text (setup_in digest old) old.world text) collides_here h)

-- ---- after a run

module _ {H : Type 0} (digest : H → List ℕ → List ℕ) (s : Setup) (es : List Event) (left : Played H) (w : IsWhole digest s es left) where
  last_audit : (text : List ℕ) → audited (audit_collision s (last_world s es) text) (audit_text s (last_world s es) text)
      ≡ if_whole (audit_answer text) s es
  unfolding audit_answer
  last_audit text = whole_if digest s es left w (audit_answer text)

  pub whole_audit : (text : List ℕ)
      → audited (audit_collision (setup_in digest left) left.world text) (audit_text (setup_in digest left) left.world text)
      ≡ if_whole (audit_answer text) s es
  whole_audit text =
      (λ i. audited (audit_collision (w.left_is.setup i) (w.left_is.whole refl i) text)
      (audit_text (w.left_is.setup i) (w.left_is.whole refl i) text))
      ∙ last_audit text
