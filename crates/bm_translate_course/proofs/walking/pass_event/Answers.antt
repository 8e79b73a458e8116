use Rattle.std.proofs.Common.{◌≡◌, map, ap, ◌∙◌}
use Rattle.bm_translate.specs.declared.running.Running.{Running}
use Rattle.bm_translate.specs.Shown.{noted, posts_of, told_of}
use Rattle.bm_translate.proofs.Known.{noted_told}
use Rattle.bm_translate_course.specs.Passing.{after_all}
use Rattle.bm_translate_course.proofs.Taken.{secrets_after}
use Rattle.bm_translate_course.proofs.walking.pass_event.Goals as goal

pub returns : goal.returns
returns g c = λ f w next turn.
    let r = c.args.running.now in
    let made = c.in_ok-made.made.items in
    let taken : c.take_steps.new.running ≡ after_all c.args.running.now c.in_ok-made.made.items =
    c.in_ok-take_steps.ensures ∙ ap (after_all r) c.deref.ensures.value in
    let secrets : c.take_steps.new.running.secrets ≡ c.args.running.now.secrets =
    ap (λ (x : Running). x.secrets) taken ∙ secrets_after made r in
    let shown = c.in_ok-shown.ensures ∙ ap (λ held. told_of r.secrets (posts_of held c.args.recorded.now)) c.as_slice.ensures in
    let told : c.note.new.self ≡ map (noted (posts_of c.args.board.now.header.secrets c.args.recorded.now)) c.args.running.now.secrets =
    c.note.ensures ∙ (λ i. map (noted (shown i)) (secrets i))
    ∙ noted_told r.secrets (posts_of c.args.board.now.header.secrets c.args.recorded.now) in (
      c.in_ok-made.ensures f w next turn,
      λ i. record { config = (taken i).config; inits = (taken i).inits; asked = (taken i).asked; secrets = told i },
    )
