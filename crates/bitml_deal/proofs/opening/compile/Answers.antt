use Rattle.std.proofs.Common.{ℕ, List, [], sym, ap, subst, ◌∙◌}
use Rattle.std.specs.Prelude.{Ok, IfOk}
use Rattle.spec_deal.specs.Answers.{circular, unless_circular, with_shown_deal}
use Rattle.spec_deal.specs.Hashed.{deal_strings}
use Rattle.spec_deal.specs.Setting.{deal_keys, deal_instance}
use Rattle.bm_hash.specs.Trails.{Hashed}
use Rattle.bitml_deal.specs.declared.opening.Compiled.{Compiled}
use Rattle.bitml_deal.specs.Opens.{shown_answered, IsMade, Leads}
use Rattle.bitml_deal.proofs.OpeningLemmas.{leads_same, unless_none, collided_is}
use Rattle.bitml_deal.proofs.opening.compile.Goals as goal

pub returns-in-Ok-clause-leads : goal.returns-in-Ok-clause-leads
returns-in-Ok-clause-leads g c =
    let hash = g.H.Hash32.digest_of c.args.trail.now.hasher in
    let keys = deal_keys c.args.deal in
    let s = deal_instance c.args.contract c.args.deal in
    let compiled : Compiled = record { contract = c.args.contract; deal = c.args.deal; made = c.in-Ok.made } in
    let new = c.compile_deal.new.trail.messages in
    let hashed : Hashed hash [] new (deal_strings hash keys s) =
    subst (λ (old : List (List ℕ)). Hashed hash old new (deal_strings hash keys s)) c.requires.new c.in-Ok.ensures.trail.1 in
    let made : IsMade hash compiled = record {
      places = c.requires.places;
      transactions = c.in-Ok.ensures.transactions;
      signable = c.in-Ok.ensures.signable;
      scripts = c.in-Ok.ensures.scripts;
    } in
    let here = ap g.H.Hash32.digest_of (c.hasher.ensures ∙ c.in-Ok.ensures.trail.0) in
    leads_same hash (λ answer. unless_circular (circular hash keys s) (shown_answered answer compiled))
    (λ answer. with_shown_deal hash answer c.args.contract (Ok c.args.deal)) new c.unless_circular.result
    (λ answer. unless_none hash new (deal_strings hash keys s) (unless_circular (circular hash keys s) (shown_answered answer compiled)) hashed)
    (subst (λ (h : List ℕ → List ℕ). IfOk c.unless_circular.result
    (Leads h (λ answer. unless_circular (circular h keys s) (shown_answered answer compiled)) new)) here
    (c.unless_circular.ensures new (subst (λ (h : List ℕ → List ℕ). IsMade h compiled) (sym here) made)
    (subst (λ (h : List ℕ → List ℕ). Hashed h [] new (deal_strings h keys s)) (sym here) hashed)))

pub returns-in-Err-Collided-clause-leads : goal.returns-in-Err-Collided-clause-leads
returns-in-Err-Collided-clause-leads g c = λ answer.
    let digest = g.H.Hash32.digest_of in
    let hash = digest c.args.trail.now.hasher in
    let keys = deal_keys c.args.deal in
    let s = deal_instance c.args.contract c.args.deal in
    collided_is hash (digest c.compile_deal.new.trail.hasher) c.args.trail.now.messages c.compile_deal.new.trail.messages
    (deal_strings hash keys s) (unless_circular (circular hash keys s) (answer c.args.deal.network keys s)) _ c.in-Err-Collided.field-0
    (ap digest c.in-Err-Collided.ensures.trail.0)
    c.requires.new c.in-Err-Collided.field-0-is c.in-Err-Collided.ensures.trail.2 c.in_ok-collision_reply-in-Err-Collided.ensures
