-- What is answered once the scripts of a deal file that may lack lines are hashed.
use Rattle.std.proofs.Common.{◌≡◌, ℕ, List, [], Some, refl, sym, ap, subst, ◌∙◌}
use Rattle.std.specs.Prelude.{IfOk, Result, Ok, Err, option_map}
use Rattle.spec_data.specs.Messages.{collision}
use Rattle.spec_tool.specs.Commands.{Printed}
use Rattle.spec_tool.specs.Replies.{printed}
use Rattle.spec_tool.specs.declared.reply.Reply.{Reply}
use Rattle.spec_deal.specs.Answers.{collides, unless_collided}
use Rattle.bm_hash.specs.Messages.{evidence_of}
use Rattle.bm_hash.specs.Trails.{Hashed, Stops}
use Rattle.bm_hash.specs.declared.messages.TrailError.{TrailError}
use Rattle.bm_hash.specs.declared.messages.TrailError.TheVariants.{Collided}
use Rattle.bitml_deal.proofs.OpeningLemmas.{unless_none, collided_is}

module _ {E : Type 0} (r : Result Reply E) (hash : List ℕ → List ℕ) (old new strings : List (List ℕ)) (empty : old ≡ []) where
  -- none collided
  pub shown_reply : (text : (List ℕ → List ℕ) → Printed) (here : List ℕ → List ℕ) → here ≡ hash → Hashed hash old new strings
      → IfOk r (λ reply. printed reply ≡ text here) → IfOk r (λ reply. printed reply ≡ unless_collided (collision hash [] strings) (text hash))
  shown_reply text here same hashed h =
      let at : Hashed hash [] new strings = subst (λ (ms : List (List ℕ)). Hashed hash ms new strings) empty hashed in
      subst (λ (p : Printed). IfOk r (λ reply. printed reply ≡ p)) (ap text same ∙ sym (unless_none hash new strings (text hash) at)) h

  -- two did
  pub collided_reply : (inner : Printed) (here : List ℕ → List ℕ) (error : TrailError) → here ≡ hash → error ≡ Collided
      → Stops hash old new strings error
      → IfOk r (λ reply. Some (printed reply) ≡ option_map (λ pair. collides (pair.0) (pair.1)) (evidence_of here new))
      → IfOk r (λ reply. printed reply ≡ unless_collided (collision hash [] strings) inner)
  collided_reply inner here error same collision_with stops h = by_reply r h
    where
      by_reply : (x : Result Reply E)
          → IfOk x (λ reply. Some (printed reply) ≡ option_map (λ pair. collides (pair.0) (pair.1)) (evidence_of here new))
          → IfOk x (λ reply. printed reply ≡ unless_collided (collision hash [] strings) inner)
      by_reply (Ok reply) k = sym (collided_is hash here old new strings inner (printed reply) error same empty collision_with stops k)
      by_reply (Err e) k = tt
