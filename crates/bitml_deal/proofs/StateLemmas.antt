-- What is answered of where a deal stands, or why nothing is.
use Rattle.std.proofs.Common.{◌≡◌, ℕ, List, [], ◌∷◌, ◌++◌, map, Bool, true, Option, Some, None, refl, sym, ap, subst, ◌∙◌}
use Rattle.std.specs.Prelude.{IfOk, Result, Ok, Err, option_map, ◌&&◌}
use Rattle.std.specs.List.{list_all}
use Rattle.std.specs.Str.{bytes_eq}
use Rattle.std.proofs.lemmas.Bool.{and_parts, and_from}
use Rattle.spec_data.specs.Messages.{noted_all}
use Rattle.spec_compiler.specs.Keyed.Keys.{Keys}
use Rattle.spec_compiler.specs.Keyed.Instance.{Instance}
use Rattle.spec_compiler.specs.Keyed.Statements.{is_secret}
use Rattle.spec_compiler.specs.Scripts.{digest_of}
use Rattle.spec_tool.specs.Commands.{Printed, prints}
use Rattle.spec_tool.specs.Reads.{Text}
use Rattle.spec_tool.specs.Replies.{printed}
use Rattle.spec_tool.specs.declared.reply.Reply.{Reply}
use Rattle.spec_deal.specs.declared.entry.Shown.{Shown}
use Rattle.spec_deal.specs.Answers.{collides, secrets_in}
use Rattle.spec_deal.specs.Hashed.{deal_strings}
use Rattle.spec_deal.specs.SecretFile.{has_length, read_behind}
use Rattle.spec_chain.specs.declared.fault.ChainFault.{ChainFault}
use Rattle.spec_chain.specs.declared.reading.Reading.{Reading}
use Rattle.spec_chain.specs.Answers.{chain_in, told_in, with_course}
use Rattle.spec_chain.specs.Chain.{Course, Followed, stands, refused, follow_reading}
use Rattle.spec_chain.specs.Outstanding.{known}
use Rattle.spec_chain.specs.RefusedText.{chain_refused_line}
use Rattle.theory_deal.specs.Finished.{do_fit}
use Rattle.theory_chain.specs.Prospects.{KnownFit}
use Rattle.bm_hash.specs.Messages.{evidence_of}
use Rattle.bm_hash.specs.Trails.{Hashed}
use Rattle.deal_secrets.proofs.Hashing.{hashed_first}
use Rattle.deal_follow.specs.declared.error.ChainError.{ChainError}
use Rattle.deal_follow.specs.declared.error.ChainError.TheVariants as errors
use Rattle.deal_follow.specs.Follows.{Evidence, Stops}
use Rattle.bitml_deal.specs.Later.{strings_in, told_by, course_answer, state_answer}

-- ---- secrets

-- where no chain was read, secrets are read behind the strings of the compiled deal
first_told : (hash : List ℕ → List ℕ) (keys : Keys) (s : Instance) (messages : List (List ℕ)) (text : Text)
    → messages ≡ noted_all [] (deal_strings hash keys s) → told_in hash s messages text ≡ secrets_in hash keys s text
first_told hash keys s messages None e = refl
first_told hash keys s messages (Some text) e = ap (λ ms. read_behind hash s ms text) e

told_first : (hash : List ℕ → List ℕ) (keys : Keys) (s : Instance) (messages : List (List ℕ)) (secrets : Option Text)
    → messages ≡ noted_all [] (deal_strings hash keys s) → told_by hash s messages secrets ≡ strings_in hash keys s secrets
told_first hash keys s messages None e = refl
told_first hash keys s messages (Some text) e = first_told hash keys s messages text e

pub told_is_first : (hash : List ℕ → List ℕ) (keys : Keys) (s : Instance) (messages : List (List ℕ)) (secrets : Option Text)
    → Hashed hash [] messages (deal_strings hash keys s) → told_by hash s messages secrets ≡ strings_in hash keys s secrets
told_is_first hash keys s messages secrets h = told_first hash keys s messages secrets (hashed_first hash messages (deal_strings hash keys s) h)

-- ---- strings that were shown

module _ (hash : List ℕ → List ℕ) (s : Instance) where
  fit_sized : (ps : List (List ℕ × List ℕ)) (more : List Shown)
      → do_fit hash s (map (λ p. record { line = 0; name = p.0; bytes = p.1 }) ps ++ more) ≡ true → list_all (λ p. has_length (p.1)) ps ≡ true
  fit_sized [] more h = refl
  fit_sized (p ∷ ps) more h =
      let rest = do_fit hash s (map (λ q. record { line = 0; name = q.0; bytes = q.1 }) ps ++ more) in
      let parts = and_parts (is_secret hash (p.1) (digest_of s.hashes (p.0))) rest h in
      and_from (has_length (p.1)) (list_all (λ q. has_length (q.1)) ps)
      (and_parts (has_length (p.1)) (bytes_eq (hash (p.1)) (digest_of s.hashes (p.0))) (parts.0)).0 (fit_sized ps more (parts.1))

-- the strings that a chain showed have as many bytes as secrets
pub shown_sized : KnownFit → (hash : List ℕ → List ℕ) (keys : Keys) (s : Instance) (text : Text) (course : Course) (tip : ℕ)
    → follow_reading hash keys s (chain_in text) ≡ stands course tip → list_all (λ p. has_length (p.1)) course.state.shown ≡ true
shown_sized fit hash keys s None course tip e = cc
shown_sized fit hash keys s (Some text) course tip e =
    fit_sized hash s course.state.shown [] (fit hash keys s text course tip [] e refl)

-- ---- the chain

module _ {E : Type 0} (r : Result Reply E) (hash : List ℕ → List ℕ) (keys : Keys) (s : Instance) (chain signatures : Text)
    (secrets : Option Text) (reading : Reading) (read : reading ≡ chain_in chain) where
  -- it is followed to its tip
  pub stands_answer : (there : List ℕ → List ℕ) (course : Course) (tip : ℕ) → there ≡ hash
      → follow_reading hash keys s reading ≡ stands course tip
      → IfOk r (λ reply. printed reply ≡ course_answer there keys s signatures secrets course tip)
      → IfOk r (λ reply. printed reply ≡ state_answer hash chain signatures secrets keys s)
  stands_answer there course tip same e h =
      subst (λ (p : Printed). IfOk r (λ reply. printed reply ≡ p))
      (ap (λ (f : List ℕ → List ℕ). course_answer f keys s signatures secrets course tip) same
      ∙ ap (with_course (course_answer hash keys s signatures secrets)) (sym e ∙ ap (follow_reading hash keys s) read)) h

  -- its file is refused
  pub refused_answer : (fault : ChainFault) → follow_reading hash keys s reading ≡ refused fault
      → IfOk r (λ reply. printed reply ≡ prints 17 (chain_refused_line fault))
      → IfOk r (λ reply. printed reply ≡ state_answer hash chain signatures secrets keys s)
  refused_answer fault e h =
      subst (λ (p : Printed). IfOk r (λ reply. printed reply ≡ p))
      (ap (with_course (course_answer hash keys s signatures secrets)) (sym e ∙ ap (follow_reading hash keys s) read)) h

  by_evidence : (o : Evidence) (p : Printed) → Stops o errors.Collided (follow_reading hash keys s reading)
      → Some p ≡ option_map (λ pair. collides (pair.0) (pair.1)) o → p ≡ with_course (course_answer hash keys s signatures secrets) (follow_reading hash keys s reading)
  by_evidence None p stops e = absurd stops
  by_evidence (Some pair) p stops e =
      let is : p ≡ collides (pair.0) (pair.1) = cc in
      is ∙ sym (ap (with_course (course_answer hash keys s signatures secrets)) stops)

  -- strings collide
  pub collided_answer : (here : List ℕ → List ℕ) (messages : List (List ℕ)) (error : ChainError) → here ≡ hash → error ≡ errors.Collided
      → Stops (evidence_of hash messages) error (follow_reading hash keys s reading)
      → IfOk r (λ reply. Some (printed reply) ≡ option_map (λ pair. collides (pair.0) (pair.1)) (evidence_of here messages))
      → IfOk r (λ reply. printed reply ≡ state_answer hash chain signatures secrets keys s)
  collided_answer here messages error same is stops h = by_reply r h
    where
      there : Stops (evidence_of hash messages) errors.Collided (follow_reading hash keys s reading)
      there = subst (λ (x : ChainError). Stops (evidence_of hash messages) x (follow_reading hash keys s reading)) is stops

      by_reply : (x : Result Reply E)
          → IfOk x (λ reply. Some (printed reply) ≡ option_map (λ pair. collides (pair.0) (pair.1)) (evidence_of here messages))
          → IfOk x (λ reply. printed reply ≡ state_answer hash chain signatures secrets keys s)
      by_reply (Ok reply) k =
          by_evidence (evidence_of hash messages) (printed reply) there
          (k ∙ ap (λ (f : List ℕ → List ℕ). option_map (λ pair. collides (pair.0) (pair.1)) (evidence_of f messages)) same)
          ∙ ap (λ (x : Reading). with_course (course_answer hash keys s signatures secrets) (follow_reading hash keys s x)) read
      by_reply (Err e) k = tt
