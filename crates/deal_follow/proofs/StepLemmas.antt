-- A transaction that is hashed before it is looked at.
use Rattle.std.proofs.Common.{◌≡◌, ℕ, List, ◌∷◌, Option, Some, None, Result, Err, refl, sym, ap, subst}
use Rattle.std.specs.Prelude.{IsSome}
use Rattle.spec_data.specs.Messages.{noted_all, collision}
use Rattle.spec_compiler.specs.Keyed.Instance.{Instance}
use Rattle.spec_deal.specs.declared.transaction.Transaction.{Transaction}
use Rattle.spec_chain.specs.declared.fault.ChainFault.{ChainFault}
use Rattle.spec_chain.specs.declared.fault.ChainFault.TheVariants as faults
use Rattle.spec_chain.specs.declared.reading.Confirmed.{Confirmed}
use Rattle.spec_chain.specs.Chain as chain
use Rattle.spec_chain.specs.Chain.{Followed, refused, collided, follow, gone_on, transaction_strings}
use Rattle.spec_chain.specs.Refusals.{refusal}
use Rattle.bm_hash.specs.declared.messages.TrailError.{TrailError}
use Rattle.bm_hash.specs.declared.messages.TrailError.TheVariants.{Collided, Memory}
use Rattle.bm_hash.specs.Messages.{evidence_of}
use Rattle.bm_hash.specs.Trails as trails
use Rattle.bm_hash.proofs.Collisions.{hashed_adds, stopped_shows}
use Rattle.deal_follow.specs.declared.error.ChainError.{ChainError}
use Rattle.deal_follow.specs.declared.error.ChainError.TheVariants as errors
use Rattle.deal_follow.specs.declared.following.Course.{Course}
use Rattle.deal_follow.specs.Seen.{error_of, course_in}
use Rattle.deal_follow.specs.Follows.{Stops, Goes}

module _ (hash : List ℕ → List ℕ) (s : Instance) (ts : List Transaction) (fault : Option ChainFault) (tip : ℕ) (course : chain.Course) (c : Confirmed)
    (cs : List Confirmed) where
  abbrev by_collision : Option (List ℕ × List ℕ) → Followed
  by_collision o = elim o [
    | Some pair ↦ collided (pair.0) (pair.1)
    | None ↦ elim (refusal hash s ts course.state c.height c.tx) [
      | Some reason ↦ refused (faults.Line c.line reason)
      | None ↦ follow hash s ts fault tip (gone_on hash s ts course c) cs
    ]
  ]

  -- what a chain comes to, by whether the strings of its first transaction collide
  follow_by : (o : Option (List ℕ × List ℕ)) → collision hash course.messages (transaction_strings hash c.tx) ≡ o
      → follow hash s ts fault tip course (c ∷ cs) ≡ by_collision o
  follow_by o e = ap by_collision e

-- its strings collide, or memory ran out
pub hashing_ends : (U : Type 0) (hash : List ℕ → List ℕ) (s : Instance) (ts : List Transaction) (c : Confirmed) (old new : chain.Course)
    (later : List (List ℕ)) (e : TrailError) → evidence_of hash old.messages ≡ None
    → trails.Stops hash old.messages later (transaction_strings hash c.tx) e
    → Goes {U = U} hash s ts c (evidence_of hash later) old new (Err (error_of e))
hashing_ends U hash s ts c old new later Memory clear stops fault tip cs = tt
hashing_ends U hash s ts c old new later Collided clear stops fault tip cs =
    let shown = stopped_shows hash old.messages later (transaction_strings hash c.tx) clear stops in
    subst (λ evidence. Stops evidence errors.Collided (follow hash s ts fault tip old (c ∷ cs))) (sym shown.0)
    (by (collision hash old.messages (transaction_strings hash c.tx)) refl shown.1)
  where
    by : (o : Option (List ℕ × List ℕ)) → collision hash old.messages (transaction_strings hash c.tx) ≡ o → IsSome o
        → Stops o errors.Collided (follow hash s ts fault tip old (c ∷ cs))
    by None h some = cc
    by (Some pair) h some = follow_by hash s ts fault tip old c cs (Some pair) h

-- they don't, so it is as a transaction is whose strings are hashed
pub goes_with : {H U : Type 0} (digest : H → List ℕ → List ℕ) (first here : H) (s : Instance) (ts : List Transaction) (c : Confirmed)
    (messages later : List (List ℕ)) (old new : Course) (r : Result U ChainError) → here ≡ first → evidence_of (digest first) messages ≡ None
    → trails.Hashed (digest first) messages later (transaction_strings (digest first) c.tx)
    → ((ms l : List (List ℕ)) → collision (digest here) ms (transaction_strings (digest here) c.tx) ≡ None
    → l ≡ noted_all ms (transaction_strings (digest here) c.tx)
    → Goes (digest here) s ts c None (course_in ms old) (course_in l new) r)
    → Goes (digest first) s ts c (evidence_of (digest first) later) (course_in messages old) (course_in later new) r
goes_with {H} {U} digest first here s ts c messages later old new r same clear hashed goes =
    let adds = hashed_adds (digest first) messages later (transaction_strings (digest first) c.tx) clear hashed in
    let by_first = subst
    (λ (h : H). (ms l : List (List ℕ)) → collision (digest h) ms (transaction_strings (digest h) c.tx) ≡ None
    → l ≡ noted_all ms (transaction_strings (digest h) c.tx)
    → Goes (digest h) s ts c None (course_in ms old) (course_in l new) r) same goes in
    subst (λ evidence. Goes (digest first) s ts c evidence (course_in messages old) (course_in later new) r) (sym hashed.clear)
    (by_first messages later adds.1 adds.0)
