-- Chains that are followed, transaction by transaction.
use Rattle.std.proofs.Common.{◌≡◌, ℕ, ◌+◌, List, [], ◌∷◌, ◌++◌, length, Bool, true, false, Option, Some, None, refl, sym, ap, subst, ◌∙◌, inl, inr, ◌⊎◌, append_assoc}
use Rattle.spec_data.specs.Messages.{collision}
use Rattle.spec_compiler.specs.Keyed.Keys.{Keys}
use Rattle.spec_compiler.specs.Keyed.Instance.{Instance}
use Rattle.spec_text.specs.Lines.{lines_of}
use Rattle.spec_deal.specs.declared.transaction.Transaction.{Transaction}
use Rattle.spec_deal.specs.Transactions.{transactions}
use Rattle.spec_chain.specs.declared.fault.ChainReason.{ChainReason}
use Rattle.spec_chain.specs.declared.fault.ChainFault.{ChainFault}
use Rattle.spec_chain.specs.declared.fault.ChainFault.TheVariants as faults
use Rattle.spec_chain.specs.declared.happened.Happened.{Happened}
use Rattle.spec_chain.specs.declared.reading.Confirmed.{Confirmed}
use Rattle.spec_chain.specs.declared.reading.Reading.{Reading}
use Rattle.spec_chain.specs.Chain.{Course, Followed, stands, refused, collided, transaction_strings, if_matters, gone_on, at_end, follow, opening_course, follow_chain}
use Rattle.spec_chain.specs.ChainFile.{read_lines, read_chain}
use Rattle.spec_chain.specs.Following.{happened, matters}
use Rattle.spec_chain.specs.Refusals.{refusal}
use Rattle.theory_chain.specs.Follows.{LeadsTo, IsBadThere, FollowedExactly, RefusedExactly, HistoryStays}
use Rattle.theory_chain.proofs.FileReads.{behind, spelled, lines_longer, lines_alone}

-- ---- no two answers are one

stands_refused : (c : Course) (t : ℕ) (f : ChainFault) → stands c t ≡ refused f → ⊥
stands_refused c t f e = cc

refused_stands : (c : Course) (t : ℕ) (f : ChainFault) → refused f ≡ stands c t → ⊥
refused_stands c t f e = cc

collided_stands : (a b : List ℕ) (c : Course) (t : ℕ) → collided a b ≡ stands c t → ⊥
collided_stands a b c t e = cc

collided_refused : (a b : List ℕ) (f : ChainFault) → collided a b ≡ refused f → ⊥
collided_refused a b f e = cc

module _ (hash : List ℕ → List ℕ) (s : Instance) (ts : List Transaction) (fault : Option ChainFault) (tip : ℕ) where
  -- what comes of a transaction, by whether its strings collide and whether it is bad
  abbrev goes : Course → Confirmed → List Confirmed → Option (List ℕ × List ℕ) → Option ChainReason → Followed
  goes course c cs collision_with bad = elim collision_with [
    | Some pair ↦ collided (pair.0) (pair.1)
    | None ↦ elim bad [
      | Some reason ↦ refused (faults.Line c.line reason)
      | None ↦ follow hash s ts fault tip (gone_on hash s ts course c) cs
    ]
  ]

  abbrev collision_of : Course → Confirmed → Option (List ℕ × List ℕ)
  collision_of course c = collision hash course.messages (transaction_strings hash c.tx)

  abbrev bad_by : Course → Confirmed → Option ChainReason
  bad_by course c = refusal hash s ts course.state c.height c.tx

  -- ---- followed

  abbrev FollowedLater : Course → List Confirmed → Course → ℕ → Type 0
  FollowedLater course cs last top = follow hash s ts fault tip course cs ≡ stands last top
      → (fault ≡ None) × (tip ≡ top) × LeadsTo hash s ts course cs last

  pub followed : (cs : List Confirmed) (course last : Course) (top : ℕ) → follow hash s ts fault tip course cs ≡ stands last top
      → (fault ≡ None) × (tip ≡ top) × LeadsTo hash s ts course cs last
  followed [] course last top e = by_fault fault e
    where
      same : stands course tip ≡ stands last top → (tip ≡ top) × (last ≡ course)
      same k = (cc, cc)

      by_fault : (f : Option ChainFault) → at_end f tip course ≡ stands last top
          → (f ≡ None) × (tip ≡ top) × LeadsTo hash s ts course [] last
      by_fault None k =
          let p = same k in
          (refl, p.0, p.1)
      by_fault (Some f) k = absurd (refused_stands last top f k)
  followed (c ∷ cs) course last top e =
      by_one_collision (followed cs (gone_on hash s ts course c) last top) (collision_of course c) refl e
    where
      by_bad : FollowedLater (gone_on hash s ts course c) cs last top → (o : Option ChainReason) → collision_of course c ≡ None → bad_by course c ≡ o
          → goes course c cs None o ≡ stands last top → (fault ≡ None) × (tip ≡ top) × LeadsTo hash s ts course (c ∷ cs) last
      by_bad later (Some reason) k b h = absurd (refused_stands last top (faults.Line c.line reason) h)
      by_bad later None k b h =
          let p = later h in
          (p.0, p.1, (k, b, p.2))

      by_one_collision : FollowedLater (gone_on hash s ts course c) cs last top → (o : Option (List ℕ × List ℕ)) → collision_of course c ≡ o
          → goes course c cs o (bad_by course c) ≡ stands last top
          → (fault ≡ None) × (tip ≡ top) × LeadsTo hash s ts course (c ∷ cs) last
      by_one_collision later (Some pair) k h = absurd (collided_stands (pair.0) (pair.1) last top h)
      by_one_collision later None k h = by_bad later (bad_by course c) k refl h

  pub leads : (cs : List Confirmed) (course last : Course) → LeadsTo hash s ts course cs last
      → follow hash s ts fault tip course cs ≡ at_end fault tip last
  leads [] course last h = ap (at_end fault tip) (sym h)
  leads (c ∷ cs) course last h =
      (λ i. goes course c cs (h.0 i) (h.1 i)) ∙ leads cs (gone_on hash s ts course c) last h.2

  -- ---- refused

  abbrev RefusedLater : Course → List Confirmed → ChainFault → Type 0
  RefusedLater course cs f = follow hash s ts fault tip course cs ≡ refused f
      → IsBadThere hash s ts course cs f ⊎ ((fault ≡ Some f) × ((last : Course) × LeadsTo hash s ts course cs last))

  pub refused_there : (cs : List Confirmed) (course : Course) (f : ChainFault) → follow hash s ts fault tip course cs ≡ refused f
      → IsBadThere hash s ts course cs f ⊎ ((fault ≡ Some f) × ((last : Course) × LeadsTo hash s ts course cs last))
  refused_there [] course f e = by_fault fault e
    where
      same : (g : ChainFault) → refused g ≡ refused f → g ≡ f
      same g k = cc

      by_fault : (o : Option ChainFault) → at_end o tip course ≡ refused f
          → IsBadThere hash s ts course [] f ⊎ ((o ≡ Some f) × ((last : Course) × LeadsTo hash s ts course [] last))
      by_fault None k = absurd (stands_refused course tip f k)
      by_fault (Some g) k = inr (ap Some (same g k), (course, refl))
  refused_there (c ∷ cs) course f e =
      by_one_collision (refused_there cs (gone_on hash s ts course c) f) (collision_of course c) refl e
    where
      same : (reason : ChainReason) → refused (faults.Line c.line reason) ≡ refused f → f ≡ faults.Line c.line reason
      same reason k = cc

      further : collision_of course c ≡ None → bad_by course c ≡ None
          → IsBadThere hash s ts (gone_on hash s ts course c) cs f
          ⊎ ((fault ≡ Some f) × ((last : Course) × LeadsTo hash s ts (gone_on hash s ts course c) cs last))
          → IsBadThere hash s ts course (c ∷ cs) f ⊎ ((fault ≡ Some f) × ((last : Course) × LeadsTo hash s ts course (c ∷ cs) last))
      further k b (inl h) = inl (k, inr (b, h))
      further k b (inr h) = inr (h.0, (h.1.0, (k, b, h.1.1)))

      by_bad : RefusedLater (gone_on hash s ts course c) cs f → (o : Option ChainReason) → collision_of course c ≡ None → bad_by course c
          ≡ o → goes course c cs None o ≡ refused f
          → IsBadThere hash s ts course (c ∷ cs) f ⊎ ((fault ≡ Some f) × ((last : Course) × LeadsTo hash s ts course (c ∷ cs) last))
      by_bad later (Some reason) k b h = inl (k, inl (reason, b, same reason h))
      by_bad later None k b h = further k b (later h)

      by_one_collision : RefusedLater (gone_on hash s ts course c) cs f → (o : Option (List ℕ × List ℕ)) → collision_of course c ≡ o
          → goes course c cs o (bad_by course c) ≡ refused f
          → IsBadThere hash s ts course (c ∷ cs) f ⊎ ((fault ≡ Some f) × ((last : Course) × LeadsTo hash s ts course (c ∷ cs) last))
      by_one_collision later (Some pair) k h = absurd (collided_refused (pair.0) (pair.1) f h)
      by_one_collision later None k h = by_bad later (bad_by course c) k refl h

  pub bad_there : (cs : List Confirmed) (course : Course) (f : ChainFault) → IsBadThere hash s ts course cs f
      → follow hash s ts fault tip course cs ≡ refused f
  bad_there [] course f h = absurd h
  bad_there (c ∷ cs) course f h = by (bad_there cs (gone_on hash s ts course c) f) h.1
    where
      by : (IsBadThere hash s ts (gone_on hash s ts course c) cs f
          → follow hash s ts fault tip (gone_on hash s ts course c) cs ≡ refused f)
          → ((reason : ChainReason) × (bad_by course c ≡ Some reason) × (f ≡ faults.Line c.line reason))
          ⊎ ((bad_by course c ≡ None) × IsBadThere hash s ts (gone_on hash s ts course c) cs f)
          → follow hash s ts fault tip course (c ∷ cs) ≡ refused f
      by later (inl r) = (λ i. goes course c cs (h.0 i) (r.1 i)) ∙ ap refused (sym r.2)
      by later (inr r) = (λ i. goes course c cs (h.0 i) (r.0 i)) ∙ later r.1

pub followed_exactly : FollowedExactly
followed_exactly hash keys s text course tip = (λ e. there e, λ h. back h)
  where
    r : Reading
    r = read_chain text

    there : follow hash s (transactions hash keys s) (read_chain text).fault (read_chain text).tip (opening_course hash keys s)
        (read_chain text).confirmed ≡ stands course tip
        → ((read_chain text).fault ≡ None) × ((read_chain text).tip ≡ tip)
        × LeadsTo hash s (transactions hash keys s) (opening_course hash keys s) (read_chain text).confirmed course
    there e =
        followed hash s (transactions hash keys s) (read_chain text).fault (read_chain text).tip (read_chain text).confirmed
        (opening_course hash keys s) course tip e

    back : ((read_chain text).fault ≡ None) × ((read_chain text).tip ≡ tip)
        × LeadsTo hash s (transactions hash keys s) (opening_course hash keys s) (read_chain text).confirmed course
        → follow hash s (transactions hash keys s) (read_chain text).fault (read_chain text).tip (opening_course hash keys s)
        (read_chain text).confirmed ≡ stands course tip
    back h =
        leads hash s (transactions hash keys s) (read_chain text).fault (read_chain text).tip (read_chain text).confirmed
        (opening_course hash keys s) course h.2
        ∙ (λ i. at_end (h.0 i) (h.1 i) course)

pub refused_exactly : RefusedExactly
refused_exactly hash keys s text f = (λ e. there e, λ h. back h)
  where
    there : follow hash s (transactions hash keys s) (read_chain text).fault (read_chain text).tip (opening_course hash keys s)
        (read_chain text).confirmed ≡ refused f
        → IsBadThere hash s (transactions hash keys s) (opening_course hash keys s) (read_chain text).confirmed f
        ⊎ (((read_chain text).fault ≡ Some f) × ((last : Course)
        × LeadsTo hash s (transactions hash keys s) (opening_course hash keys s) (read_chain text).confirmed last))
    there e =
        refused_there hash s (transactions hash keys s) (read_chain text).fault (read_chain text).tip (read_chain text).confirmed
        (opening_course hash keys s) f e

    back : IsBadThere hash s (transactions hash keys s) (opening_course hash keys s) (read_chain text).confirmed f
        ⊎ (((read_chain text).fault ≡ Some f) × ((last : Course)
        × LeadsTo hash s (transactions hash keys s) (opening_course hash keys s) (read_chain text).confirmed last))
        → follow hash s (transactions hash keys s) (read_chain text).fault (read_chain text).tip (opening_course hash keys s)
        (read_chain text).confirmed ≡ refused f
    back (inl h) =
        bad_there hash s (transactions hash keys s) (read_chain text).fault (read_chain text).tip (read_chain text).confirmed
        (opening_course hash keys s) f h
    back (inr h) =
        leads hash s (transactions hash keys s) (read_chain text).fault (read_chain text).tip (read_chain text).confirmed
        (opening_course hash keys s) h.1.0 h.1.1
        ∙ ap (λ (o : Option ChainFault). at_end o (read_chain text).tip h.1.0) h.0

-- ---- what has happened stays

module _ (hash : List ℕ → List ℕ) (s : Instance) (ts : List Transaction) where
  -- a course and its history with more behind it
  one_more : (b : Bool) (history : List Happened) (h : Happened) → (new : List Happened) × (if_matters b history h ≡ history ++ new)
  one_more true history h = (h ∷ [], refl)
  one_more false history h = ([], sym (nothing history))
    where
      nothing : (hs : List Happened) → hs ++ [] ≡ hs
      nothing [] = refl
      nothing (x ∷ xs) = ap (λ (ys : List Happened). x ∷ ys) (nothing xs)

  pub history_grows : (cs : List Confirmed) (course last : Course) → LeadsTo hash s ts course cs last
      → (new : List Happened) × (last.history ≡ course.history ++ new)
  history_grows [] course last h = ([], ap (λ (c : Course). c.history) h ∙ sym (nothing course.history))
    where
      nothing : (hs : List Happened) → hs ++ [] ≡ hs
      nothing [] = refl
      nothing (x ∷ xs) = ap (λ (ys : List Happened). x ∷ ys) (nothing xs)
  history_grows (c ∷ cs) course last h =
      let now = happened hash s ts course.state c.height c.tx in
      let p = one_more (matters now) course.history now in
      let q = history_grows cs (gone_on hash s ts course c) last h.2 in
      (p.0 ++ q.0, q.1 ∙ ap (λ (hs : List Happened). hs ++ q.0) p.1 ∙ append_assoc course.history p.0 q.0)

  -- what leads on behind transactions that led to a course leads from there
  pub leads_on : (cs more : List Confirmed) (course middle last : Course) → LeadsTo hash s ts course cs middle
      → LeadsTo hash s ts course (cs ++ more) last → LeadsTo hash s ts middle more last
  leads_on [] more course middle last h k = subst (λ (c : Course). LeadsTo hash s ts c more last) (sym h) k
  leads_on (c ∷ cs) more course middle last h k = leads_on cs more (gone_on hash s ts course c) middle last h.2 k.2

-- what longer files have behind the transactions of a file leads on from there
pub further : (hash : List ℕ → List ℕ) (keys : Keys) (s : Instance) (text longer : List ℕ) (more : List (List ℕ))
    (course later : Course) (tip top : ℕ) → lines_of longer ≡ lines_of text ++ more
    → follow_chain hash keys s text ≡ stands course tip → follow_chain hash keys s longer ≡ stands later top
    → (cs : List Confirmed) × LeadsTo hash s (transactions hash keys s) course cs later
further hash keys s text longer more course later tip top cut e k =
    let ts = transactions hash keys s in
    let p = (followed_exactly hash keys s text course tip).0 e in
    let q = (followed_exactly hash keys s longer later top).0 k in
    let short = lines_alone text p.0 in
    let rest = read_lines [] (1 + length (lines_of text)) (read_chain text).tip more in
    let long : spelled (read_chain longer).confirmed (read_chain longer).tip ≡ behind (read_chain text).confirmed rest
    = sym (lines_alone longer q.0) ∙ ap (read_lines [] 1 0) cut
    ∙ lines_longer 1 0 (lines_of text) more (read_chain text).confirmed (read_chain text).tip short in
    let there = ap (λ (r : Reading). r.confirmed) long in (
      rest.confirmed,
      leads_on hash s ts (read_chain text).confirmed rest.confirmed (opening_course hash keys s) course later p.2
          (subst (λ (cs : List Confirmed). LeadsTo hash s ts (opening_course hash keys s) cs later) there q.2),
    )

pub history_stays : HistoryStays
history_stays hash keys s text longer more course later tip top cut e k =
    let p = further hash keys s text longer more course later tip top cut e k in
    history_grows hash s (transactions hash keys s) p.0 course later p.1
