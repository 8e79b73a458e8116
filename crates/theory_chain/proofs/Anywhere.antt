-- A transaction that has nothing to do with a deal may stand anywhere in a chain, or be left out of it.
use Rattle.std.proofs.Common.{◌≡◌, ℕ, List, [], ◌∷◌, ◌++◌, Option, Some, None, refl, sym, ap, subst, ◌∙◌, inl, inr}
use Rattle.std.specs.Prelude.{◌⊎◌}
use Rattle.spec_data.specs.Messages.{collision, noted_all}
use Rattle.spec_bitcoin.specs.declared.tx.Tx.{Tx}
use Rattle.spec_compiler.specs.Keyed.Instance.{Instance}
use Rattle.spec_deal.specs.declared.entry.Shown.{Shown}
use Rattle.spec_deal.specs.declared.signed.Signed.{Signed}
use Rattle.spec_deal.specs.declared.transaction.Transaction.{Transaction}
use Rattle.spec_deal.specs.Transactions.{transactions}
use Rattle.spec_chain.specs.declared.fault.ChainFault.{ChainFault}
use Rattle.spec_chain.specs.declared.fault.ChainFault.TheVariants as faults
use Rattle.spec_chain.specs.declared.reading.Confirmed.{Confirmed}
use Rattle.spec_chain.specs.Chain.{Course, stands, refused, follow_chain, gone_on, if_matters, opening_course, transaction_strings}
use Rattle.spec_chain.specs.ChainFile.{read_chain}
use Rattle.spec_chain.specs.Following.{after_transaction, happened, matters}
use Rattle.spec_chain.specs.Refusals.{refusal}
use Rattle.spec_chain.specs.StateText.{state_text}
use Rattle.theory_chain.specs.Aside.{in_block, in_blocks, AsideAnywhere}
use Rattle.theory_chain.specs.Follows.{LeadsTo, IsBadThere}
use Rattle.theory_chain.proofs.Courses.{followed_exactly, refused_exactly, leads_on}
use Rattle.theory_chain.proofs.ReadOver.{StaysSame, stays_same}

none_some : {A : Type 0} {x : A} → None ≡ Some x → ⊥
none_some e = cc

empty_filled : {X : Type 0} {x : X} {xs : List X} → [] ≡ x ∷ xs → ⊥
empty_filled e = cc

heads : {X : Type 0} {a b : X} {those others : List X} → a ∷ those ≡ b ∷ others → a ≡ b
heads e = cc

tails : {X : Type 0} {a b : X} {those others : List X} → a ∷ those ≡ b ∷ others → those ≡ others
tails e = cc

-- a file without a fault has no fault
no_fault : (o : Option ChainFault) (fault : ChainFault) → o ≡ None → o ≡ Some fault → ⊥
no_fault o fault e f = none_some (sym e ∙ f)

module _ (hash : List ℕ → List ℕ) (s : Instance) (ts : List Transaction) where
  -- the deal stands so in both, and the same happened
  record StandSame (a b : Course) : Type 0 where
    state : a.state ≡ b.state
    history : a.history ≡ b.history

  -- where a block has the same transaction they go on alike
  go_same : (a b : Course) (c d : Confirmed) → StandSame a b → in_block c ≡ in_block d
      → StandSame (gone_on hash s ts a c) (gone_on hash s ts b d)
  go_same a b c d same e =
      let st = same.state in
      let hs = same.history in
      let height : c.height ≡ d.height = ap (λ (p : ℕ × Tx). p.0) e in
      let tx : c.tx ≡ d.tx = ap (λ (p : ℕ × Tx). p.1) e in
      record {
        state = λ i. after_transaction hash s ts (st i) (tx i);
        history = λ i. if_matters (matters (happened hash s ts (st i) (height i) (tx i))) (hs i) (happened hash s ts (st i) (height i) (tx i));
      }

  same_refusal : (a b : Course) (c d : Confirmed) → StandSame a b → in_block c ≡ in_block d
      → refusal hash s ts a.state c.height c.tx ≡ refusal hash s ts b.state d.height d.tx
  same_refusal a b c d same e =
      let st = same.state in
      λ i. refusal hash s ts (st i) ((e i).0) ((e i).1)

  lead_same : (cs ds : List Confirmed) (a b last other : Course) → in_blocks cs ≡ in_blocks ds → StandSame a b
      → LeadsTo hash s ts a cs last → LeadsTo hash s ts b ds other → StandSame last other
  lead_same [] [] a b last other e same h k = record {
    state = ap (λ (c : Course). c.state) h ∙ same.state ∙ ap (λ (c : Course). c.state) (sym k);
    history = ap (λ (c : Course). c.history) h ∙ same.history ∙ ap (λ (c : Course). c.history) (sym k);
  }
  lead_same [] (d ∷ ds) a b last other e same h k = absurd (empty_filled e)
  lead_same (c ∷ cs) [] a b last other e same h k = absurd (empty_filled (sym e))
  lead_same (c ∷ cs) (d ∷ ds) a b last other e same h k =
      lead_same cs ds (gone_on hash s ts a c) (gone_on hash s ts b d) last other (tails e) (go_same a b c d same (heads e)) h.2 k.2

  -- nothing is bad in the one that isn't in the other
  none_bad : (cs ds : List Confirmed) (a b last : Course) (fault : ChainFault) → in_blocks cs ≡ in_blocks ds → StandSame a b
      → LeadsTo hash s ts a cs last → IsBadThere hash s ts b ds fault → ⊥
  none_bad cs [] a b last fault e same h k = k
  none_bad [] (d ∷ ds) a b last fault e same h k = empty_filled e
  none_bad (c ∷ cs) (d ∷ ds) a b last fault e same h (clear, inl r) =
      none_some (sym h.1 ∙ same_refusal a b c d same (heads e) ∙ r.1)
  none_bad (c ∷ cs) (d ∷ ds) a b last fault e same h (clear, inr r) =
      none_bad cs ds (gone_on hash s ts a c) (gone_on hash s ts b d) last fault (tails e) (go_same a b c d same (heads e)) h.2 r.1

  -- what is bad is bad behind those that aren't
  bad_on : (before behind : List Confirmed) (a course : Course) (fault : ChainFault) → LeadsTo hash s ts a before course
      → IsBadThere hash s ts a (before ++ behind) fault → IsBadThere hash s ts course behind fault
  bad_on [] behind a course fault h k = subst (λ (c : Course). IsBadThere hash s ts c behind fault) (sym h) k
  bad_on (c ∷ before) behind a course fault h (clear, inl r) = absurd (none_some (sym h.1 ∙ r.1))
  bad_on (c ∷ before) behind a course fault h (clear, inr r) = bad_on before behind (gone_on hash s ts a c) course fault h.2 r.1

  -- ---- other numbers of lines

  same_on : (a : Course) (c d : Confirmed) → in_block c ≡ in_block d → gone_on hash s ts a c ≡ gone_on hash s ts a d
  same_on a c d e = λ i. record {
    state = after_transaction hash s ts a.state ((e i).1);
    history = if_matters (matters (happened hash s ts a.state ((e i).0) ((e i).1))) a.history (happened hash s ts a.state ((e i).0) ((e i).1));
    messages = noted_all a.messages (transaction_strings hash ((e i).1));
  }

  leads_alike : (cs ds : List Confirmed) (a last : Course) → in_blocks cs ≡ in_blocks ds → LeadsTo hash s ts a cs last → LeadsTo hash s ts a ds last
  leads_alike [] [] a last e h = h
  leads_alike [] (d ∷ ds) a last e h = absurd (empty_filled e)
  leads_alike (c ∷ cs) [] a last e h = absurd (empty_filled (sym e))
  leads_alike (c ∷ cs) (d ∷ ds) a last e h =
      let one = sym (heads e) in (
        (λ i. collision hash a.messages (transaction_strings hash ((one i).1))) ∙ h.0,
        (λ i. refusal hash s ts a.state ((one i).0) ((one i).1)) ∙ h.1,
        subst (λ (x : Course). LeadsTo hash s ts x ds last) (same_on a c d (heads e)) (leads_alike cs ds (gone_on hash s ts a c) last (tails e) h.2),
      )

  bad_alike : (cs ds : List Confirmed) (a : Course) (fault : ChainFault) → in_blocks cs ≡ in_blocks ds → IsBadThere hash s ts a cs fault
      → (other : ChainFault) × IsBadThere hash s ts a ds other
  bad_alike [] ds a fault e h = absurd h
  bad_alike (c ∷ cs) [] a fault e h = absurd (empty_filled (sym e))
  bad_alike (c ∷ cs) (d ∷ ds) a fault e (clear, inl r) =
      let one = sym (heads e) in (
        faults.Line d.line r.0,
        (
          (λ i. collision hash a.messages (transaction_strings hash ((one i).1))) ∙ clear,
          inl (r.0, (λ i. refusal hash s ts a.state ((one i).0) ((one i).1)) ∙ r.1, refl),
        ),
      )
  bad_alike (c ∷ cs) (d ∷ ds) a fault e (clear, inr r) =
      let one = sym (heads e) in
      let more = bad_alike cs ds (gone_on hash s ts a c) fault (tails e) r.1 in (
        more.0,
        (
          (λ i. collision hash a.messages (transaction_strings hash ((one i).1))) ∙ clear,
          inr (
            (λ i. refusal hash s ts a.state ((one i).0) ((one i).1)) ∙ r.0,
            subst (λ (x : Course). IsBadThere hash s ts x ds more.0) (same_on a c d (heads e)) more.1,
          ),
        ),
      )

-- ---- the whole

pub aside_anywhere : AsideAnywhere
aside_anywhere hash keys s text longer one two tip top h = record { added = added; left_out = left_out; text_is = text_is }
  where
    ts : List Transaction
    ts = transactions hash keys s

    start : Course
    start = opening_course hash keys s

    stays : StaysSame hash s (transactions hash keys s) h.course h.aside
    stays = stays_same hash keys s h.before h.course h.aside h.leads h.is_aside

    same : StandSame hash s (transactions hash keys s) h.course (gone_on hash s (transactions hash keys s) h.course h.aside)
    same = record { state = sym stays.state; history = sym stays.history }

    back : StandSame hash s (transactions hash keys s) (gone_on hash s (transactions hash keys s) h.course h.aside) h.course
    back = record { state = stays.state; history = stays.history }

    -- what is behind, without it and with it
    without_it : follow_chain hash keys s text ≡ stands one tip → LeadsTo hash s (transactions hash keys s) h.course h.behind one
    without_it e =
        leads_on hash s ts h.before h.behind start h.course one h.leads
        (leads_alike hash s ts (read_chain text).confirmed (h.before ++ h.behind) start one h.text_has ((followed_exactly hash keys s text one tip).0 e).2)

    with_it : follow_chain hash keys s longer ≡ stands two top
        → LeadsTo hash s (transactions hash keys s) (gone_on hash s (transactions hash keys s) h.course h.aside) h.behind two
    with_it e =
        (leads_on hash s ts h.before (h.aside ∷ h.behind) start h.course two h.leads
        (subst (λ (cs : List Confirmed). LeadsTo hash s (transactions hash keys s) (opening_course hash keys s) cs two) h.longer_has
        ((followed_exactly hash keys s longer two top).0 e).2)).2

    added : follow_chain hash keys s text ≡ stands one tip → (read_chain longer).fault ≡ None
        → (fault : ChainFault) → follow_chain hash keys s longer ≡ refused fault → ⊥
    added e fine fault r = by_place ((refused_exactly hash keys s longer fault).0 r)
      where
        by_bad : IsBadThere hash s (transactions hash keys s) h.course (h.aside ∷ h.behind) fault → ⊥
        by_bad (clear, inl k) = none_some (sym stays.isnt_bad ∙ k.1)
        by_bad (clear, inr k) =
            none_bad hash s ts h.behind h.behind h.course (gone_on hash s (transactions hash keys s) h.course h.aside) one fault refl same (without_it e) k.1

        by_place : IsBadThere hash s (transactions hash keys s) (opening_course hash keys s) (read_chain longer).confirmed fault
            ⊎ (((read_chain longer).fault ≡ Some fault) × ((last : Course)
            × LeadsTo hash s (transactions hash keys s) (opening_course hash keys s) (read_chain longer).confirmed last)) → ⊥
        by_place (inl k) =
            by_bad (bad_on hash s ts h.before (h.aside ∷ h.behind) start h.course fault h.leads
            (subst (λ (cs : List Confirmed). IsBadThere hash s (transactions hash keys s) (opening_course hash keys s) cs fault) h.longer_has k))
        by_place (inr k) = no_fault (read_chain longer).fault fault fine k.0

    left_out : follow_chain hash keys s longer ≡ stands two top → (read_chain text).fault ≡ None
        → (fault : ChainFault) → follow_chain hash keys s text ≡ refused fault → ⊥
    left_out e fine fault r = by_place ((refused_exactly hash keys s text fault).0 r)
      where
        by_place : IsBadThere hash s (transactions hash keys s) (opening_course hash keys s) (read_chain text).confirmed fault
            ⊎ (((read_chain text).fault ≡ Some fault) × ((last : Course)
            × LeadsTo hash s (transactions hash keys s) (opening_course hash keys s) (read_chain text).confirmed last)) → ⊥
        by_place (inl k) =
            let other = bad_alike hash s ts (read_chain text).confirmed (h.before ++ h.behind) start fault h.text_has k in
            none_bad hash s ts h.behind h.behind (gone_on hash s (transactions hash keys s) h.course h.aside) h.course two other.0 refl back (with_it e)
            (bad_on hash s ts h.before h.behind start h.course other.0 h.leads other.1)
        by_place (inr k) = no_fault (read_chain text).fault fault fine k.0

    text_is : follow_chain hash keys s text ≡ stands one tip → follow_chain hash keys s longer ≡ stands two top
        → (height : ℕ) (given : List Signed) (strings : List Shown)
        → state_text hash keys s one height given strings ≡ state_text hash keys s two height given strings
    text_is e k height given strings =
        let r = lead_same hash s ts h.behind h.behind h.course (gone_on hash s (transactions hash keys s) h.course h.aside) one two refl same
        (without_it e) (with_it k) in
        let state = r.state in
        let history = r.history in
        λ i. state_text hash keys s (record { state = state i; history = history i; messages = [] }) height given strings
