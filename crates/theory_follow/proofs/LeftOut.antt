-- Transactions that have nothing to do with a deal may stand anywhere, or be left out.
use Rattle.std.proofs.Common.{◌≡◌, ℕ, List, [], ◌∷◌, ◌++◌, true, None, refl, sym, ap, subst, ◌∙◌, inl, inr}
use Rattle.std.specs.Prelude.{◌⊎◌}
use Rattle.std.specs.List.{flat_map}
use Rattle.spec_data.specs.Lists.{is_among}
use Rattle.spec_data.specs.Messages.{noted, noted_all, collision}
use Rattle.spec_bitcoin.specs.declared.tx.Tx.{Tx}
use Rattle.spec_compiler.specs.Keyed.Instance.{Instance}
use Rattle.spec_compiler.specs.Keyed.Keys.{Keys}
use Rattle.spec_deal.specs.declared.entry.Shown.{Shown}
use Rattle.spec_deal.specs.declared.signed.Signed.{Signed}
use Rattle.spec_deal.specs.declared.transaction.Transaction.{Transaction}
use Rattle.spec_deal.specs.Hashed.{deal_strings}
use Rattle.spec_deal.specs.Transactions.{transactions}
use Rattle.spec_chain.specs.declared.reading.Confirmed.{Confirmed}
use Rattle.spec_chain.specs.Chain.{Course, stands, transaction_strings, gone_on, if_matters, follow_chain, opening_course}
use Rattle.spec_chain.specs.ChainFile.{read_chain}
use Rattle.spec_chain.specs.Following.{after_transaction, happened, matters}
use Rattle.spec_chain.specs.Refusals.{refusal}
use Rattle.spec_chain.specs.StateText.{state_text}
use Rattle.theory_world.specs.KeptApart.{NoCollision}
use Rattle.theory_world.proofs.Hashed.{noted_back, all_more, among_head, among_left, among_right}
use Rattle.theory_run.proofs.Fewer.{Within, all_within, collision_within, again_calm}
use Rattle.theory_chain.specs.Aside.{in_block, in_blocks}
use Rattle.theory_chain.specs.Follows.{LeadsTo}
use Rattle.theory_chain.proofs.Courses.{followed_exactly}
use Rattle.theory_chain.proofs.ReadOver.{StaysSame, stays_same}
use Rattle.theory_follow.specs.LeftOut.{HasAsides, chain_strings, StandsAlike, AsidesLeftOut}

none_filled : {X : Type 0} {x : X} {xs : List X} → [] ≡ x ∷ xs → ⊥
none_filled e = cc

heads : {X : Type 0} {a b : X} {those others : List X} → a ∷ those ≡ b ∷ others → a ≡ b
heads e = cc

tails : {X : Type 0} {a b : X} {those others : List X} → a ∷ those ≡ b ∷ others → those ≡ others
tails e = cc

-- what is hashed of these transactions
abbrev strings_of : (List ℕ → List ℕ) → List Confirmed → List (List ℕ)
strings_of hash cs = flat_map (λ (c : Confirmed). transaction_strings hash c.tx) cs

pub all_noted_within : (ms ts all : List (List ℕ)) → Within ms all → Within ts all → Within (noted_all ms ts) all
all_noted_within ms [] all h k = h
all_noted_within ms (t ∷ ts) all h k =
    all_noted_within (noted ms t) ts all (λ m i. by_case m (noted_back ms t m i)) (λ m i. k m (among_right m (t ∷ []) ts i))
  where
    by_case : (m : List ℕ) → (is_among m ms ≡ true) ⊎ (m ≡ t) → is_among m all ≡ true
    by_case m (inl i) = h m i
    by_case m (inr e) = subst (λ (x : List ℕ). is_among x all ≡ true) (sym e) (k t (among_left t (t ∷ []) ts (among_head t [])))

module _ (hash : List ℕ → List ℕ) (keys : Keys) (s : Instance) where
  abbrev ts : List Transaction
  ts = transactions hash keys s

  -- the deal stands so in both, and the same happened
  record StandSame (a b : Course) : Type 0 where
    state : a.state ≡ b.state
    history : a.history ≡ b.history

  -- by one transaction in the same block they go on alike
  go_same : (a b : Course) (c d : Confirmed) → StandSame a b → in_block c ≡ in_block d
      → StandSame (gone_on hash s (transactions hash keys s) a c) (gone_on hash s (transactions hash keys s) b d)
  go_same a b c d same e =
      let st = same.state in
      let hs = same.history in
      let height : c.height ≡ d.height = ap (λ (p : ℕ × Tx). p.0) e in
      let tx : c.tx ≡ d.tx = ap (λ (p : ℕ × Tx). p.1) e in
      record {
        state = λ i. after_transaction hash s ts (st i) (tx i);
        history = λ i. if_matters (matters (happened hash s ts (st i) (height i) (tx i))) (hs i) (happened hash s ts (st i) (height i) (tx i));
      }

  same_refusal : (a b : Course) (c d : Confirmed) → StandSame a b → in_block c ≡ in_block d
      → refusal hash s (transactions hash keys s) a.state c.height c.tx ≡ refusal hash s (transactions hash keys s) b.state d.height d.tx
  same_refusal a b c d same e =
      let st = same.state in
      λ i. refusal hash s ts (st i) ((e i).0) ((e i).1)

  -- by one that changes nothing the other stays the same
  stay_same : (a b : Course) (c : Confirmed) → StandSame a b → StaysSame hash s (transactions hash keys s) b c
      → StandSame a (gone_on hash s (transactions hash keys s) b c)
  stay_same a b c same stays = record { state = same.state ∙ sym stays.state; history = same.history ∙ sym stays.history }

  abbrev Leads : Course → List Confirmed → Course → Type 0
  Leads = LeadsTo hash s (transactions hash keys s)

  -- one more behind those that lead to a course
  leads_more : (cs : List Confirmed) (c : Confirmed) (first last : Course) → Leads first cs last
      → collision hash last.messages (transaction_strings hash c.tx) ≡ None
      → refusal hash s (transactions hash keys s) last.state c.height c.tx ≡ None
      → Leads first (cs ++ c ∷ []) (gone_on hash s (transactions hash keys s) last c)
  leads_more [] c first last h calm fine =
      subst (λ (x : Course). Leads x (c ∷ []) (gone_on hash s ts last c)) h (calm, fine, refl)
  leads_more (x ∷ cs) c first last h calm fine = (h.0, h.1, leads_more cs c (gone_on hash s ts first x) last h.2 calm fine)

  start : Course
  start = opening_course hash keys s

  abbrev Aside : Course → List Confirmed → List Confirmed → Type 0
  Aside b cs ds = HasAsides hash s (transactions hash keys s) b cs (in_blocks ds)

  -- what the other comes to, and the deal stands so in both
  record Comes (a last : Course) (ds : List Confirmed) : Type 0 where
    course : Course
    leads : Leads a ds course
    same : StandSame last course

  -- ---- added

  module _ (all : List (List ℕ)) (clear : NoCollision hash all) where
    calm_within : (ms xs : List (List ℕ)) → Within ms all → Within xs all → collision hash ms xs ≡ None
    calm_within ms xs h k = collision_within hash ms all xs h (again_calm hash all xs clear k)

    added : (cs ds before : List Confirmed) (a b last : Course) → StandSame a b → Leads (opening_course hash keys s) before b → Aside b cs ds
        → Leads a ds last → Within b.messages all → Within (strings_of hash cs) all → Comes b last cs
    added [] [] before a b last same led h k within strings = record {
      course = b;
      leads = refl;
      same = record { state = ap (λ (c : Course). c.state) k ∙ same.state; history = ap (λ (c : Course). c.history) k ∙ same.history };
    }
    added [] (d ∷ ds) before a b last same led h k within strings = absurd (none_filled (sym h))
    added (c ∷ cs) ds before a b last same led (inl h) k within strings =
        let stays = stays_same hash keys s before b c led h.0 in
        let xs = transaction_strings hash c.tx in
        let here : Within xs all = λ m i. strings m (among_left m xs (strings_of hash cs) i) in
        let calm = calm_within b.messages xs within here in
        let next = gone_on hash s ts b c in
        let r = added cs ds (before ++ c ∷ []) a next last (stay_same a b c same stays)
        (leads_more before c (opening_course hash keys s) b led calm stays.isnt_bad) h.1 k
        (all_noted_within b.messages xs all within here) (λ m i. strings m (among_right m xs (strings_of hash cs) i)) in
        record { course = r.course; leads = (calm, stays.isnt_bad, r.leads); same = r.same }
    added (c ∷ cs) [] before a b last same led (inr h) k within strings = absurd (none_filled h.1)
    added (c ∷ cs) (d ∷ ds) before a b last same led (inr h) k within strings =
        let block : in_block d ≡ in_block c = heads h.1 in
        let xs = transaction_strings hash c.tx in
        let here : Within xs all = λ m i. strings m (among_left m xs (strings_of hash cs) i) in
        let calm = calm_within b.messages xs within here in
        let fine = sym (same_refusal a b d c same block) ∙ k.1 in
        let next = gone_on hash s ts b c in
        let r = added cs ds (before ++ c ∷ []) (gone_on hash s ts a d) next last (go_same a b d c same block)
        (leads_more before c (opening_course hash keys s) b led calm fine)
        (subst (HasAsides hash s ts (gone_on hash s ts b c) cs) (sym (tails h.1)) h.2) k.2
        (all_noted_within b.messages xs all within here) (λ m i. strings m (among_right m xs (strings_of hash cs) i)) in
        record { course = r.course; leads = (calm, fine, r.leads); same = r.same }

  -- ---- left out

  left_out : (cs ds before : List Confirmed) (a b last : Course) → StandSame a b → Leads (opening_course hash keys s) before b → Aside b cs ds
      → Leads b cs last → Within a.messages b.messages → Comes a last ds
  left_out [] [] before a b last same led h k within = record {
    course = a;
    leads = refl;
    same = record { state = ap (λ (c : Course). c.state) k ∙ sym same.state; history = ap (λ (c : Course). c.history) k ∙ sym same.history };
  }
  left_out [] (d ∷ ds) before a b last same led h k within = absurd (none_filled (sym h))
  left_out (c ∷ cs) ds before a b last same led (inl h) k within =
      let stays = stays_same hash keys s before b c led h.0 in
      left_out cs ds (before ++ c ∷ []) a (gone_on hash s ts b c) last (stay_same a b c same stays)
      (leads_more before c (opening_course hash keys s) b led k.0 k.1) h.1 k.2
      (λ m i. all_more b.messages (transaction_strings hash c.tx) m (within m i))
  left_out (c ∷ cs) [] before a b last same led (inr h) k within = absurd (none_filled h.1)
  left_out (c ∷ cs) (d ∷ ds) before a b last same led (inr h) k within =
      let block : in_block d ≡ in_block c = heads h.1 in
      let calm : collision hash a.messages (transaction_strings hash d.tx) ≡ None =
      (λ i. collision hash a.messages (transaction_strings hash ((block i).1)))
      ∙ collision_within hash a.messages b.messages (transaction_strings hash c.tx) within k.0 in
      let fine = same_refusal a b d c same block ∙ k.1 in
      let messages : Within (noted_all a.messages (transaction_strings hash d.tx)) (noted_all b.messages (transaction_strings hash c.tx)) =
      subst (λ (p : ℕ × Tx). Within (noted_all a.messages (transaction_strings hash p.1)) (noted_all b.messages (transaction_strings hash c.tx)))
      (sym block) (all_within a.messages b.messages (transaction_strings hash c.tx) within) in
      let r = left_out cs ds (before ++ c ∷ []) (gone_on hash s ts a d) (gone_on hash s ts b c) last (go_same a b d c same block)
      (leads_more before c (opening_course hash keys s) b led k.0 k.1)
      (subst (HasAsides hash s ts (gone_on hash s ts b c) cs) (sym (tails h.1)) h.2) k.2 messages in
      record { course = r.course; leads = (calm, fine, r.leads); same = r.same }

  -- ---- the text

  same_text : (one two : Course) → StandSame one two → (height : ℕ) (given : List Signed) (strings : List Shown)
      → state_text hash keys s two height given strings ≡ state_text hash keys s one height given strings
  same_text one two same height given strings =
      let state = same.state in
      let history = same.history in
      sym (λ i. state_text hash keys s (record { state = state i; history = history i; messages = [] }) height given strings)

pub asides_left_out : AsidesLeftOut
asides_left_out hash keys s text longer h = record { added = more; left_out = fewer }
  where
    begun : StandSame hash keys s (opening_course hash keys s) (opening_course hash keys s)
    begun = record { state = refl; history = refl }

    more : (course : Course) (tip : ℕ) → follow_chain hash keys s text ≡ stands course tip → (read_chain longer).fault ≡ None
        → NoCollision hash (chain_strings hash keys s longer) → StandsAlike hash keys s longer course
    more course tip e fine clear =
        let ds = (read_chain text).confirmed in
        let cs = (read_chain longer).confirmed in
        let xs = deal_strings hash keys s in
        let ys = strings_of hash cs in
        let r = added hash keys s (chain_strings hash keys s longer) clear cs ds [] (opening_course hash keys s) (opening_course hash keys s)
        course begun refl h ((followed_exactly hash keys s text course tip).0 e).2
        (all_noted_within [] xs (xs ++ ys) (λ m i. absurd (nothing m i)) (λ m i. among_left m xs ys i)) (λ m i. among_right m xs ys i) in
        record {
          course = r.course;
          followed = (followed_exactly hash keys s longer r.course (read_chain longer).tip).1 (fine, refl, r.leads);
          same = same_text hash keys s course r.course r.same;
        }
      where
        nothing : (m : List ℕ) → is_among m [] ≡ true → ⊥
        nothing m i = cc

    fewer : (course : Course) (tip : ℕ) → follow_chain hash keys s longer ≡ stands course tip → (read_chain text).fault ≡ None
        → StandsAlike hash keys s text course
    fewer course tip e fine =
        let r = left_out hash keys s (read_chain longer).confirmed (read_chain text).confirmed [] (opening_course hash keys s)
        (opening_course hash keys s) course begun refl h ((followed_exactly hash keys s longer course tip).0 e).2 (λ m i. i) in
        record {
          course = r.course;
          followed = (followed_exactly hash keys s text r.course (read_chain text).tip).1 (fine, refl, r.leads);
          same = same_text hash keys s course r.course r.same;
        }
