-- What every run keeps of signatures' keys: each is of a label that was hashed, and an honest party's branch keys sign only of compiled contracts.
use Rattle.std.proofs.Common.{◌≡◌, ℕ, ◌+◌, ◌≤◌, List, [], ◌∷◌, ◌++◌, length, true, false, Option, Some, None, Result, Ok, Err, refl, sym, ap, ◌∙◌, subst, inl, inr}
use Rattle.std.specs.Prelude.{◌==◌, ◌⊎◌, slice_get, option_map, is_some}
use Rattle.std.proofs.lemmas.Bool.{both_ways, or_left, not-false}
use Rattle.spec_data.specs.Lists.{is_among, first_reason}
use Rattle.spec_data.proofs.ListLemmas.{no_reason-none_true}
use Rattle.spec_terms.specs.Term as term
use Rattle.spec_terms.specs.Term.{branches}
use Rattle.spec_terms.specs.Paths.{at}
use Rattle.spec_terms.specs.Parties.{participants}
use Rattle.spec_terms.specs.Precondition.{persistent}
use Rattle.spec_terms.specs.declared.path.PathStep.{PathStep}
use Rattle.spec_terms.specs.declared.path.PathStep.TheVariants.{Branch as To}
use Rattle.spec_bitcoin.specs.declared.label.Label.{Label}
use Rattle.spec_bitcoin.specs.declared.label.Label.TheVariants as labels
use Rattle.spec_bitcoin.specs.declared.tx.Tx.{Tx}
use Rattle.spec_bitcoin.specs.declared.verdict.Verdict.{Verdict}
use Rattle.spec_bitcoin.specs.declared.verdict.Verdict.TheVariants as verdicts
use Rattle.spec_bitcoin.specs.Reading.{transaction_of}
use Rattle.spec_bitcoin.specs.Keys.{Pair, IsLabel, key_of, label_text, has_signed}
use Rattle.spec_calculus.specs.declared.parts.Advertised.{Advertised}
use Rattle.spec_calculus.specs.Configuration.{Configuration}
use Rattle.spec_compiler.specs.Instance.{Instance, branch_label, deposit_key, people}
use Rattle.spec_compiler.specs.Endorsements.{Need}
use Rattle.spec_compiler.specs.Transactions.{tx_of, prepared, initial_unsigned}
use Rattle.spec_run.specs.declared.event.Event.{Event}
use Rattle.spec_run.specs.declared.event.Event.TheVariants as events
use Rattle.spec_run.specs.declared.outcome.Reason.{Reason}
use Rattle.spec_run.specs.Setup.{Setup, is_declared, is_honest}
use Rattle.spec_run.specs.World.{ContractPosition, World, live_position_at, is_advertised, is_promise_of, has_promised}
use Rattle.spec_data.specs.Messages.{noted_all}
use Rattle.spec_run.specs.Compiled.{compiled_instance}
use Rattle.spec_run.specs.Conditions.{HashesBytes, IsEvent}
use Rattle.spec_run.specs.Pending.{Pending, unless, applied}
use Rattle.spec_run.specs.Ledger.{position_branch, position_path, branch_in, judged, verdict_in, strings_of}
use Rattle.spec_run.specs.Signing.{with_pairs, signed_all, needs_at, endorsing_pairs, endorse_row, initial_pairs, init_row, asked_by, branch_if_live, branch_pair, prepared_if_compiled, authorising_pairs, authorise_row, label_party, sign_row}
use Rattle.spec_run.specs.Revealing.{own_secret, reveal_row}
use Rattle.spec_run.specs.Giving.{given_pairs, given_digest, unsigned_gift, give_row, gift}
use Rattle.spec_run.specs.Firing.{fire_init_row, fire_row, reaches_if, initial_by, taking_of_position}
use Rattle.spec_run.specs.Advertising.{arranged, deposit_names, advertise_row}
use Rattle.spec_run.specs.Committing.{committed_strings, commit_row, digest_row, with_promise, committed_pending}
use Rattle.spec_run.specs.Event.{append_read, mine_row, pending}
use Rattle.theory_bitcoin.proofs.Labels.{one_label}
use Rattle.theory_calculus.proofs.Names.{bytes-true}
use Rattle.theory_calculus.proofs.Members.{all_then, some_there}
use Rattle.theory_world.proofs.Tests.{any-append}
use Rattle.theory_world.specs.KeptApart.{NoCollision}
use Rattle.theory_world.proofs.Hashed.{all_more, all_new, among_head}
use Rattle.theory_world.proofs.Book.{key-apart, signed_back}
use Rattle.theory_world.proofs.Contracts.Standing.{term_branches, unsigned_of_branch}
use Rattle.theory_world.proofs.Contracts.Mentions.{branch_named, asked_mentioned}
use Rattle.theory_world.proofs.Later.{compiled_is, compiled_from}
use Rattle.theory_run.specs.KeptBook.{KeptBook, HeldFine}
use Rattle.theory_run.proofs.Accepted.Spending.{Checked}
use Rattle.theory_run.proofs.Facts.Labelled.{IsHeard, deposit_label, heard_label, one_pair}
use Rattle.theory_world.proofs.Contracts.Endorsed.{need_of_pair, NeedIs, branch_need, put_need, need_is}
use Rattle.theory_run.proofs.Events.AfterSigning.{pair_of_deposit}
use Rattle.theory_run.proofs.Events.Quiet.{IsActive, active, held_contract}
use Rattle.theory_run.proofs.Events.Given.{key_given}
use Rattle.theory_run.specs.KeptLabels.{IsOwn, HasLabel, KeptLabels}

-- the key of a label of the party that was hashed
pub record IsKeyOf (s : Setup) (w : World) (party key : List ℕ) : Type 0 where
  pub known : HasLabel s w key
  pub whose : label_party known.label ≡ party

pub opening_labels : (s : Setup) (w : World) → w.book ≡ [] → KeptLabels s w
opening_labels s w e = record { signed = λ k d h. absurd (both_ways _ (ap (λ b. has_signed b k d) e) h) }

-- an honest party's key of a branch has signed only where the contract is compiled
pub signs_compiled : (s : Setup) (w : World) (hs : List (List ℕ)) → KeptLabels s w → NoCollision s.hash hs
    → ((t : List ℕ) → is_among t w.hashed ≡ true → is_among t hs ≡ true)
    → (k : ℕ) (path : List PathStep) (a d : List ℕ) → IsLabel (branch_label k path a) → is_among (label_text (branch_label k path a)) hs
    ≡ true → is_honest s a ≡ true → has_signed w.book (key_of s.hash (branch_label k path a)) d ≡ true → is_some (compiled_instance s w k) ≡ true
signs_compiled s w hs kept clear sub k path a d fine heard honest h =
    let l = kept.signed (key_of s.hash (branch_label k path a)) d h in
    let e : l.label ≡ branch_label k path a =
    one_label l.label (branch_label k path a) l.fine fine (key-apart s.hash hs l.label (branch_label k path a) clear (sub _ l.heard) heard l.is) in
    subst (IsOwn s w) e l.own honest

-- ---- later

-- a compiled contract stays compiled
pub some_compiled : (s : Setup) (w next : World) (k : ℕ) → (is_advertised w k ≡ true → is_advertised next k ≡ true)
    → ((a : List ℕ) → has_promised w k a ≡ true → has_promised next k a ≡ true) → is_some (compiled_instance s w k) ≡ true
    → is_some (compiled_instance s next k) ≡ true
some_compiled s w next k adverts promises h =
    let r = some_there (compiled_instance s w k) h in
    let c = compiled_is s w k r.0 r.1 in
    ap is_some (compiled_from s next k c.advert c.there (adverts c.advertised)
    (all_then (has_promised w k) (has_promised next k) (participants c.advert) promises c.promised))

-- what of two worlds is looked at
pub record Grows (s : Setup) (w next : World) : Type 0 where
  pub hashed : (t : List ℕ) → is_among t w.hashed ≡ true → is_among t next.hashed ≡ true
  pub adverts : (k : ℕ) → is_advertised w k ≡ true → is_advertised next k ≡ true
  pub promises : (k : ℕ) (a : List ℕ) → has_promised w k a ≡ true → has_promised next k a ≡ true

own_later : (s : Setup) (w next : World) (l : Label) → Grows s w next → IsOwn s w l → IsOwn s next l
own_later s w next (labels.Deposit a) f h = h
own_later s w next (labels.Branch k path a) f h = λ e. some_compiled s w next k (f.adverts k) (f.promises k) (h e)

label_later : (s : Setup) (w next : World) (key : List ℕ) → Grows s w next → HasLabel s w key → HasLabel s next key
label_later s w next key f h = record { label = h.label; fine = h.fine; heard = f.hashed _ h.heard; is = h.is; own = own_later s w next h.label f h.own }

-- where new pairs are signed by labels
pub labels_later : (s : Setup) (w next : World) (ps : List Pair) → KeptLabels s w → Grows s w next
    → ((k d : List ℕ) → has_signed next.book k d ≡ true → (has_signed w.book k d ≡ true) ⊎ (has_signed ps k d ≡ true))
    → ((k d : List ℕ) → has_signed ps k d ≡ true → HasLabel s next k) → KeptLabels s next
labels_later s w next ps kept f back new =
    record { signed = λ k d h. elim (back k d h) [ inl x ↦ label_later s w next k f (kept.signed k d x) | inr y ↦ new k d y ] }

-- ---- every event

module _ (s : Setup) (size : HashesBytes s.hash) (few_contracts : length s.contracts ≤ 16)
    (g : Configuration) (w : World) (kept : KeptBook s g w) (check : Checked s w) (clear : NoCollision s.hash w.hashed) (own : KeptLabels s w) where
  abbrev Heard : Label → Type 0
  Heard l = IsHeard s size few_contracts g w kept check w.hashed clear (λ t h. h) l

  -- a key of a label that was heard before
  old_label : (key party : List ℕ) (l : Label) → label_party l ≡ party → Heard l → key_of s.hash l ≡ key → IsOwn s w l → IsKeyOf s w party key
  old_label key party l p h e o = record { known = record { label = l; fine = h.fine; heard = h.heard; is = e; own = o }; whose = p }

  -- a party's key of its deposits
  of_deposit : (key a : List ℕ) → is_declared s a ≡ true → deposit_key s.hash a ≡ key → IsKeyOf s w a key
  of_deposit key a decl e = old_label key a (labels.Deposit a) refl (deposit_label s size few_contracts g w kept check w.hashed clear (λ t h. h) a decl) e tt

  -- where these pairs are signed, what is posted and what is hashed
  signing : (ps : List Pair) (tip : ℕ) (hashes posts : List (List ℕ)) → ((k d : List ℕ) → has_signed ps k d ≡ true → HasLabel s w k)
      → KeptLabels s (record w { tip = tip; book = signed_all w.book ps; hashed = noted_all w.hashed hashes; posted = posts })
  signing ps tip hashes posts new =
      let next : World = record w { tip = tip; book = signed_all w.book ps; hashed = noted_all w.hashed hashes; posted = posts } in
      let f : Grows s w next = record { hashed = λ t h. all_more w.hashed hashes t h; adverts = λ k h. h; promises = λ k a h. h } in
      labels_later s w next ps own f (λ k d h. signed_back w.book ps k d h) (λ k d h. label_later s w next k f (new k d h))

  nothing : (k d : List ℕ) → has_signed [] k d ≡ true → HasLabel s w k
  nothing k d h = cc

  unless_labels : (r : Option Reason) (hashes : List (List ℕ)) (d : Pending) → (r ≡ None → KeptLabels s (applied w d))
      → KeptLabels s (applied w (unless r w hashes d))
  unless_labels None hashes d h = h refl
  unless_labels (Some r) hashes d h = signing [] w.tip hashes (w.posted ++ []) nothing

  -- ---- who signs what

  pub endorsed_labels : (party : List ℕ) → is_declared s party ≡ true → (k : ℕ) (o : Option Instance) → compiled_instance s w k ≡ o
      → (key d : List ℕ) → has_signed (endorsing_pairs s party o) key d ≡ true → IsKeyOf s w party key
  endorsed_labels party decl k None c key d h = cc
  endorsed_labels party decl k (Some st) c key d h =
      let r = need_of_pair party (needs_at s st) key d h in
      by_need r.0 (need_is s.hash st r.0 r.1) r.2 r.3
    where
      by_need : (n : Need) → NeedIs s.hash st n → n.party ≡ party → n.key ≡ key → IsKeyOf s w party key
      by_need n (branch_need path dr br part free nk dig) np e =
          let named : st.contract ≡ k = ap (λ (y : Instance). y.contract) (compiled_is s w k st c).is in
          let l = heard_label s size few_contracts g w kept check w.hashed clear (λ t h. h)
          k st br.is_branch.position br.here br.is_branch.choice br.index br.branch n.party c br.is_branch.stands br.is_branch.there part in
          old_label key party (branch_label k (br.is_branch.position ++ To br.index ∷ []) n.party) np l
          (sym (λ m. key_of s.hash (branch_label (named m) (br.is_branch.path_is m) n.party)) ∙ sym nk ∙ e) (λ honest. ap is_some c)
      by_need n (put_need path dr br nk y i dig) np e = of_deposit key party decl (ap (deposit_key s.hash) (sym np) ∙ sym nk ∙ e)

  pub started_labels : (party : List ℕ) → is_declared s party ≡ true → (o : Option Instance) (key d : List ℕ)
      → has_signed (initial_pairs s party o) key d ≡ true → IsKeyOf s w party key
  started_labels party decl None key d h = cc
  started_labels party decl (Some st) key d h =
      of_deposit key party decl (pair_of_deposit s st (tx_of (initial_unsigned s.hash st)) party (persistent st.advert.pre) key d h).0

  pub authorised_labels : (party : List ℕ) (n j : ℕ) (o : Option ContractPosition) → live_position_at w n ≡ o
      → is_some (branch_if_live s o j) ≡ true → is_among party (asked_by (branch_if_live s o j)) ≡ true → (key d : List ℕ)
      → has_signed (authorising_pairs s w party o j) key d ≡ true → IsKeyOf s w party key
  authorised_labels party n j None e b a key d h = cc
  authorised_labels party n j (Some held) e b a key d h = by_branch (position_branch s held j) refl b a
    where
      act : IsActive w n held
      act = active w n held e

      hf : HeldFine s w act.output held
      hf = kept.held n act.output held act.there act.holds

      by_branch : (o : Option term.Guarded) → position_branch s held j ≡ o → is_some o ≡ true → is_among party (asked_by o) ≡ true → IsKeyOf s w party key
      by_branch None u v q = cc
      by_branch (Some c) u v q =
          let in_text : at hf.instance.advert.root (held.position ++ To j ∷ []) ≡ Some c =
          ap (λ o. branch_in o (position_path held j)) (sym (held_contract s w held act.output hf)) ∙ u in
          let has : slice_get (branches hf.choice) j ≡ Some c = sym (term_branches s.hash hf.instance held.position hf.here hf.choice j hf.stands) ∙ in_text in
          let part : is_among party (people hf.instance) ≡ true =
          branch_named hf.instance.advert (held.position ++ To j ∷ []) c party in_text (asked_mentioned c party q) in
          let l = heard_label s size few_contracts g w kept check w.hashed clear
          (λ t h. h) held.contract hf.instance held.position hf.here hf.choice j c party hf.compiled hf.stands has part in
          let pairs = ap (λ (x : Option Instance). branch_pair s party held.contract
          (position_path held j) (prepared_if_compiled s x (position_path held j))) hf.compiled
          ∙ ap (λ x. branch_pair s party held.contract (position_path held j) (option_map (prepared s.hash) x))
          (unsigned_of_branch s.hash hf.instance held.position hf.here hf.choice j c hf.stands has) in
          let p = one_pair (key_of s.hash (branch_label held.contract (held.position ++ To j ∷ []) party)) _ key d
          (subst (λ ps. has_signed ps key d ≡ true) pairs h) in
          old_label key party (branch_label held.contract (held.position ++ To j ∷ []) party) refl l p.0 (λ honest. ap is_some hf.compiled)

  pub given_labels : (party : List ℕ) → is_declared s party ≡ true → (inputs : List ℕ) (outputs : List (List ℕ × ℕ)) (key d : List ℕ)
      → has_signed (given_pairs s w party inputs outputs) key d ≡ true → IsKeyOf s w party key
  given_labels party decl inputs outputs key d h =
      of_deposit key party decl (key_given (deposit_key s.hash party) (given_digest s w party (unsigned_gift s w inputs outputs)) inputs key d h).0

  -- ---- what reaches the ledger

  judged_labels : (ps : List Pair) (tx : Tx) (v : Verdict) → ((k d : List ℕ) → has_signed ps k d ≡ true → HasLabel s w k)
      → KeptLabels s (applied w (judged s w (with_pairs w ps) tx v))
  judged_labels ps tx (verdicts.Refused r) new = signing [] w.tip (strings_of s (with_pairs w ps) tx) (w.posted ++ []) nothing
  judged_labels ps tx (verdicts.Accepted spent made) new =
      let d = judged s w (with_pairs w ps) tx (verdicts.Accepted spent made) in
      let f : Grows s w (applied w d) = record { hashed = λ t h. all_more w.hashed d.hashes t h; adverts = λ k h. h; promises = λ k a h. h } in
      labels_later s w (applied w d) ps own f (λ k e h. signed_back w.book ps k e h) (λ k e h. label_later s w (applied w d) k f (new k e h))

  if_labels : (o : Option Tx) → KeptLabels s (applied w (reaches_if s w o))
  if_labels None = signing [] w.tip [] (w.posted ++ []) nothing
  if_labels (Some tx) = judged_labels [] tx (verdict_in s w tx) nothing

  read_labels : (r : Result Tx ℕ) → KeptLabels s (applied w (append_read s w r))
  read_labels (Ok tx) = judged_labels [] tx (verdict_in s w tx) nothing
  read_labels (Err place) = signing [] w.tip [] (w.posted ++ []) nothing

  -- ---- a commitment

  committed_labels : (k : ℕ) (party : List ℕ) (digests : List (List ℕ × List ℕ)) (hashes posts : List (List ℕ))
      → KeptLabels s (record (with_promise s w k party digests) { hashed = noted_all w.hashed hashes; posted = posts })
  committed_labels k party digests hashes posts =
      let next : World = record (with_promise s w k party digests) { hashed = noted_all w.hashed hashes; posted = posts } in
      let f : Grows s w next = record {
        hashed = λ t h. all_more w.hashed hashes t h;
        adverts = λ j h. h;
        promises = λ j a h. any-append (is_promise_of j a) w.promises _ ∙ or_left _ _ h;
      } in
      labels_later s w next [] own f (λ j d h. inl h) (λ j d h. cc)

  advertised_labels : (k : ℕ) (bs : List (List ℕ × ℕ)) (posts : List (List ℕ))
      → KeptLabels s (record w { advertised = w.advertised ++ record { contract = k; bindings = bs } ∷ []; posted = posts })
  advertised_labels k bs posts =
      let next : World = record w { advertised = w.advertised ++ record { contract = k; bindings = bs } ∷ []; posted = posts } in
      let f : Grows s w next = record {
        hashed = λ t h. h;
        adverts = λ j h. any-append (λ (a : Advertised). a.contract == j) w.advertised _ ∙ or_left _ _ h;
        promises = λ j a h. h;
      } in
      labels_later s w next [] own f (λ j d h. inl h) (λ j d h. cc)

  pub labels_after : (e : Event) → IsEvent s e → KeptLabels s (applied w (pending s w e))
  labels_after (events.Advertise contract bindings) is =
      unless_labels (first_reason (advertise_row s w contract bindings)) [] _
      (λ r. advertised_labels contract (arranged 0 (deposit_names s contract) bindings) (w.posted ++ []))
  labels_after (events.Commit contract party digests) is = unless_labels (first_reason (commit_row s w contract party digests)) [] _ (λ r.
      unless_labels (first_reason (digest_row s w contract party digests)) (committed_strings s contract party) _ (λ q.
      committed_labels contract party digests (committed_pending s (with_promise s w contract party digests) contract party
      (committed_strings s contract party)).hashes (w.posted ++ [])))
  labels_after (events.Endorse contract party) is = unless_labels (first_reason (endorse_row s w contract party)) [] _ (λ r.
      signing (endorsing_pairs s party (compiled_instance s w contract)) w.tip [] (w.posted ++ [])
      (λ x y h. (endorsed_labels party is contract (compiled_instance s w contract) refl x y h).known))
  labels_after (events.Init contract party) is = unless_labels (first_reason (init_row s w contract party)) [] _ (λ r.
      signing (initial_pairs s party (compiled_instance s w contract)) w.tip [] (w.posted ++ [])
      (λ x y h. (started_labels party is (compiled_instance s w contract) x y h).known))
  labels_after (events.Authorise party output branch) is = unless_labels (first_reason (authorise_row s w party output branch)) [] _ (λ r.
      let row = no_reason-none_true (authorise_row s w party output branch) r in
      signing (authorising_pairs s w party (live_position_at w output) branch) w.tip [] (w.posted ++ [])
      (λ x y h. (authorised_labels party output branch (live_position_at w output) refl (not-false _ row.1.0) (not-false _ row.1.1.0) x y h).known))
  labels_after (events.Reveal contract party secret) is =
      unless_labels (first_reason (reveal_row s w contract party secret)) [] _
      (λ r. signing [] w.tip (own_secret s party secret ∷ []) (w.posted ++ own_secret s party secret ∷ []) nothing)
  labels_after (events.Post bytes) is = signing [] w.tip (bytes ∷ []) (w.posted ++ bytes ∷ []) nothing
  labels_after (events.Sign party label digest) is = unless_labels (first_reason (sign_row s party label)) [] _ (λ r.
      let row = no_reason-none_true (sign_row s party label) r in
      let ps : List Pair = (key_of s.hash label, digest) ∷ [] in
      let next : World = record w { book = signed_all w.book ps; hashed = noted_all w.hashed (label_text label ∷ []); posted = w.posted ++ [] } in
      let f : Grows s w next = record { hashed = λ t h. all_more w.hashed (label_text label ∷ []) t h; adverts = λ k h. h; promises = λ k a h. h } in
      labels_later s w next ps own f (λ k d h. signed_back w.book ps k d h) (λ k d h. record {
        label = label;
        fine = is.1;
        heard = all_new w.hashed (label_text label ∷ []) (label_text label) (among_head (label_text label) []);
        is = (one_pair (key_of s.hash label) digest k d h).0;
        own = lying next label (subst (λ y. is_honest s y ≡ false) (sym (bytes-true (label_party label) party (not-false _ row.1.0))) row.0);
      }))
    where
      lying : (next : World) (l : Label) → is_honest s (label_party l) ≡ false → IsOwn s next l
      lying next (labels.Deposit a) h = tt
      lying next (labels.Branch k path a) h = λ honest. absurd (both_ways _ h honest)
  labels_after (events.Give party inputs outputs) is = unless_labels (first_reason (give_row s w party inputs outputs)) [] _ (λ r.
      judged_labels (given_pairs s w party inputs outputs) (gift s w party inputs outputs)
      (verdict_in s (with_pairs w (given_pairs s w party inputs outputs)) (gift s w party inputs outputs))
      (λ x y h. (given_labels party is.giver inputs outputs x y h).known))
  labels_after (events.Append bytes) is = read_labels (transaction_of bytes)
  labels_after (events.FireInit contract) is =
      unless_labels (first_reason (fire_init_row s w contract)) [] _ (λ r. if_labels (initial_by s (compiled_instance s w contract)))
  labels_after (events.Fire output branch) is =
      unless_labels (first_reason (fire_row s w output branch)) [] _ (λ r. if_labels (taking_of_position s w (live_position_at w output) branch))
  labels_after (events.Mine blocks) is = unless_labels (first_reason (mine_row w blocks)) [] _ (λ r. signing [] (w.tip + blocks) [] (w.posted ++ []) nothing)
