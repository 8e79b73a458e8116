-- What is kept after a gift: its signatures are taken before its transaction, whose messages tell them apart.
use Rattle.std.proofs.Common.{◌≡◌, ℕ, ◌+◌, ◌≤◌, List, [], ◌∷◌, ◌++◌, length, map, Bool, true, false, Option, Some, None, refl, sym, ap, ◌∙◌, subst, arith, inl, inr}
use Rattle.std.specs.Prelude.{◌&&◌, ◌⊎◌, slice_get, is_some, nat_lt, if◌then◌else◌}
use Rattle.std.specs.List.{AllByRecursion}
use Rattle.std.specs.Str.{bytes_eq}
use Rattle.std.proofs.lemmas.Bool.{and_parts, or_cases}
use Rattle.std.proofs.lemmas.Bool.Decides.{nat_tests}
use Rattle.std.proofs.lemmas.List.Sums.{sum_by-cons}
use Rattle.spec_data.specs.Lists.{has_number, is_among, first_reason, NoneTrue}
use Rattle.spec_data.specs.Ranges.{max_money}
use Rattle.spec_data.proofs.ListLemmas.{no_reason-none_true}
use Rattle.spec_terms.specs.Term as term
use Rattle.spec_terms.specs.Term.{Contract, branches}
use Rattle.spec_terms.specs.declared.path.PathStep.{PathStep}
use Rattle.spec_terms.specs.declared.path.PathStep.TheVariants.{Branch as To}
use Rattle.spec_bitcoin.specs.declared.label.Label.TheVariants as labels
use Rattle.spec_bitcoin.specs.declared.tx.Tx.{Tx}
use Rattle.spec_bitcoin.specs.declared.verdict.Verdict.{Verdict}
use Rattle.spec_bitcoin.specs.declared.verdict.Verdict.TheVariants as verdicts
use Rattle.spec_bitcoin.specs.Spelling.{IsPlace, IsOutput}
use Rattle.spec_bitcoin.specs.Digests.{txid, preimage}
use Rattle.spec_bitcoin.specs.Keys.{Pair, key_of, has_signed}
use Rattle.spec_calculus.specs.Configuration.{Configuration}
use Rattle.spec_calculus.specs.Beginning.{is_init_authorised}
use Rattle.spec_calculus.specs.Branches.{has_branch_authorised}
use Rattle.spec_calculus.specs.Steps.{after_steps}
use Rattle.spec_compiler.specs.Instance.{Instance, branch_label, deposit_key, people}
use Rattle.spec_compiler.specs.Transactions.{Standing, party_script}
use Rattle.spec_compiler.specs.ByPath.{position_at}
use Rattle.spec_run.specs.declared.event.Event.{Event}
use Rattle.spec_run.specs.declared.outcome.Reason.TheVariants as reason
use Rattle.spec_run.specs.Setup.{Setup, is_declared}
use Rattle.spec_data.specs.Messages.{noted_all, collision}
use Rattle.spec_run.specs.World.{Output, World, output_at, is_deposit}
use Rattle.spec_run.specs.Owners.{deposit_value}
use Rattle.spec_run.specs.Compiled.{outpoint_of, compiled_instance}
use Rattle.spec_run.specs.Conditions.{HashesBytes}
use Rattle.spec_run.specs.Pending.{applied}
use Rattle.spec_run.specs.Ledger.{verdict_in, items_of, strings_of, spend_from, made_from, kind_of, new_position, accepted, judged, reaches}
use Rattle.spec_run.specs.Signing.{with_pairs, label_party}
use Rattle.spec_run.specs.Giving.{first_dead, value_out, give_row, given_input, given_output, unsigned_gift, given_digest, signed_input, given_pairs, gift, give_pending}
use Rattle.spec_run.specs.Steps.{steps_of}
use Rattle.theory_bitcoin.specs.Places.{AllPlaces}
use Rattle.theory_bitcoin.specs.Apart.{bare_input, bare}
use Rattle.theory_calculus.proofs.Names.{bytes-true}
use Rattle.theory_calculus.specs.Members.{Is_in}
use Rattle.theory_world.specs.KeptApart.{NoCollision}
use Rattle.theory_world.proofs.Hashed.{no_collision, among_left, all_more, all_new}
use Rattle.theory_world.proofs.Tests.{length_map}
use Rattle.theory_world.proofs.Ledger.Worth.{IsAccepted, accepted_by}
use Rattle.theory_world.specs.Transactions.{AllSequences, IsNumbered, HeardLists}
use Rattle.theory_world.proofs.Ledger.Preimages.{heard_lists}
use Rattle.theory_world.proofs.Ledger.Bare.{bare_numbered, bare_lists, same_preimage}
use Rattle.theory_world.proofs.Ledger.Accepting.{IsSpent, AllSpent, accepting, HeardAll, heard_shared, heard_input}
use Rattle.theory_run.specs.KeptBook.{KeptBook, AllFinal, HeardDigest, Gave, gave}
use Rattle.theory_run.proofs.Facts.Kept.{AllDead}
use Rattle.theory_run.proofs.Accepted.Spending.{TransactionsFit, Checked}
use Rattle.theory_world.proofs.Later.{get-spent, get-prefix}
use Rattle.theory_run.proofs.Accepted.Accept.{spent_at, all_strings_of}
use Rattle.theory_run.proofs.Widths.Fitting.{output_fits, pays_size, AllShort, short_bytes}
use Rattle.theory_run.proofs.Facts.Labelled.{same_label, deposit_label, heard_label}
use Rattle.theory_run.proofs.Events.AfterSigning.{pairs_kept}
use Rattle.theory_run.proofs.Accepted.Reached.{joined_kept}
use Rattle.theory_world.proofs.Staying.{inits_stay, asked_stay}
use Rattle.theory_run.proofs.Events.Quiet.{KeptAfter, refused_after, unless_after}

-- a pair of these digests has the key, and the digest of one of the numbers
pub key_given : (key : List ℕ) (f : ℕ → List ℕ) (ns : List ℕ) (k d : List ℕ) → has_signed (map {B = Pair} (λ n. (key, f n)) ns) k d ≡ true
    → (key ≡ k) × ((n : ℕ) × Is_in n ns × (f n ≡ d))
key_given key f [] k d h = cc
key_given key f (n ∷ ns) k d h = elim (or_cases (bytes_eq key k && bytes_eq (f n) d) (has_signed (map {B = Pair} (λ n. (key, f n)) ns) k d) h) [
  | inl u ↦ (let p = and_parts (bytes_eq key k) (bytes_eq (f n) d) u in (bytes-true key k p.0, (n, inl refl, bytes-true (f n) d p.1)))
  | inr v ↦ (let r = key_given key f ns k d v in (r.0, (r.1.0, inr r.1.1, r.1.2)))
]

-- ---- the transaction

-- what is given is a live deposit
pub record IsGiven (w : World) (n : ℕ) : Type 0 where
  pub output : Output
  pub there : slice_get w.outputs n ≡ Some output
  pub deposit : is_deposit (Some output) ≡ true

one_given : (w : World) (n : ℕ) (o : Option Output) → slice_get w.outputs n ≡ o → is_deposit o ≡ true → IsGiven w n
one_given w n None e h = cc
one_given w n (Some o) e h = record { output = o; there = e; deposit = h }

pub is_given : (w : World) (ns : List ℕ) → is_some (first_dead w ns) ≡ false → (n : ℕ) → Is_in n ns → IsGiven w n
is_given w [] h n i = absurd i
is_given w (m ∷ ns) h n i = by_test (is_deposit (output_at w m)) refl h i (is_given w ns)
  where
    by_test : (b : Bool) → is_deposit (output_at w m) ≡ b → is_some (if b then first_dead w ns else Some m) ≡ false → (n ≡ m) ⊎ Is_in n ns
        → (is_some (first_dead w ns) ≡ false → (k : ℕ) → Is_in k ns → IsGiven w k) → IsGiven w n
    by_test true e q (inl x) ih = subst (IsGiven w) (sym x) (one_given w m (slice_get w.outputs m) refl e)
    by_test true e q (inr x) ih = ih q n x
    by_test false e q x ih = cc

module _ (s : Setup) (w : World) (party : List ℕ) (u : Tx) where
  pub signed_bare : (ns : List ℕ) → map bare_input (map (signed_input s w party u) ns) ≡ map bare_input (map (given_input w) ns)
  signed_bare [] = refl
  signed_bare (n ∷ ns) = ap (λ is. given_input w n ∷ is) (signed_bare ns)

  pub signed_in : (ns : List ℕ) (n : ℕ) → Is_in n ns → Is_in (signed_input s w party u n) (map (signed_input s w party u) ns)
  signed_in [] n h = absurd h
  signed_in (m ∷ ns) n (inl e) = inl (ap (signed_input s w party u) e)
  signed_in (m ∷ ns) n (inr h) = inr (signed_in ns n h)

pub given_in : (w : World) (ns : List ℕ) (n : ℕ) → Is_in n ns → Is_in (given_input w n) (map (given_input w) ns)
given_in w [] n h = absurd h
given_in w (m ∷ ns) n (inl e) = inl (ap (given_input w) e)
given_in w (m ∷ ns) n (inr h) = inr (given_in w ns n h)

pub given_final : (w : World) (ns : List ℕ) → AllFinal (map (given_input w) ns)
given_final w [] = tt
given_final w (n ∷ ns) = (refl, given_final w ns)

given_places : (w : World) (ns : List ℕ) → ((n : ℕ) → Is_in n ns → IsPlace (outpoint_of (output_at w n))) → AllPlaces (map (given_input w) ns)
given_places w [] h = tt
given_places w (n ∷ ns) h = (h n (inl refl), given_places w ns (λ m i. h m (inr i)))

given_sequences : (w : World) (ns : List ℕ) → AllSequences (map (given_input w) ns)
given_sequences w [] = tt
given_sequences w (n ∷ ns) = (omega arith, given_sequences w ns)

given_outputs_fit : (s : Setup) → HashesBytes s.hash → (os : List (List ℕ × ℕ)) → value_out os ≤ max_money → AllByRecursion IsOutput (map (given_output s) os)
given_outputs_fit s size [] h = tt
given_outputs_fit s size (o ∷ os) h =
    let e : value_out (o ∷ os) ≡ o.1 + value_out os = sum_by-cons (λ (p : List ℕ × ℕ). p.1) o os in
    (output_fits s.hash size (party_script s.hash (o.0)) (o.1) (omega (arith, e, h)), given_outputs_fit s size os (omega (arith, e, h)))

given_outputs_short : (s : Setup) → HashesBytes s.hash → (os : List (List ℕ × ℕ)) → AllShort (map (given_output s) os)
given_outputs_short s size [] = tt
given_outputs_short s size (o ∷ os) = (pays_size s.hash size (party_script s.hash (o.0)) (o.1), given_outputs_short s size os)

module _ (s : Setup) (size : HashesBytes s.hash) (few_contracts : length s.contracts ≤ 16) (strings : List (List ℕ)) (g : Configuration)
    (w : World) (kept : KeptBook s g w) (fit : TransactionsFit s w) (check : Checked s w) (clear : NoCollision s.hash w.hashed)
    (party : List ℕ) (declared : is_declared s party ≡ true) (inputs : List ℕ) (outputs : List (List ℕ × ℕ)) where
  abbrev pub pairs : List Pair
  pairs = given_pairs s w party inputs outputs

  abbrev pub next : World
  next = with_pairs w pairs

  -- no branch's key is among them
  pub given_branch : (k : ℕ) (st : Instance) (q : List PathStep) (here : Standing) (choice : Contract) (i : ℕ) (b : term.Guarded)
      (a d : List ℕ) → compiled_instance s w k ≡ Some st → position_at s.hash st q ≡ Some (here, choice) → slice_get (branches choice) i ≡ Some b
      → is_among a (people st) ≡ true → has_signed pairs (key_of s.hash (branch_label k (q ++ To i ∷ []) a)) d ≡ true → ⊥
  given_branch k st q here choice i b a d c e t p x =
      let r = (key_given (deposit_key s.hash party)
      (given_digest s w party (unsigned_gift s w inputs outputs)) inputs (key_of s.hash (branch_label k (q ++ To i ∷ []) a)) d x).0 in
      let z = same_label s size few_contracts g w kept check w.hashed clear (λ u h. h) (labels.Deposit party)
      (branch_label k (q ++ To i ∷ []) a) (deposit_label s size few_contracts g w kept check w.hashed clear (λ u h. h) party declared)
      (heard_label s size few_contracts g w kept check w.hashed clear (λ u h. h) k st q here choice i b a c e t p) r in
      cc

  -- and only this party's key of deposits is
  pub given_deposit : (a d : List ℕ) → is_declared s a ≡ true → has_signed pairs (deposit_key s.hash a) d ≡ true → party ≡ a
  given_deposit a d decl x =
      let r = (key_given (deposit_key s.hash party) (given_digest s w party (unsigned_gift s w inputs outputs)) inputs (deposit_key s.hash a) d x).0 in
      let z = same_label s size few_contracts g w kept check w.hashed clear (λ u h. h)
      (labels.Deposit party) (labels.Deposit a) (deposit_label s size few_contracts g w kept check w.hashed clear (λ u h. h) party declared)
      (deposit_label s size few_contracts g w kept check w.hashed clear (λ u h. h) a decl) r in
      ap label_party z

  -- the unsigned transaction
  abbrev pub bare_gift : Tx
  bare_gift = unsigned_gift s w inputs outputs

  pub gift_bare : bare (gift s w party inputs outputs) ≡ bare bare_gift
  gift_bare = let e = signed_bare s w party bare_gift inputs in λ i. record { version = 2; inputs = e i; outputs = map (given_output s) outputs; lock = 0 }

  module _ (few : length outputs ≤ 262144) (row : NoneTrue (give_row s w party inputs outputs)) where
    pub given_place : (n : ℕ) → Is_in n inputs → IsPlace (outpoint_of (output_at w n))
    given_place n i =
        let g = is_given w inputs row.0 n i in
        subst (λ o. IsPlace (outpoint_of o)) (sym g.there) (kept.placed_fine n g.output g.there)

    pub unsigned_numbered : IsNumbered bare_gift
    unsigned_numbered =
        let v : value_out outputs ≤ max_money = below max_money (value_out outputs) row.1.1.1.0 in
        let b = short_bytes (map (given_output s) outputs) (given_outputs_short s size outputs) in
        let l = length_map (given_output s) outputs in
        record {
          version = omega arith;
          places = given_places w inputs given_place;
          sequences = given_sequences w inputs;
          outputs = given_outputs_fit s size outputs v;
          size = omega (arith, b, l, few);
          lock = omega arith;
        }
      where
        below : (a b : ℕ) → nat_lt a b ≡ false → b ≤ a
        below a b h = grind (arith, nat_tests, h)

    pub gift_numbered : IsNumbered (gift s w party inputs outputs)
    gift_numbered = bare_numbered (gift s w party inputs outputs) bare_gift gift_bare unsigned_numbered

    -- ---- it is accepted

    module _ (spent made : List ℕ) (said : verdict_in s next (gift s w party inputs outputs) ≡ verdicts.Accepted spent made)
        (apart : collision s.hash w.hashed (strings_of s next (gift s w party inputs outputs) ++ items_of (gift s w party inputs outputs)) ≡ None) where
      abbrev tx : Tx
      tx = gift s w party inputs outputs

      -- the messages after it
      abbrev pub hs : List (List ℕ)
      hs = noted_all w.hashed (strings_of s next tx ++ items_of tx)

      -- the world with its signatures, and what its transaction hashes
      abbrev pub heard : World
      heard = record next { hashed = hs }

      pub is : IsAccepted s heard tx spent
      is = accepted_by s heard tx spent made said

      pub all : HeardAll s heard hs tx
      all = record { heard = λ t h. all_new w.hashed (strings_of s next tx ++ items_of tx) t (among_left t (strings_of s next tx) (items_of tx) h) }

      pub lists : HeardLists s.hash hs bare_gift
      lists = bare_lists s.hash hs tx bare_gift gift_bare (heard_lists s.hash hs tx (heard_shared s heard hs tx all))

      -- each input spends what it names
      pub spends_given : (n : ℕ) → Is_in n inputs → (has_number n spent ≡ true) × IsSpent s heard tx n (signed_input s w party bare_gift n)
      spends_given n i =
          let r = spent_at s heard tx spent tx.inputs
          (signed_input s w party bare_gift n) (accepting s heard tx spent is).spends (signed_in s w party bare_gift inputs n i) in
          let g = is_given w inputs row.0 n i in
          let m = kept.apart n r.0 g.output r.2.output g.there r.2.there (sym (ap outpoint_of g.there) ∙ r.2.outpoint) in
          subst (λ k. (has_number k spent ≡ true) × IsSpent s heard tx k (signed_input s w party bare_gift n)) (sym m) (r.1, r.2)

      spent_list : (ns ms : List ℕ) → AllSpent s heard tx ns (map (signed_input s w party bare_gift) ms) → ((m : ℕ) → Is_in m ms → Is_in m inputs) → ns ≡ ms
      spent_list [] [] h k = refl
      spent_list [] (m ∷ ms) h k = absurd h
      spent_list (n ∷ ns) [] h k = absurd h
      spent_list (n ∷ ns) (m ∷ ms) h k =
          let g = is_given w inputs row.0 m (k m (inl refl)) in
          let e = kept.apart n m h.0.output g.output h.0.there g.there (sym h.0.outpoint ∙ ap outpoint_of g.there) in
          let r = spent_list ns ms h.1 (λ x i. k x (inr i)) in
          λ j. e j ∷ r j

      -- and nothing else is spent
      pub spent_is : spent ≡ inputs
      spent_is = spent_list spent inputs (accepting s heard tx spent is).spends (λ m i. i)

      -- what the input of a deposit signs
      pub digest_heard : (n : ℕ) → Is_in n inputs → HeardDigest s hs bare_gift (given_input w n) (party_script s.hash party) (deposit_value (output_at w n))
      digest_heard n i =
          let here = signed_in s w party bare_gift inputs n i in
          let sp = (spends_given n i).1 in
          let g = is_given w inputs row.0 n i in
          let e : (let x : Option Output = Some g.output in x) ≡ Some sp.output = sym g.there ∙ sp.there in
          let f : g.output ≡ sp.output = cc in
          let v : deposit_value (output_at w n) ≡ sp.output.value = ap deposit_value g.there ∙ rw g.deposit refl ∙ ap (λ (x : Output). x.value) f in
          let hi = heard_input s heard hs tx all (signed_input s w party bare_gift n) n
          (λ t k. all_strings_of s heard tx (signed_input s w party bare_gift n) t here k) sp in
          let q : preimage s.hash tx (signed_input s w party bare_gift n) (party_script s.hash party) sp.output.value
          ≡ preimage s.hash bare_gift (given_input w n) (party_script s.hash party) (deposit_value (output_at w n)) =
          same_preimage s.hash tx bare_gift (signed_input s w party bare_gift n) (given_input w n) (party_script s.hash party) sp.output.value gift_bare refl
          ∙ ap (preimage s.hash bare_gift (given_input w n) (party_script s.hash party)) (sym v) in
          record {
            first = subst (λ t. is_among t hs ≡ true) q hi.signed;
            second = subst (λ t. is_among (s.hash t) hs ≡ true) q hi.signed_hash;
          }

      unfoldable pub given_cause : (d : List ℕ) → has_signed pairs (deposit_key s.hash party) d ≡ true → Gave s heard party d
      given_cause d x =
          let r = key_given (deposit_key s.hash party) (given_digest s w party bare_gift) inputs (deposit_key s.hash party) d x in
          let n = r.1.0 in
          record {
            tx = bare_gift;
            input = given_input w n;
            value = deposit_value (output_at w n);
            fits = unsigned_numbered;
            lists = lists;
            prev = given_place n r.1.1;
            is = sym r.1.2;
            heard = digest_heard n r.1.1;
            some = (given_input w n, given_in w inputs n r.1.1);
            final = given_final w inputs;
          }

      -- its inputs are spent after it
      pub given_dead : AllDead (applied w (accepted s next tx spent)) bare_gift.inputs
      given_dead = each_dead inputs (λ n i. i)
        where
          news : List Output
          news = made_from (new_position s (kind_of s next tx spent)) (txid s.hash tx) 0 tx.outputs

          each_dead : (ns : List ℕ) → ((n : ℕ) → Is_in n ns → Is_in n inputs) → AllDead (applied w (accepted s next tx spent)) (map (given_input w) ns)
          each_dead [] h = tt
          each_dead (n ∷ ns) h =
              let g = is_given w inputs row.0 n (h n (inl refl)) in
              let z : n + 0 ≡ n = omega arith in
              let t : has_number (n + 0) spent ≡ true = ap (λ k. has_number k spent) z ∙ (spends_given n (h n (inl refl))).0 in
              let there : slice_get (spend_from 0 spent w.outputs) n ≡ Some (record g.output { live = false }) =
              get-spent 0 n spent w.outputs ∙ rw (g.there, t) refl in (
                record {
                  number = n;
                  output = record g.output { live = false };
                  there = get-prefix (spend_from 0 spent w.outputs) news n
                      (record g.output { live = false }) there;
                  outpoint = sym (ap outpoint_of g.there);
                  dead = refl;
                },
                each_dead ns (λ m i. h m (inr i)),
              )

      -- before the ledger has it
      pub signed_kept : KeptBook s g heard
      signed_kept = pairs_kept s size few_contracts g w kept check hs
          (no_collision s.hash w.hashed (strings_of s next tx ++ items_of tx) clear apart)
          (λ t h. all_more w.hashed (strings_of s next tx ++ items_of tx) t h) g w.tip w.posted (λ k x h. h) (λ n i a h. h) pairs
          (λ a d decl honest x. let e = given_deposit a d decl x in
          gave (subst (λ p. Gave s heard p d) e (given_cause d (subst (λ p. has_signed pairs (deposit_key s.hash p) d ≡ true) (sym e) x))))
          (λ k st q here choice i b a d c e t p honest x. absurd (given_branch k st q here choice i b a d c e t p x))

      pub accepted_kept : (g' : Configuration)
          → ((k : ℕ) (x : List ℕ) → is_init_authorised g.init_authorised k x ≡ true → is_init_authorised g'.init_authorised k x ≡ true)
          → ((n i : ℕ) (a : List ℕ) → has_branch_authorised g.branch_authorised n i a ≡ true
          → has_branch_authorised g'.branch_authorised n i a ≡ true) → KeptBook s g' (applied w (accepted s next tx spent))
      accepted_kept g' inits asked =
          joined_kept s size few_contracts g g' heard signed_kept (record { initial = fit.initial; branch = fit.branch })
          (record { checked = check.checked; committed = check.committed }) inits asked tx gift_numbered spent is
          w.hashed (w.posted ++ items_of tx) clear apart (λ t h. h)

  -- a party's gift
  pub gift_after : (e : Event) → length outputs ≤ 262144 → KeptAfter s size few_contracts strings g w kept check clear e (give_pending s w party inputs outputs)
  gift_after e few = unless_after s size few_contracts strings g w kept check clear e (first_reason (give_row s w party inputs outputs)) []
      (reaches s w next (gift s w party inputs outputs))
      (λ r. by_verdict (no_reason-none_true (give_row s w party inputs outputs) r) (verdict_in s next (gift s w party inputs outputs)) refl)
    where
      by_verdict : NoneTrue (give_row s w party inputs outputs) → (v : Verdict) → verdict_in s next (gift s w party inputs outputs) ≡ v
          → KeptAfter s size few_contracts strings g w kept check clear e (judged s w next (gift s w party inputs outputs) v)
      by_verdict row (verdicts.Refused r) h =
          refused_after s size few_contracts strings g w kept check clear e (strings_of s next (gift s w party inputs outputs)) (reason.Ledger r)
      by_verdict row (verdicts.Accepted spent made) h = λ apart.
          let xs = steps_of s strings g w (applied w (accepted s next (gift s w party inputs outputs) spent)) e
          (accepted s next (gift s w party inputs outputs) spent) in
          accepted_kept few row spent made h apart (after_steps g xs) (inits_stay xs g) (asked_stay xs g)
