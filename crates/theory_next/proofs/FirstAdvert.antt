-- A contract is advertised with the deposits of its own header.
use Rattle.std.proofs.Common.{◌≡◌, ℕ, ◌+◌, ◌<◌, List, [], ◌∷◌, ◌++◌, map, length, true, false, not, Some, None, refl, sym, ap, ◌∙◌, arith, inl, inr, append_assoc, length-append}
use Rattle.std.specs.Prelude.{◌&&◌, is_some, is_none, slice_get}
use Rattle.std.specs.List.{list_any, list_all}
use Rattle.std.proofs.lemmas.Bool.{and_from, or_left, or_from, eq-eqb}
use Rattle.std.proofs.lemmas.Bool.Decides.{nat_tests}
use Rattle.spec_data.specs.Lists.{is_among, has_number, look_up, first_reason}
use Rattle.spec_terms.specs.Advert.{Advert}
use Rattle.spec_terms.specs.Parties.{participants}
use Rattle.spec_terms.specs.Precondition.{Holding, deposits, names_of}
use Rattle.spec_bitcoin.specs.declared.tx.TxOut.{TxOut}
use Rattle.spec_bitcoin.specs.Digests.{txid, opening_transaction}
use Rattle.spec_calculus.specs.declared.step.Owner.TheVariants.{Party}
use Rattle.spec_run.specs.declared.event.Event.TheVariants as events
use Rattle.spec_run.specs.Setup.{Setup, is_declared, is_honest, people_at, people_of, pre_at, pre_of}
use Rattle.spec_run.specs.World.{Output, World, output_at, is_deposit}
use Rattle.spec_run.specs.Pending.{done, applied, unless}
use Rattle.spec_run.specs.Owners.{paid_to, owner_by, suits}
use Rattle.spec_run.specs.Advertising.{are_rearranged, arranged, repeated, not_live, unsuited, deposit_names, advertise_row}
use Rattle.spec_run.specs.Ledger.{made_from}
use Rattle.spec_run.specs.Conditions.{IsSetup}
use Rattle.spec_run.specs.Event.{pending, holds_nothing, opening_outputs, opening_world, opening_collision}
use Rattle.spec_run.specs.Translation.{opening_configuration}
use Rattle.spec_next.specs.FirstLines.{owned, bound_from}
use Rattle.theory_calculus.specs.Members.{Is_in}
use Rattle.theory_calculus.proofs.Names.{bytes_refl, different_names, deposits_different, in_looked}
use Rattle.theory_world.proofs.Hashed.{among_head, among_tail}
use Rattle.theory_world.proofs.Contracts.Mentions.{a_person}
use Rattle.theory_world.proofs.Later.{get-made}
use Rattle.theory_world.proofs.Ledger.Acceptable.{none_reason}
use Rattle.theory_run.proofs.Facts.Opening.{clear, opening_book}
use Rattle.theory_run.proofs.Facts.Owned.{owner_paid}
use Rattle.theory_next.proofs.FirstNeeds.{owner_takes_part}
use Rattle.theory_next.proofs.FirstRun.{from_among}
use Rattle.theory_next.proofs.FirstStage.{IsFirst, has_first}
use Rattle.theory_next.proofs.FirstCommits.{Committing}

-- ---- bindings in order

names_bound : (n : ℕ) (names : List (List ℕ)) → names_of (bound_from n names) ≡ names
names_bound n [] = refl
names_bound n (name ∷ names) = ap (λ xs. name ∷ xs) (names_bound (n + 1) names)

-- whether all of these numbers are below n
abbrev AllBelow : ℕ → List ℕ → Type 0
AllBelow n [] = Unit {0}
AllBelow n (m ∷ ms) = (m < n) × AllBelow n ms

not_below : (n : ℕ) (seen : List ℕ) → AllBelow n seen → has_number n seen ≡ false
not_below n [] h = refl
not_below n (m ∷ seen) h = let less = h.0 in or_from _ _ (grind (arith, nat_tests, less)) (not_below n seen h.1)

below_more : (n : ℕ) (seen : List ℕ) → AllBelow n seen → AllBelow (n + 1) (seen ++ n ∷ [])
below_more n [] h = (omega arith, tt)
below_more n (m ∷ seen) h = let less = h.0 in (omega (arith, less), below_more n seen h.1)

never_repeated : (n : ℕ) (names : List (List ℕ)) (seen : List ℕ) → AllBelow n seen → repeated seen (bound_from n names) ≡ None
never_repeated n [] seen h = refl
never_repeated n (name ∷ names) seen h = rw (not_below n seen h) (never_repeated (n + 1) names (seen ++ n ∷ []) (below_more n seen h))

same_names : (names : List (List ℕ)) → list_all (λ n. is_among n names) names ≡ true
same_names names = within names (λ n i. i)
  where
    within : (ns : List (List ℕ)) → ((n : List ℕ) → is_among n ns ≡ true → is_among n names ≡ true)
        → list_all (λ n. is_among n names) ns ≡ true
    within [] h = refl
    within (n ∷ ns) h = and_from _ _ (h n (among_head n ns)) (within ns (λ m i. h m (among_tail m n ns i)))

-- ---- the deposits of the header

-- the output of this number is this deposit, live
record IsDepositAt (s : Setup) (w : World) (n : ℕ) (d : List ℕ × Holding) : Type 0 where
  output : Output
  there : slice_get w.outputs n ≡ Some output
  live : output.live ≡ true
  free : output.holds ≡ None
  value : output.value ≡ (d.1).value
  script : output.script ≡ paid_to s (d.1).owner

-- these deposits are the outputs from number n on
abbrev AreDepositsAt : Setup → World → ℕ → List (List ℕ × Holding) → Type 0
AreDepositsAt s w n [] = Unit {0}
AreDepositsAt s w n (d ∷ ds) = IsDepositAt s w n d × AreDepositsAt s w (n + 1) ds

abbrev outputs_of : Setup → List (List ℕ × Holding) → List TxOut
outputs_of s ds = map {B = TxOut} (λ (d : List ℕ × ℕ). record { value = d.1; script = paid_to s (d.0) }) (owned ds)

get_behind : (xs ys : List Output) (y : Output) → slice_get (xs ++ y ∷ ys) (length xs) ≡ Some y
get_behind [] ys y = refl
get_behind (x ∷ xs) ys y = get_behind xs ys y

made_in_order : (s : Setup) (w : World) (id : List ℕ) (ds : List (List ℕ × Holding)) (before : List Output) (n k : ℕ) → n ≡ length before
    → w.outputs ≡ before ++ made_from holds_nothing id k (outputs_of s ds) → AreDepositsAt s w n ds
made_in_order s w id [] before n k e all = tt
made_in_order s w id (d ∷ ds) before n k e all =
    let o : Output = record {
      outpoint = record { txid = id; vout = k };
      value = (d.1).value;
      script = paid_to s (d.1).owner;
      live = true;
      holds = None;
    } in
    let rest = made_from holds_nothing id (k + 1) (outputs_of s ds) in
    let there : slice_get w.outputs n ≡ Some o =
    ap (λ os. slice_get os n) all ∙ ap (slice_get (before ++ o ∷ rest)) e ∙ get_behind before rest o in
    let longer = length-append before (o ∷ []) in (
      record { output = o; there = there; live = refl; free = refl; value = refl; script = refl },
      made_in_order s w id ds (before ++ o ∷ []) (n + 1) (k + 1) (omega (arith, e, longer)) (all ∙ sym (append_assoc before (o ∷ []) rest)),
    )

module _ (s : Setup) (advert : Advert) (first : IsFirst s advert) (w : World)
    (owner_is : (p : List ℕ) → is_declared s p ≡ true → owner_by s (paid_to s p) ≡ Party p) where
  is_live : (n : ℕ) (d : List ℕ × Holding) → IsDepositAt s w n d → is_deposit (output_at w n) ≡ true
  is_live n d at = ap is_deposit at.there ∙ (λ i. at.live i && is_none (at.free i))

  all_are_live : (n : ℕ) (ds : List (List ℕ × Holding)) → AreDepositsAt s w n ds → not_live w (bound_from n (names_of ds)) ≡ None
  all_are_live n [] h = refl
  all_are_live n (d ∷ ds) h = rw (is_live n d h.0) (all_are_live (n + 1) ds h.1)

  one_suits : (n : ℕ) (d : List ℕ × Holding) → IsDepositAt s w n d → is_declared s (d.1).owner ≡ true
      → look_up (d.0) (deposits (pre_at s 0)) ≡ Some (d.1) → suits s (look_up (d.0) (deposits (pre_at s 0))) (output_at w n) ≡ true
  one_suits n d at declared looked =
      (λ i. suits s (looked i) (at.there i)) ∙ by_output at.output at.live at.free at.value at.script
    where
      by_output : (o : Output) → o.live ≡ true → o.holds ≡ None → o.value ≡ (d.1).value → o.script ≡ paid_to s (d.1).owner
          → suits s (Some (d.1)) (Some o) ≡ true
      by_output o live free value script =
          let deposit : is_deposit (Some o) ≡ true = (λ i. live i && is_none (free i)) in
          let owner : owner_by s o.script ≡ Party (d.1).owner = ap (owner_by s) script ∙ owner_is (d.1).owner declared in
          rw (deposit, owner) (and_from _ _ (bytes_refl (d.1).owner) (eq-eqb o.value (d.1).value value))

  all_suit : (n : ℕ) (ds : List (List ℕ × Holding)) → AreDepositsAt s w n ds
      → ((d : List ℕ × Holding) → Is_in d ds → is_declared s (d.1).owner ≡ true)
      → ((d : List ℕ × Holding) → Is_in d ds → look_up (d.0) (deposits (pre_at s 0)) ≡ Some (d.1))
      → unsuited s w 0 (bound_from n (names_of ds)) ≡ None
  all_suit n [] h declared looked = refl
  all_suit n (d ∷ ds) h declared looked =
      rw (one_suits n d h.0 (declared d (inl refl)) (looked d (inl refl)))
      (all_suit (n + 1) ds h.1 (λ x i. declared x (inr i)) (λ x i. looked x (inr i)))

-- ---- the event

-- someone takes part, and so an honest party does
some_honest : (s : Setup) (people : List (List ℕ)) (a : List ℕ) → is_among a people ≡ true
    → ((p : List ℕ) → is_among p people ≡ true → is_honest s p ≡ true) → list_any (is_honest s) people ≡ true
some_honest s [] a h honest = cc
some_honest s (p ∷ people) a h honest = or_left _ _ (honest p (among_head p people))

module _ (s : Setup) (advert : Advert) (first : IsFirst s advert) (setup : IsSetup s) (opens : opening_collision s ≡ None)
    (given : s.header.deposits ≡ owned (deposits advert.pre)) where
  abbrev w : World
  w = opening_world s

  abbrev ds : List (List ℕ × Holding)
  ds = deposits advert.pre

  abbrev bindings : List (List ℕ × ℕ)
  bindings = bound_from 0 (names_of ds)

  abbrev id : List ℕ
  id = txid s.hash (opening_transaction (opening_outputs s))

  owner_is : (p : List ℕ) → is_declared s p ≡ true → owner_by s (paid_to s p) ≡ Party p
  owner_is = owner_paid s (opening_configuration s) w (opening_book s setup opens) w.hashed (clear s setup opens) (λ t h. h)

  deposits_at : AreDepositsAt s w 0 ds
  deposits_at =
      made_in_order s w id ds [] 0 0 refl
      (ap (λ xs. made_from holds_nothing id 0 (map {B = TxOut} (λ (d : List ℕ × ℕ). record { value = d.1; script = paid_to s (d.0) }) xs)) given)

  abbrev pub advertised_world : World
  advertised_world = record w {
    advertised = w.advertised ++ record { contract = 0; bindings = arranged 0 (deposit_names s 0) bindings } ∷ [];
  }

  pub advertises : pending s w (events.Advertise 0 bindings) ≡ done advertised_world []
  advertises =
      let pre : pre_at s 0 ≡ advert.pre = ap pre_of first.there in
      let names : deposit_names s 0 ≡ names_of ds = ap (λ p. names_of (deposits p)) pre in
      let apart = deposits_different advert.pre (different_names advert first.well) in
      let rearranged : are_rearranged (names_of bindings) (deposit_names s 0) ≡ true =
      (λ i. are_rearranged (names_bound 0 (names_of ds) i) (names i))
      ∙ and_from _ _ (and_from _ _ apart (same_names (names_of ds))) (same_names (names_of ds)) in
      let declared : (d : List ℕ × Holding) → Is_in d ds → is_declared s (d.1).owner ≡ true =
      λ d i. first.declared (d.1).owner (owner_takes_part advert d i) in
      let looked : (d : List ℕ × Holding) → Is_in d ds → look_up (d.0) (deposits (pre_at s 0)) ≡ Some (d.1) =
      λ d i. ap (λ p. look_up (d.0) (deposits p)) pre ∙ in_looked ds d apart i in
      let one = a_person advert first.well in
      let honest : list_any (is_honest s) (people_at s 0) ≡ true =
      ap (λ o. list_any (is_honest s) (people_of o)) first.there ∙ some_honest s (participants advert) one.0 one.1 first.honest in
      let row : first_reason (advertise_row s w 0 bindings) ≡ None =
      none_reason (advertise_row s w 0 bindings) (
        ap not (has_first s advert first),
        (
          refl,
          (
            ap not rearranged,
            (
              ap is_some (never_repeated 0 (names_of ds) [] tt),
              (
                ap is_some (all_are_live s advert first w owner_is 0 ds deposits_at),
                (ap is_some (all_suit s advert first w owner_is 0 ds deposits_at declared looked), (ap not honest, tt)),
              ),
            ),
          ),
        ),
      ) in
      ap (λ r. unless r w [] (done advertised_world [])) row

  -- nobody has committed then
  pub none_committed : Committing s advert (participants advert) (applied w (done advertised_world []))
  none_committed = record {
    told = refl;
    live = record { live = λ n o h. let r = get-made holds_nothing id 0 n (opening_outputs s) o h in ap (λ (x : Output). x.live) r.2 };
    ahead = λ p i. refl;
    promised = λ p h. inl (from_among p (participants advert) h);
    used = λ d h. cc;
  }
