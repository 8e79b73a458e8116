-- An offered beginning has an initial transaction that is accepted.
use Rattle.std.proofs.Common.{◌≡◌, ℕ, ◌+◌, List, [], ◌∷◌, length, map, Bool, true, false, Option, Some, None, refl, sym, ap, ◌∙◌, subst, arith, inl, inr}
use Rattle.std.specs.Prelude.{◌==◌, ◌&&◌, slice_get, is_some}
use Rattle.std.specs.List.{list_all}
use Rattle.std.specs.Str.{bytes_eq}
use Rattle.std.proofs.lemmas.Bool.{and_parts}
use Rattle.std.proofs.lemmas.List.Sums.{sum_by-cons}
use Rattle.spec_data.specs.Lists.{look_up, AllTrue}
use Rattle.spec_terms.specs.Advert.{Advert}
use Rattle.spec_terms.specs.Parties.{participants}
use Rattle.spec_terms.specs.Precondition.{Holding, persistent, names_of, total_of}
use Rattle.spec_terms.specs.Faults.{IsWellFormed}
use Rattle.spec_bitcoin.specs.declared.tx.TxOut.{TxOut}
use Rattle.spec_bitcoin.specs.declared.verdict.Verdict.TheVariants as verdicts
use Rattle.spec_bitcoin.specs.Verdict as bitcoin
use Rattle.spec_calculus.specs.declared.step.Step.TheVariants as steps
use Rattle.spec_calculus.specs.Configuration.{Configuration}
use Rattle.spec_calculus.specs.Moves.{deposit_at}
use Rattle.spec_calculus.specs.Beginning as calculus
use Rattle.spec_calculus.specs.Beginning.{is_there, bindings_of, is_init_authorised, has_committed, have_committed}
use Rattle.spec_calculus.specs.Steps.{fails, init_premises}
use Rattle.spec_compiler.specs.Instance.{Instance, position_script}
use Rattle.spec_compiler.specs.Transactions.{tx_of, prepared, pays, deposit, root_value, initial_unsigned}
use Rattle.spec_run.specs.Setup.{Setup, contract_at}
use Rattle.spec_run.specs.World.{Output, World, is_deposit, bindings_at, has_promised, have_promised}
use Rattle.spec_run.specs.Compiled.{compiled_instance, instance_of}
use Rattle.spec_run.specs.Conditions.{IsSetup}
use Rattle.spec_run.specs.Agreement.{Agree}
use Rattle.spec_run.specs.Firing.{initial_witnesses, initial_transaction}
use Rattle.spec_run.specs.Ledger.{verdict_in}
use Rattle.spec_run.specs.Steps.{names_deposit, is_bound_live}
use Rattle.theory_calculus.proofs.Names.{all_among, different_names, persistent_deposit, persistent_different}
use Rattle.theory_calculus.specs.Members.{Is_in}
use Rattle.theory_calculus.proofs.Members.{in_some, no_false}
use Rattle.theory_world.proofs.Tests.{any_map, length_map, all_alike}
use Rattle.theory_world.proofs.Ledger.Outputs.{deposit-at, deposit_of}
use Rattle.theory_run.specs.KeptSecrets.{KeptSecrets, committed_by}
use Rattle.theory_world.proofs.Later.{compiled_from}
use Rattle.theory_world.proofs.Contracts.Mentions.{has_deposit, a_person}
use Rattle.theory_run.specs.KeptBook.{KeptBook}
use Rattle.theory_world.proofs.Ledger.Acceptable.{Asked, accepts, worth}
use Rattle.theory_world.proofs.Contracts.Checking.{all_checked}
use Rattle.theory_offers.proofs.Basis.Offered.{KeptOffers, number_of, ready_all, numbers_apart}
use Rattle.theory_run.proofs.Steps.Beginnings.{bindings_same}

all_named : {V : Type 0} (f : List ℕ → Bool) (ds : List (List ℕ × V)) (d : List ℕ × V) → list_all f (names_of ds) ≡ true → Is_in d ds → f (d.0) ≡ true
all_named f [] d h i = absurd i
all_named {V} f (e ∷ ds) d h (inl q) = subst (λ (x : List ℕ × V). f (x.0) ≡ true) (sym q) (and_parts (f (e.0)) (list_all f (names_of ds)) h).0
all_named f (e ∷ ds) d h (inr q) = all_named f ds d (and_parts (f (e.0)) (list_all f (names_of ds)) h).1 q

-- ---- names

total_worth : (hash : List ℕ → List ℕ) (st : Instance) (ds : List (List ℕ × Holding)) → worth (map (λ d. deposit hash st (d.0) (d.1)) ds) ≡ total_of ds
total_worth hash st [] = refl
total_worth hash st (d ∷ ds) = ap (λ n. (d.1).value + n) (total_worth hash st ds)

pub one_total : (o : TxOut) → bitcoin.total_of (o ∷ []) ≡ o.value + 0
one_total o = sum_by-cons (λ (x : TxOut). x.value) o []

-- ---- a contract that may begin

module _ (s : Setup) (setup : IsSetup s) (z : List (List ℕ))
    (g : Configuration) (w : World) (agree : Agree s g w) (kept : KeptBook s g w) (secrets : KeptSecrets s z g w) (more : KeptOffers s g w) where
  pub committed_is : (k : ℕ) (a : List ℕ) → has_committed g.committed k a ≡ has_promised w k a
  committed_is k a = ap (λ cs. has_committed cs k a) secrets.lengths ∙ any_map (λ c. (c.contract == k) && bytes_eq c.party a) (committed_by s z) w.promises

  pub there_is : (r : Option ℕ) → is_there g.deposits r ≡ names_deposit w r
  there_is None = refl
  there_is (Some n) = ap (λ ds. is_some (deposit_at ds n)) agree.deposits ∙ ap is_some (deposit-at s n w.outputs) ∙ by_output (slice_get w.outputs n)
    where
      by_test : (o : Output) (b : Bool) → is_deposit (Some o) ≡ b → is_some (deposit_of s n (Some o)) ≡ b
      by_test o true e = rw e refl
      by_test o false e = rw e refl

      by_output : (o : Option Output) → is_some (deposit_of s n o) ≡ is_deposit o
      by_output None = refl
      by_output (Some o) = by_test o (is_deposit (Some o)) refl

  pub record MayBegin (k : ℕ) : Type 0 where
    pub advert : Advert
    pub there : contract_at s k ≡ Some advert
    pub well : IsWellFormed advert
    pub compiled : compiled_instance s w k ≡ Some (instance_of w k advert)
    pub live : (d : List ℕ × Holding) → Is_in d (persistent advert.pre) → is_bound_live w k d ≡ true
    pub authorised : (d : List ℕ × Holding) → Is_in d (persistent advert.pre) → is_init_authorised g.init_authorised k (d.0) ≡ true

  pub may_begin : (k : ℕ) → fails g (steps.Init k) ≡ 0 → MayBegin k
  may_begin k h = by_advert (contract_at s k) refl
      (subst (λ cs. AllTrue (init_premises g k (calculus.contract_at cs k))) more.constant.contracts
      (no_false 1 (init_premises g k (calculus.contract_at g.contracts k)) (omega arith) h))
    where
      by_advert : (o : Option Advert) → contract_at s k ≡ o → AllTrue (init_premises g k o) → MayBegin k
      by_advert None e t = let f = t.0 in cc
      by_advert (Some a) e t =
          let c = and_parts true (have_committed g.committed k (participants a)) t.0 in
          let p : have_promised w k (participants a) ≡ true =
          sym (all_alike (has_committed g.committed k) (has_promised w k) (participants a) (committed_is k)) ∙ c.1 in
          let well = all_checked s.contracts k a setup.contracts e in
          let one = a_person a well in
          let adv = more.told k one.0 (all_among (has_promised w k) (participants a) one.0 p one.1) in
          let same : bindings_of g.advertised k ≡ bindings_at w.advertised k = bindings_same g.advertised k ∙ ap (λ xs. bindings_at xs k) agree.advertised in
          record {
            advert = a;
            there = e;
            well = well;
            compiled = compiled_from s w k a e adv p;
            live = λ d i. sym (there_is (look_up (d.0) (bindings_at w.advertised k)))
                ∙ subst (λ bs. is_there g.deposits (look_up (d.0) bs) ≡ true) same
                (all_named (λ x. is_there g.deposits (look_up x (bindings_of g.advertised k))) (persistent a.pre) d t.1.0 i);
            authorised = λ d i. all_named (λ x. is_init_authorised g.init_authorised k x) (persistent a.pre) d t.1.1.0 i;
          }

  module _ (k : ℕ) (may : MayBegin k) where
    abbrev pub numbers : List ℕ
    numbers = map (λ (d : List ℕ × Holding). number_of w k (d.0)) (persistent may.advert.pre)

    pub start_asked : Asked s w setup.hash.size kept.apart (initial_unsigned s.hash (instance_of w k may.advert))
        (initial_witnesses s (instance_of w k may.advert) (prepared s.hash (initial_unsigned s.hash (instance_of w k may.advert)))) numbers
    start_asked =
        let one = a_person may.advert may.well in
        let dep = has_deposit may.advert one.0 may.well one.1 in
        let ds = persistent may.advert.pre in
        let fresh = total_worth s.hash (instance_of w k may.advert) ds in
        let total =
        one_total (pays s.hash (position_script s.hash (instance_of w k may.advert) [] may.advert.root) (root_value (instance_of w k may.advert))) in
        let some = in_some (dep.name, dep.holding) ds dep.there in
        let len = length_map (λ (d : List ℕ × Holding). deposit s.hash (instance_of w k may.advert) (d.0) (d.1)) ds in
        record {
          ready = ready_all s setup.hash.size g w kept k (instance_of w k may.advert) may.compiled
              (tx_of (initial_unsigned s.hash (instance_of w k may.advert))) (λ d. d) ds
              (λ d i. record {
                known = persistent_deposit may.advert.pre d i;
                live = may.live d i;
                signed = more.inits k
                    (instance_of w k may.advert) d may.compiled i (may.authorised d i) (may.live d i);
              });
          distinct = numbers_apart s setup.hash.size g w kept k (instance_of w k may.advert) may.compiled (λ d. d) ds
              (λ d i. persistent_deposit may.advert.pre d i) (persistent_different may.advert.pre (different_names may.advert may.well));
          some = omega (arith, some, len);
          makes = omega arith;
          enough = omega (arith, fresh, total);
          money = more.money;
          reached = omega arith;
          height = more.height;
        }

    pub start_accepts : verdict_in s w (initial_transaction s (instance_of w k may.advert))
        ≡ verdicts.Accepted numbers (bitcoin.numbers_from (length w.outputs) (initial_unsigned s.hash (instance_of w k may.advert)).outputs)
    start_accepts = accepts s w setup.hash.size kept.apart (initial_unsigned s.hash (instance_of w k may.advert))
        (initial_witnesses s (instance_of w k may.advert) (prepared s.hash (initial_unsigned s.hash (instance_of w k may.advert)))) numbers start_asked
