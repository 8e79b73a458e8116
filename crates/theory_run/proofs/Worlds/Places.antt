-- An output holds a position of a contract exactly where it lies at the place that the position is compiled to.
use Rattle.std.proofs.Common.{◌≡◌, ℕ, zero, suc, List, [], ◌∷◌, Bool, true, false, Option, Some, None, refl, sym, ap, ◌∙◌, subst}
use Rattle.std.specs.Prelude.{◌==◌, slice_get, option_map}
use Rattle.std.specs.List.{list_any}
use Rattle.std.proofs.lemmas.Bool.{and_parts, and_from, or_from, eq-eqb, eqb-true, both_ways, false_from_ne_true}
use Rattle.spec_terms.specs.Term.{Contract}
use Rattle.spec_terms.specs.Paths.{path_eq}
use Rattle.spec_terms.specs.PathSameness.{path_eq-Decides}
use Rattle.spec_terms.specs.declared.path.PathStep.{PathStep}
use Rattle.spec_bitcoin.specs.Live.{same_outpoint}
use Rattle.spec_calculus.specs.Configuration.{Configuration}
use Rattle.spec_compiler.specs.Instance.{Instance}
use Rattle.spec_compiler.specs.Transactions.{Standing, pays}
use Rattle.spec_compiler.specs.ByPath.{position_at}
use Rattle.spec_run.specs.Setup.{Setup}
use Rattle.spec_run.specs.World.{ContractPosition, Output, World, output_at}
use Rattle.spec_run.specs.Compiled.{compiled_instance}
use Rattle.spec_run.specs.Ledger.{tx_out}
use Rattle.spec_run.specs.Agreement.{is_outpoint, compiled_outpoint}
use Rattle.theory_run.specs.WorldsOfRuns.{is_position_of, is_of_contract, compiled_output, HasPlaces}
use Rattle.theory_script.proofs.Listing.Transactions.{path_same}
use Rattle.theory_world.proofs.Same.{place-true, place_refl}
use Rattle.theory_run.specs.KeptBook.{KeptBook, HeldFine}

-- what is held where the test is true
held_is : (k : ℕ) (q : List PathStep) (o : Option ContractPosition) → is_position_of k q o ≡ true → o ≡ Some (record { contract = k; position = q })
held_is k q None h = cc
held_is k q (Some held) h =
    let p = and_parts (held.contract == k) (path_eq held.position q) h in
    let c : held.contract ≡ k = eqb-true held.contract k p.0 in
    let r : held.position ≡ q = (path_eq-Decides held.position q).0 p.1 in
    λ i. Some (record { contract = c i; position = r i })

is_held : (k : ℕ) (q : List PathStep) (o : Option ContractPosition) → o ≡ Some (record { contract = k; position = q }) → is_position_of k q o ≡ true
is_held k q o e = ap (is_position_of k q) e ∙ and_from _ _ (eq-eqb k k refl) (path_same q)

none_any : {X : Type 0} (f : X → Bool) (xs : List X) → ((n : ℕ) (x : X) → slice_get xs n ≡ Some x → f x ≡ false) → list_any f xs ≡ false
none_any f [] h = refl
none_any f (x ∷ xs) h = or_from _ _ (h zero x refl) (none_any f xs (λ n y e. h (suc n) y e))

module _ (s : Setup) (g : Configuration) (w : World) (kept : KeptBook s g w) where
  -- what an output that holds a position lies at
  fine : (k : ℕ) (q : List PathStep) (n : ℕ) (o : Output) → output_at w n ≡ Some o → is_position_of k q o.holds ≡ true
      → HeldFine s w o (record { contract = k; position = q })
  fine k q n o there h = kept.held n o (record { contract = k; position = q }) there (held_is k q o.holds h)

  -- an output of a contract that isn't compiled
  none_held : (k : ℕ) → compiled_instance s w k ≡ None → (n : ℕ) (o : Output) → output_at w n ≡ Some o → is_of_contract k o.holds ≡ false
  none_held k none n o there = by_held o.holds refl
    where
      by_held : (h : Option ContractPosition) → o.holds ≡ h → is_of_contract k h ≡ false
      by_held None e = refl
      by_held (Some held) e = false_from_ne_true _ (λ t.
          let hf = kept.held n o held there e in
          let c : compiled_instance s w k ≡ Some hf.instance =
          subst (λ j. compiled_instance s w j ≡ Some hf.instance) (eqb-true held.contract k t) hf.compiled in
          let z : (let x : Option Instance = None in x) ≡ Some hf.instance = sym none ∙ c in
          cc)

  held_there : (k : ℕ) (q : List PathStep) (n : ℕ) (o : Output) → output_at w n ≡ Some o
      → is_position_of k q o.holds ≡ is_outpoint o.outpoint (compiled_outpoint s (compiled_instance s w k) q)
  held_there k q n o there = by_compiled (compiled_instance s w k) refl
    where
      by_place : (st : Instance) (here : Standing) (choice : Contract) → compiled_instance s w k ≡ Some st
          → position_at s.hash st q ≡ Some (here, choice)
          → (b : Bool) → same_outpoint o.outpoint here.output.outpoint ≡ b → is_position_of k q o.holds ≡ b
      by_place st here choice c stands true e =
          is_held k q o.holds (kept.placed k st q here choice n o c stands there (place-true o.outpoint here.output.outpoint e))
      by_place st here choice c stands false e = false_from_ne_true _ (λ t.
          let hf = fine k q n o there t in
          let x : (let y : Option Instance = Some hf.instance in y) ≡ Some st = sym hf.compiled ∙ c in
          let same : hf.instance ≡ st = cc in
          let y : (let p : Option (Standing × Contract) = Some (hf.here, hf.choice) in p) ≡ Some (here, choice) =
          sym hf.stands ∙ ap (λ (z : Instance). position_at s.hash z q) same ∙ stands in
          let z : (let p : Standing × Contract = (hf.here, hf.choice) in p) ≡ (here, choice) = cc in
          let place = hf.outpoint ∙ ap (λ (p : Standing × Contract). p.0.output.outpoint) z in
          both_ways _ e (subst (λ r. same_outpoint o.outpoint r ≡ true) place (place_refl o.outpoint)))

      by_position : (st : Instance) → compiled_instance s w k ≡ Some st → (p : Option (Standing × Contract)) → position_at s.hash st q ≡ p
          → is_position_of k q o.holds ≡ is_outpoint o.outpoint (option_map (λ (x : Standing × Contract). x.0.output.outpoint) p)
      by_position st c None stands = false_from_ne_true _ (λ t.
          let hf = fine k q n o there t in
          let x : (let y : Option Instance = Some hf.instance in y) ≡ Some st = sym hf.compiled ∙ c in
          let same : hf.instance ≡ st = cc in
          let y : (let p : Option (Standing × Contract) = Some (hf.here, hf.choice) in p) ≡ None =
          sym hf.stands ∙ ap (λ (z : Instance). position_at s.hash z q) same ∙ stands in
          cc)
      by_position st c (Some p) stands = by_place st (p.0) (p.1) c stands (same_outpoint o.outpoint p.0.output.outpoint) refl

      by_compiled : (c : Option Instance) → compiled_instance s w k ≡ c → is_position_of k q o.holds ≡ is_outpoint o.outpoint (compiled_outpoint s c q)
      by_compiled None c = false_from_ne_true _ (λ t.
          let hf = fine k q n o there t in
          let x : (let y : Option Instance = Some hf.instance in y) ≡ None = sym hf.compiled ∙ c in
          cc)
      by_compiled (Some st) c = by_position st c (position_at s.hash st q) refl

  -- what holds a position is the output that the position is compiled to
  same_output : (k : ℕ) (q : List PathStep) (n : ℕ) (o : Output) → output_at w n ≡ Some o → is_position_of k q o.holds ≡ true
      → compiled_output s (compiled_instance s w k) q ≡ Some (tx_out o)
  same_output k q n o there h =
      let hf = fine k q n o there h in
      let v = sym hf.value in
      let c = sym hf.script in
      ap (λ c. compiled_output s c q) hf.compiled
      ∙ ap (option_map (λ (p : Standing × Contract). pays s.hash p.0.output.script p.0.output.value)) hf.stands
      ∙ (λ i. Some (record { value = v i; script = c i }))

  pub has_places : HasPlaces s w
  has_places = record {
    different = kept.apart;
    held = held_there;
    same = same_output;
    none = λ k c. none_any (λ (o : Output). is_of_contract k o.holds) w.outputs (none_held k c);
  }
