-- The contract of a commitment in the world with the commitment.
use Rattle.std.proofs.Common.{◌≡◌, ℕ, List, [], ◌∷◌, ◌++◌, map, Bool, true, false, Some, None, refl, sym, ap, ◌∙◌, append_assoc, append-nil}
use Rattle.std.specs.Prelude.{◌==◌, ◌||◌, ◌&&◌, is_some, if◌then◌else◌}
use Rattle.std.specs.List.{list_all, list_any}
use Rattle.std.specs.Str.{bytes_eq}
use Rattle.std.proofs.lemmas.Bool.{eq-eqb}
use Rattle.spec_data.specs.Lists.{look_up}
use Rattle.spec_terms.specs.Advert.{Advert}
use Rattle.spec_terms.specs.Parties.{participants}
use Rattle.spec_terms.specs.Precondition.{Holding}
use Rattle.spec_run.specs.Setup.{Setup, contract_at}
use Rattle.spec_run.specs.World.{Output, Promise, World, bindings_at, is_advertised, is_promise_of, have_promised, digests_at}
use Rattle.spec_run.specs.Compiled.{bound_outpoints, instance_of, instance_if_complete, compiled_instance}
use Rattle.bm_compile.specs.Numbered.{instance_with}
use Rattle.bm_world_commit.specs.Committed.{placed_at}
use Rattle.theory_world.proofs.Tests.{any-append}

-- ---- commitments, with one more

-- its digests come last
pub digests_last : (ps : List Promise) (p : Promise) → digests_at (ps ++ p ∷ []) p.contract ≡ digests_at ps p.contract ++ p.digests
digests_last [] p = let e = eq-eqb p.contract p.contract refl in rw e (append-nil p.digests)
digests_last (q ∷ ps) p = by_contract (q.contract == p.contract) (digests_last ps p)
  where
    by_contract : (b : Bool) → digests_at (ps ++ p ∷ []) p.contract ≡ digests_at ps p.contract ++ p.digests
        → (if b then q.digests ++ digests_at (ps ++ p ∷ []) p.contract else digests_at (ps ++ p ∷ []) p.contract)
        ≡ (if b then q.digests ++ digests_at ps p.contract else digests_at ps p.contract) ++ p.digests
    by_contract true ih = ap (λ l. q.digests ++ l) ih ∙ sym (append_assoc q.digests (digests_at ps p.contract) p.digests)
    by_contract false ih = ih

last_one : (b : Bool) → (b || false) ≡ b
last_one true = refl
last_one false = refl

-- who has committed then
pub promised_last : (ps : List Promise) (p : Promise) (party : List ℕ) → list_any (is_promise_of p.contract party) (ps ++ p ∷ [])
    ≡ (list_any (is_promise_of p.contract party) ps || bytes_eq p.party party)
promised_last ps p party =
    let e = eq-eqb p.contract p.contract refl in
    let one : list_any (is_promise_of p.contract party) (p ∷ []) ≡ bytes_eq p.party party =
    last_one (is_promise_of p.contract party p) ∙ ap (λ b. b && bytes_eq p.party party) e in
    any-append (is_promise_of p.contract party) ps (p ∷ []) ∙ ap (λ b. list_any (is_promise_of p.contract party) ps || b) one

-- ---- bindings

pub bound_each : (w : World) (bindings : List (List ℕ × ℕ)) → bound_outpoints w bindings ≡ map (placed_at w.outputs) bindings
bound_each w [] = refl
bound_each w (b ∷ bs) = ap (λ l. placed_at w.outputs b ∷ l) (bound_each w bs)

placed_found : (os : List Output) (name : List ℕ) (bindings : List (List ℕ × ℕ)) → is_some (look_up name (map (placed_at os) bindings))
    ≡ is_some (look_up name bindings)
placed_found os name [] = refl
placed_found os name (b ∷ bs) = by_test (bytes_eq (b.0) name) (placed_found os name bs)
  where
    by_test : (t : Bool) → is_some (look_up name (map (placed_at os) bs)) ≡ is_some (look_up name bs)
        → is_some (if t then Some ((placed_at os b).1) else look_up name (map (placed_at os) bs)) ≡ is_some (if t then Some (b.1) else look_up name bs)
    by_test true ih = refl
    by_test false ih = ih

pub all_placed : (os : List Output) (bindings : List (List ℕ × ℕ)) (ds : List (List ℕ × Holding))
    → list_all (λ d. is_some (look_up (d.0) (map (placed_at os) bindings))) ds ≡ list_all (λ d. is_some (look_up (d.0) bindings)) ds
all_placed os bindings [] = refl
all_placed os bindings (d ∷ ds) = λ i. placed_found os (d.0) bindings i && all_placed os bindings ds i

-- ---- what it is compiled with

module _ (s : Setup) (w : World) (k : ℕ) where
  pub none_there : contract_at s k ≡ None → compiled_instance s w k ≡ None
  none_there e = ap (instance_if_complete w k) e

  pub none_told : (a : Advert) → contract_at s k ≡ Some a → is_advertised w k ≡ false → compiled_instance s w k ≡ None
  none_told a e told = ap (instance_if_complete w k) e ∙ ap (λ b. if b && have_promised w k (participants a) then Some (instance_of w k a) else None) told

  both_tests : (b c : Bool) → c ≡ false → (b && c) ≡ false
  both_tests true c e = e
  both_tests false c e = refl

  pub none_complete : (a : Advert) → contract_at s k ≡ Some a → have_promised w k (participants a) ≡ false → compiled_instance s w k ≡ None
  none_complete a e more = ap (instance_if_complete w k) e ∙ ap (λ b. if b then Some (instance_of w k a) else None) (both_tests (is_advertised w k) _ more)

  pub instance_by : (a : Advert) (bindings : List (List ℕ × ℕ)) (hashes : List (List ℕ × List ℕ)) → bindings ≡ bindings_at w.advertised k
      → hashes ≡ digests_at w.promises k
      → instance_with k a (map (placed_at w.outputs) bindings) hashes ≡ instance_of w k a
  instance_by a bindings hashes eb eh =
      let places : map (placed_at w.outputs) bindings ≡ bound_outpoints w (bindings_at w.advertised k) =
      ap (map (placed_at w.outputs)) eb ∙ sym (bound_each w (bindings_at w.advertised k)) in
      λ i. record { contract = k; advert = a; bound = places i; hashes = eh i }
