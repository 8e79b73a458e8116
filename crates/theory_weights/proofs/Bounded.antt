-- The weights that are told of a contract's transactions bound those with full witnesses, and are reached.
use Rattle.std.proofs.Common.{◌≡◌, ℕ, zero, suc, ◌+◌, ◌≤◌, List, [], ◌∷◌, length, map, Option, Some, None, refl, sym, ap, ◌∙◌, subst, arith}
use Rattle.std.specs.Prelude.{slice_get}
use Rattle.std.specs.Option.{option_and_then}
use Rattle.spec_data.specs.Ranges.{least_secret_bytes, most_item_bytes}
use Rattle.spec_terms.specs.Advert.{Advert}
use Rattle.spec_terms.specs.declared.path.PathStep.{PathStep}
use Rattle.spec_compiler.specs.declared.unsigned.Unsigned.{Unsigned}
use Rattle.spec_compiler.specs.Instance.{Instance}
use Rattle.spec_compiler.specs.Transactions.{tx_of, initial_unsigned}
use Rattle.spec_compiler.specs.Compilation.{path_transactions}
use Rattle.spec_compiler.specs.ByPath.{PathEnd, at_position, at_branch, end_at, as_unsigned, unsigned_at}
use Rattle.spec_tool.specs.declared.weight.Weight.{Weight}
use Rattle.spec_tool.specs.Weights.{weights, exactly, initial_weight, path_weight, path_weights, any_full, deposits_full, any_signatures}
use Rattle.spec_tool.specs.Weights.{total_to, with_totals, IsInitialFull, IsPathFull}
use Rattle.theory_script.proofs.Listing.Stands.{some_same}
use Rattle.theory_script.proofs.Listing.Transactions.{AreRight, transactions_right}
use Rattle.theory_weights.specs.Bounds.{Reaches, Bounds, WeightsAreBounds}
use Rattle.theory_weights.proofs.Weighing.{weight_grows}
use Rattle.theory_weights.proofs.Full.{least_no_longer, most_no_shorter, initial_alike, initial_any, path_any}

-- ---- the weights of one transaction

pub initial_bounds : (d : Unsigned) → Bounds (IsInitialFull d) (tx_of d) (exactly (initial_weight d))
initial_bounds d =
    let any = deposits_full (any_signatures (length d.spends)) d.spends in
    let reached : Reaches (IsInitialFull d) (tx_of d) (initial_weight d) = record { witnesses = any; fills = initial_any d; weighs = refl } in
    record {
      within = λ ws h.
          let both = initial_alike d ws h in
          record { least = weight_grows (tx_of d) any ws both.0; most = weight_grows (tx_of d) ws any both.1 };
      least = reached;
      most = reached;
    }

pub path_bounds : (advert : Advert) (path : List PathStep) (d : Unsigned) → 1 ≤ length d.spends
    → Bounds (IsPathFull advert path d) (tx_of d) (path_weight advert path d)
path_bounds advert path d some = record {
  within = λ ws h. record {
    least = weight_grows (tx_of d) (any_full advert path least_secret_bytes d) ws (least_no_longer advert path d ws h);
    most = weight_grows (tx_of d) ws (any_full advert path most_item_bytes d) (most_no_shorter advert path d ws h);
  };
  least = record {
    witnesses = any_full advert path least_secret_bytes d;
    fills = path_any advert path least_secret_bytes d some
        (omega arith) (omega arith);
    weighs = refl;
  };
  most = record {
    witnesses = any_full advert path most_item_bytes d;
    fills = path_any advert path most_item_bytes d some (omega arith)
        (omega arith);
    weighs = refl;
  };
}

-- ---- the list of all

-- a path with its weight
abbrev pub weighed : Advert → List PathStep × Unsigned → List PathStep × Weight
weighed advert p = (p.0, path_weight advert (p.0) (p.1))

pub entry_is : (advert : Advert) (init : Weight) (all : List (List PathStep × Weight)) (ps : List (List PathStep × Unsigned)) (n : ℕ)
    (path : List PathStep) (d : Unsigned) → slice_get ps n ≡ Some (path, d)
    → slice_get (with_totals init all (map (weighed advert) ps)) n ≡ Some (path_weight advert path d, total_to path init all)
entry_is advert init all [] n path d h = cc
entry_is advert init all (p ∷ ps) zero path d h =
    let e : p ≡ (path, d) = some_same h in
    ap (λ (q : List PathStep × Unsigned). Some (path_weight advert (q.0) (q.1), total_to (q.0) init all)) e
entry_is advert init all (p ∷ ps) (suc n) path d h = entry_is advert init all ps n path d h

totals_count : (init : Weight) (all ps : List (List PathStep × Weight)) → length (with_totals init all ps) ≡ length ps
totals_count init all [] = refl
totals_count init all (p ∷ ps) = ap suc (totals_count init all ps)

map_count : {A B : Type 0} (f : A → B) (xs : List A) → length (map f xs) ≡ length xs
map_count f [] = refl
map_count f (x ∷ xs) = ap suc (map_count f xs)

-- each transaction is that of its path
pub right_at : {V : Type 0} (f : List PathStep → Option V) (es : List (List PathStep × V)) (n : ℕ) (path : List PathStep) (v : V)
    → AreRight f es → slice_get es n ≡ Some (path, v) → f path ≡ Some v
right_at f [] n path v h k = cc
right_at f (e ∷ es) zero path v h k =
    let z : e ≡ (path, v) = some_same k in
    subst (λ (q : List PathStep × _). f (q.0) ≡ Some (q.1)) z h.0
right_at f (e ∷ es) (suc n) path v h k = right_at f es n path v h.1 k

-- and spends something
pub spends_some : (hash : List ℕ → List ℕ) (s : Instance) (path : List PathStep) (d : Unsigned) → unsigned_at hash s path ≡ Some d
    → 1 ≤ length d.spends
spends_some hash s path d h = by_end (end_at hash s path) h
  where
    by_end : (o : Option PathEnd) → option_and_then (as_unsigned hash s) o ≡ Some d → 1 ≤ length d.spends
    by_end None e = cc
    by_end (Some (at_position here contract)) e = cc
    by_end (Some (at_branch here i b)) e =
        subst (λ (x : Unsigned). 1 ≤ length x.spends) (some_same e) (omega arith)

pub weights_are_bounds : WeightsAreBounds
weights_are_bounds hash s =
    let ts = path_transactions hash s in
    let init = exactly (initial_weight (initial_unsigned hash s)) in
    let all = path_weights hash s in
    let a = totals_count init all all in
    let b = map_count (weighed s.advert) ts in
    record {
      count = omega (arith, a, b);
      initial = λ weight total h.
          let e : (init, init) ≡ (weight, total) = some_same h in
          subst (Bounds (IsInitialFull (initial_unsigned hash s)) (tx_of (initial_unsigned hash s))) (ap (λ (q : Weight × Weight). q.0) e)
          (initial_bounds (initial_unsigned hash s));
      paths = λ n path d weight total h k.
          let z : n + 1 ≡ suc n = omega arith in
          let j : slice_get (weights hash s) (suc n) ≡ Some (weight, total) = subst (λ m. slice_get (weights hash s) m ≡ Some (weight, total)) z k in
          let e : (path_weight s.advert path d, total_to path init all) ≡ (weight, total) = some_same (sym (entry_is s.advert init all ts n path d h) ∙ j) in
          let right = right_at (unsigned_at hash s) ts n path d (transactions_right hash s) h in
          subst (Bounds (IsPathFull s.advert path d) (tx_of d)) (ap (λ (q : Weight × Weight). q.0) e)
          (path_bounds s.advert path d (spends_some hash s path d right));
    }
