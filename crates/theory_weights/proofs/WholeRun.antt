-- What a run fires on the way to a path weighs together what the total says.
use Rattle.std.proofs.Common.{◌≡◌, ℕ, suc, ◌+◌, List, [], ◌∷◌, ◌++◌, map, Bool, true, false, Some, sym, ap, ◌∙◌, subst, arith, inl, inr, cond}
use Rattle.std.specs.Prelude.{slice_get, sum_by, if◌then◌else◌}
use Rattle.std.proofs.lemmas.List.Sums.{sum_by-cons}
use Rattle.spec_terms.specs.declared.path.PathStep.{PathStep}
use Rattle.spec_bitcoin.specs.declared.tx.Tx.{Tx}
use Rattle.spec_calculus.specs.Configuration.{Configuration}
use Rattle.spec_compiler.specs.Instance.{Instance}
use Rattle.spec_compiler.specs.declared.unsigned.Unsigned.{Unsigned}
use Rattle.spec_compiler.specs.Transactions.{tx_of, initial_unsigned}
use Rattle.spec_compiler.specs.Compilation.{path_transactions}
use Rattle.spec_compiler.specs.ByPath.{unsigned_at}
use Rattle.spec_run.specs.declared.event.Event.{Event}
use Rattle.spec_run.specs.declared.event.Event.TheVariants as events
use Rattle.spec_run.specs.declared.outcome.Record.{Record}
use Rattle.spec_run.specs.Setup.{Setup}
use Rattle.spec_run.specs.World.{ContractPosition, World, live_position_at}
use Rattle.spec_run.specs.Compiled.{compiled_instance}
use Rattle.spec_run.specs.Conditions.{IsSetup}
use Rattle.spec_run.specs.Ledger.{position_path}
use Rattle.spec_run.specs.Event.{pending, opening_world}
use Rattle.spec_run.specs.Translation.{Turn, record_in, course, last_or, last_world, opening_configuration}
use Rattle.spec_run.specs.Statements.{Claim, HoldsFrom, HoldsThroughout, IsRun}
use Rattle.spec_tool.specs.declared.weight.Weight.{Weight}
use Rattle.spec_tool.specs.Weights.{weight_of, weights, exactly, added, initial_weight, path_weight, path_weights, is_on_way, total_to}
use Rattle.spec_tool.specs.Weights.{IsInitialFull, IsPathFull}
use Rattle.theory_calculus.specs.Members.{Is_in}
use Rattle.theory_calculus.proofs.Members.{in_from_contains}
use Rattle.theory_script.proofs.Listing.Stands.{some_same}
use Rattle.theory_script.proofs.Listing.Transactions.{AreRight, transactions_right}
use Rattle.theory_run.proofs.Facts.Growing.{grows}
use Rattle.theory_run.proofs.Following.{Keeps, run_posts, holds_throughout}
use Rattle.theory_run.proofs.Simulated.{kept_run, opening_run, run_after}
use Rattle.theory_weights.specs.Bounds.{IsWithin, Bounds}
use Rattle.theory_weights.specs.Runs.{way_to, with_worlds, turns_of, FiredInitial, FiredPath, FiredAll, TotalsBoundRuns}
use Rattle.theory_weights.proofs.Bounded.{initial_bounds, path_bounds, weighed, entry_is, spends_some}
use Rattle.theory_weights.proofs.Fired.{Filled, InitialFilled, PathFilled, initial_filled, path_filled}

-- ---- every turn

-- what a turn fires has full witnesses, and what is compiled stays so
pub record TurnFilled (s : Setup) (w : World) (t : Turn) : Type 0 where
  pub initial : (contract : ℕ) (tx : Tx) → t.event ≡ events.FireInit contract → t.tx ≡ Some tx → InitialFilled s w contract tx
  pub path : (n i : ℕ) (held : ContractPosition) (tx : Tx) → t.event ≡ events.Fire n i → live_position_at w n ≡ Some held → t.tx ≡ Some tx
      → PathFilled s w held.contract (position_path held i) tx
  pub stays : (k : ℕ) (st : Instance) → compiled_instance s w k ≡ Some st → compiled_instance s t.world k ≡ Some st

abbrev turn_filled : Setup → Claim
turn_filled s before g w t = TurnFilled s w t

keeps_filled : (s : Setup) → IsSetup s → (z : List (List ℕ)) → Keeps s (turn_filled s) (kept_run s z) z
keeps_filled s setup z = record {
  step = λ before g w e k is calm unguessed begins.
      let book = k.books.book in
      let later = grows s g w book e in
      let filled : TurnFilled s w _ = record {
        initial = λ contract tx q h. initial_filled s setup.hash.size w contract tx (sym (ap (λ x. (pending s w x).tx) q) ∙ h);
        path = λ n i held tx q live h. path_filled s setup.hash.size g w book n i held live tx (sym (ap (λ x. (pending s w x).tx) q) ∙ h);
        stays = later.compiled;
      } in (filled, run_after s setup z g w k e is calm unguessed begins);
}

all_filled : (s : Setup) (es : List Event) → IsRun s es → HoldsThroughout s (turn_filled s) es
all_filled s es run =
    let z = run_posts s es in
    holds_throughout s (turn_filled s) (kept_run s z) es (keeps_filled s run.setup z) run.events (opening_run s es run z)

-- ---- from a turn to the end

stays_to_end : (s : Setup) (ts : List Turn) (before : List Record) (g : Configuration) (w : World) → HoldsFrom (turn_filled s) before g w ts
    → (k : ℕ) (st : Instance) → compiled_instance s w k ≡ Some st → compiled_instance s (last_or w (map (λ t. t.world) ts)) k ≡ Some st
stays_to_end s [] before g w h k st c = c
stays_to_end s (t ∷ ts) before g w h k st c =
    stays_to_end s ts (before ++ record_in t ∷ []) t.configuration t.world h.1 k st (h.0.stays k st c)

-- a turn of these, and what is compiled at their end
record IsTurn (s : Setup) (end w : World) (t : Turn) : Type 0 where
  pub filled : TurnFilled s w t
  pub stays : (k : ℕ) (st : Instance) → compiled_instance s w k ≡ Some st → compiled_instance s end k ≡ Some st

turn_of_these : (s : Setup) (ts : List Turn) (before : List Record) (g : Configuration) (first : World)
    → HoldsFrom (turn_filled s) before g first ts → (w : World) (t : Turn) → Is_in (w, t) (with_worlds first ts)
    → IsTurn s (last_or first (map (λ t. t.world) ts)) w t
turn_of_these s [] before g first h w t i = absurd i
turn_of_these s (x ∷ ts) before g first h w t i =
    let here : IsTurn s (last_or x.world (map (λ t. t.world) ts)) first x = record {
      filled = h.0;
      stays = λ k st c. stays_to_end s ts (before ++ record_in x ∷ []) x.configuration x.world h.1 k st (h.0.stays k st c);
    } in
    elim i [
      | inl e ↦ subst (λ (p : World × Turn). IsTurn s (last_or x.world (map (λ t. t.world) ts)) (p.0) (p.1)) (sym e) here
      | inr j ↦ turn_of_these s ts (before ++ record_in x ∷ []) x.configuration x.world h.1 w t j
    ]

-- ---- weights

filled_within : (full : List (List (List ℕ)) → Type 0) (bare tx : Tx) (w : Weight) → Bounds full bare w → Filled full bare tx
    → IsWithin w (weight_of tx)
filled_within full bare tx w b f = subst (λ x. IsWithin w (weight_of x)) (sym f.is) (b.within f.witnesses f.fills)

module _ (s : Setup) (es : List Event) (run : IsRun s es) (contract : ℕ) (st : Instance)
    (compiled : compiled_instance s (last_world s es) contract ≡ Some st) where
  is_turn : (w : World) (t : Turn) → Is_in (w, t) (turns_of s es) → IsTurn s (last_world s es) w t
  is_turn w t i = turn_of_these s (course s es).turns [] (opening_configuration s) (opening_world s) (all_filled s es run) w t i

  initial_within : (tx : Tx) → FiredInitial s es contract tx → IsWithin (exactly (initial_weight (initial_unsigned s.hash st))) (weight_of tx)
  initial_within tx f =
      let a = f.fired in
      let t = is_turn f.world a.turn (in_from_contains (turns_of s es) (f.world, a.turn) a.there) in
      let filled = t.filled.initial contract tx a.event a.is in
      let same : filled.instance ≡ st = some_same (sym (t.stays contract filled.instance filled.compiled) ∙ compiled) in
      let d : Unsigned = initial_unsigned s.hash filled.instance in
      subst (λ (x : Instance). IsWithin (exactly (initial_weight (initial_unsigned s.hash x))) (weight_of tx)) same
      (filled_within (IsInitialFull d) (tx_of d) tx (exactly (initial_weight d)) (initial_bounds d) filled.filled)

  path_within : (path : List PathStep) (d : Unsigned) → unsigned_at s.hash st path ≡ Some d → (tx : Tx) → FiredPath s es contract path tx
      → IsWithin (path_weight st.advert path d) (weight_of tx)
  path_within path d there tx f =
      let a = f.fired in
      let t = is_turn f.world a.turn (in_from_contains (turns_of s es) (f.world, a.turn) a.there) in
      let first = t.filled.path f.output f.branch f.held tx a.event f.position a.is in
      let filled : PathFilled s f.world contract path tx =
      subst (λ p. PathFilled s f.world contract p tx) f.same_path (subst (λ k. PathFilled s f.world k (position_path f.held f.branch) tx) f.same_contract first) in
      let same : filled.instance ≡ st = some_same (sym (t.stays contract filled.instance filled.compiled) ∙ compiled) in
      let here : unsigned_at s.hash st path ≡ Some filled.made = sym (ap (λ (x : Instance). unsigned_at s.hash x path) same) ∙ filled.there in
      let made : filled.made ≡ d = some_same (sym here ∙ there) in
      let fill : Filled (IsPathFull st.advert path d) (tx_of d) tx =
      subst (λ (x : Unsigned). Filled (IsPathFull st.advert path x) (tx_of x) tx) made
      (subst (λ (x : Instance). Filled (IsPathFull x.advert path filled.made) (tx_of filled.made) tx) same filled.filled) in
      filled_within (IsPathFull st.advert path d) (tx_of d) tx (path_weight st.advert path d)
      (path_bounds st.advert path d (spends_some s.hash st path d there)) fill

  -- the weights of those on the way are added, one after another
  adds_up : (to : List PathStep) (ps : List (List PathStep × Unsigned)) → AreRight (unsigned_at s.hash st) ps → (txs : List Tx) (sum : Weight) (a : ℕ)
      → IsWithin sum a → FiredAll s es contract (way_to to (map (λ p. p.0) ps)) txs
      → IsWithin (total_to to sum (map (weighed st.advert) ps)) (a + sum_by weight_of txs)
  adds_up to [] right [] sum a w f = record { least = let h = w.least in omega (arith, h); most = let h = w.most in omega (arith, h) }
  adds_up to [] right (tx ∷ txs) sum a w f = absurd f
  adds_up to (p ∷ ps) right txs sum a w f = by_test (is_on_way (p.0) to) txs f (λ more x n k g. adds_up to ps right.1 more x n k g)
    where
      by_test : (b : Bool) (txs : List Tx) → FiredAll s es contract (cond b (p.0 ∷ way_to to (map (λ q. q.0) ps)) (way_to to (map (λ q. q.0) ps))) txs
          → ((more : List Tx) (x : Weight) (n : ℕ) → IsWithin x n → FiredAll s es contract (way_to to (map (λ q. q.0) ps)) more
          → IsWithin (total_to to x (map (weighed st.advert) ps)) (n + sum_by weight_of more))
          → IsWithin (total_to to (if b then added sum (path_weight st.advert (p.0) (p.1)) else sum) (map (weighed st.advert) ps)) (a + sum_by weight_of txs)
      by_test false txs g ih = ih txs sum a w g
      by_test true [] g ih = absurd g
      by_test true (tx ∷ txs) g ih =
          let q = path_within (p.0) (p.1) right.0 tx g.0 in
          let l = w.least in
          let m = w.most in
          let ql = q.least in
          let qm = q.most in
          let r = ih txs (added sum (path_weight st.advert (p.0) (p.1))) (a + weight_of tx)
          (record { least = omega (arith, l, ql); most = omega (arith, m, qm) }) g.1 in
          let e : a + weight_of tx + sum_by weight_of txs ≡ a + sum_by weight_of (tx ∷ txs) =
          (let c = sum_by-cons weight_of tx txs in omega (arith, c)) in
          subst (IsWithin (total_to to (added sum (path_weight st.advert (p.0) (p.1))) (map (weighed st.advert) ps))) e r

pub totals_bound_runs : TotalsBoundRuns
totals_bound_runs s es run contract st compiled n path d weight total h k initial txs first each =
    let ts = path_transactions s.hash st in
    let init = exactly (initial_weight (initial_unsigned s.hash st)) in
    let all = path_weights s.hash st in
    let z : n + 1 ≡ suc n = omega arith in
    let j : slice_get (weights s.hash st) (suc n) ≡ Some (weight, total) = subst (λ m. slice_get (weights s.hash st) m ≡ Some (weight, total)) z k in
    let e : (path_weight st.advert path d, total_to path init all) ≡ (weight, total) =
    some_same (sym (entry_is st.advert init all ts n path d h) ∙ j) in
    subst (λ x. IsWithin x (weight_of initial + sum_by weight_of txs)) (ap (λ (q : Weight × Weight). q.1) e)
    (adds_up s es run contract st compiled path ts (transactions_right s.hash st) txs init (weight_of initial)
    (initial_within s es run contract st compiled initial first) each)
