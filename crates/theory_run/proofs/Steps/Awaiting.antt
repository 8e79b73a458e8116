-- An accepted transaction that takes a branch: whom it asks authorise, its lock is over, and money agrees after its step.
use Rattle.std.proofs.Common.{◌≡◌, ℕ, suc, ◌+◌, List, [], ◌∷◌, ◌++◌, length, map, Bool, true, false, not, cond, Option, Some, None, refl, sym, ap, ◌∙◌, subst, arith, inl, inr}
use Rattle.std.specs.Prelude.{if◌then◌else◌, ◌==◌, ◌&&◌, ◌||◌, ◌⊎◌, slice_get, is_some, nat_lt, nat_le}
use Rattle.std.specs.List.{filter, find, list_all}
use Rattle.std.specs.Option.{is_none, option_and_then}
use Rattle.std.specs.Str.{bytes_eq}
use Rattle.std.proofs.lemmas.Bool.{and_parts, and_from, or_cases, or_left, or_right, eq-eqb, not_from_false}
use Rattle.std.proofs.lemmas.Bool.Decides.{nat_tests}
use Rattle.spec_data.specs.Lists.{AllTrue, is_among}
use Rattle.spec_terms.specs.Term as term
use Rattle.spec_terms.specs.Term.{Contract, branches, Parts, no_part, part, auth, after, put_reveal, withdraw, split}
use Rattle.spec_terms.specs.Core.{asks, is_asked}
use Rattle.spec_terms.specs.declared.path.PathStep.{PathStep}
use Rattle.spec_terms.specs.declared.path.PathStep.TheVariants.{Part as Into}
use Rattle.spec_bitcoin.specs.declared.tx.TxIn.{TxIn}
use Rattle.spec_bitcoin.specs.declared.tx.Tx.{Tx}
use Rattle.spec_data.specs.Ranges.{last_height}
use Rattle.spec_bitcoin.specs.Verdict.{heeds_lock, is_not_final}
use Rattle.spec_calculus.specs.declared.parts.Deposit.{Deposit}
use Rattle.spec_calculus.specs.declared.parts.ActiveContract.{ActiveContract}
use Rattle.spec_calculus.specs.declared.parts.BranchAuthorisation.{BranchAuthorisation}
use Rattle.spec_calculus.specs.Configuration.{Configuration}
use Rattle.spec_calculus.specs.Moves.{deposit_at, kept}
use Rattle.spec_calculus.specs.Branches.{active_at, parts_made, part_values, has_branch_authorised, have_branch_authorised, asks_of}
use Rattle.spec_calculus.specs.Steps.{auth_branch_premises, branch_at, with_branch, effect, after_steps as reached, Legal}
use Rattle.spec_compiler.specs.Instance.{Instance}
use Rattle.spec_compiler.specs.Transactions.{part_outputs}
use Rattle.spec_run.specs.Setup.{Setup}
use Rattle.spec_run.specs.World.{ContractPosition, Output, World, is_deposit, live_position}
use Rattle.spec_run.specs.Ledger.{made_from}
use Rattle.spec_run.specs.Steps.{auth_branch, is_awaited}
use Rattle.spec_run.specs.Agreement.{active_by, active_in, deposits_from, actives_from}
use Rattle.theory_calculus.proofs.Names.{bytes-true, bytes_refl}
use Rattle.theory_world.proofs.Tests.{any-append}
use Rattle.theory_world.proofs.Ledger.Outputs.{deposit_of, deposit-at, active-at}
use Rattle.theory_run.proofs.Steps.Legal.{passes}
use Rattle.theory_run.specs.Tracks.{AgreeOnMoney}
use Rattle.theory_run.proofs.Steps.CommitSteps.{every}

-- ---- authorisations of a branch

abbrev pub asked_all : List BranchAuthorisation → ℕ → ℕ → List (List ℕ) → List BranchAuthorisation
asked_all xs n i [] = xs
asked_all xs n i (p ∷ ps) = asked_all (with_branch xs p n i) n i ps

pub after-asked : (n i : ℕ) (ps : List (List ℕ)) (c : Configuration) → reached c (map (auth_branch n i) ps)
    ≡ record c { branch_authorised = asked_all c.branch_authorised n i ps }
after-asked n i [] c = refl
after-asked n i (p ∷ ps) c = after-asked n i ps (effect c (auth_branch n i p))

asked_there : (xs : List BranchAuthorisation) (n i : ℕ) (p : List ℕ) → has_branch_authorised (with_branch xs p n i) n i p ≡ true
asked_there xs n i p = by_test (has_branch_authorised xs n i p) refl
  where
    by_test : (b : Bool) → has_branch_authorised xs n i p ≡ b
        → has_branch_authorised (cond b xs (xs ++ record { party = p; output = n; branch = i } ∷ [])) n i p ≡ true
    by_test true e = e
    by_test false e = any-append _ xs (record { party = p; output = n; branch = i } ∷ [])
        ∙ or_right (has_branch_authorised xs n i p) _ (or_left _ _ (and_from _ _ (and_from _ _ (bytes_refl p) (eq-eqb n n refl)) (eq-eqb i i refl)))

asked_more : (xs : List BranchAuthorisation) (n i m j : ℕ) (p q : List ℕ) → has_branch_authorised xs m j q ≡ true
    → has_branch_authorised (with_branch xs p n i) m j q ≡ true
asked_more xs n i m j p q h = by_test (has_branch_authorised xs n i p)
  where
    by_test : (b : Bool) → has_branch_authorised (cond b xs (xs ++ record { party = p; output = n; branch = i } ∷ [])) m j q ≡ true
    by_test true = h
    by_test false = any-append _ xs (record { party = p; output = n; branch = i } ∷ []) ∙ or_left _ _ h

pub asked_all_more : (xs : List BranchAuthorisation) (n i m j : ℕ) (ps : List (List ℕ)) (q : List ℕ) → has_branch_authorised xs m j q ≡ true
    → has_branch_authorised (asked_all xs n i ps) m j q ≡ true
asked_all_more xs n i m j [] q h = h
asked_all_more xs n i m j (p ∷ ps) q h = asked_all_more (with_branch xs p n i) n i m j ps q (asked_more xs n i m j p q h)

asked_all_there : (xs : List BranchAuthorisation) (n i : ℕ) (ps : List (List ℕ)) (q : List ℕ) → is_among q ps ≡ true
    → has_branch_authorised (asked_all xs n i ps) n i q ≡ true
asked_all_there xs n i [] q h = cc
asked_all_there xs n i (p ∷ ps) q h = elim (or_cases (bytes_eq p q) (is_among q ps) h) [
  | inl a ↦ asked_all_more (with_branch xs p n i) n i n i ps q
      (subst (λ r. has_branch_authorised (with_branch xs p n i) n i r ≡ true) (bytes-true p q a) (asked_there xs n i p))
  | inr b ↦ asked_all_there (with_branch xs p n i) n i ps q b
]

among_filtered : (f : List ℕ → Bool) (a : List ℕ) (ps : List (List ℕ)) → f a ≡ true → is_among a ps ≡ true → is_among a (filter f ps) ≡ true
among_filtered f a [] e h = cc
among_filtered f a (p ∷ ps) e h = by_test (f p) refl (or_cases (bytes_eq p a) (is_among a ps) h) (among_filtered f a ps e)
  where
    by_test : (b : Bool) → f p ≡ b → (bytes_eq p a ≡ true) ⊎ (is_among a ps ≡ true)
        → (is_among a ps ≡ true → is_among a (filter f ps) ≡ true) → is_among a (cond b (p ∷ filter f ps) (filter f ps)) ≡ true
    by_test true q (inl x) ih = or_left _ _ x
    by_test true q (inr y) ih = or_right (bytes_eq p a) _ (ih y)
    by_test false q (inl x) ih = let z = bytes-true p a x in let t : f p ≡ true = subst (λ r. f r ≡ true) (sym z) e in cc
    by_test false q (inr y) ih = ih y

-- all whom the branch asks have authorised it after these steps
pub asked_cover : (c : Configuration) (n i : ℕ) (b : term.Guarded) (people : List (List ℕ))
    → ((a : List ℕ) → is_among a (asks b) ≡ true → is_among a people ≡ true)
    → have_branch_authorised (asked_all c.branch_authorised n i (filter (is_awaited c n i b) people)) n i (asks b) ≡ true
asked_cover c n i b people within =
    every (λ p. has_branch_authorised (asked_all c.branch_authorised n i (filter (is_awaited c n i b) people)) n i p) (asks b)
    (λ a h. by_test a h (has_branch_authorised c.branch_authorised n i a) refl)
  where
    by_test : (a : List ℕ) → is_among a (asks b) ≡ true → (t : Bool) → has_branch_authorised c.branch_authorised n i a ≡ t
        → has_branch_authorised (asked_all c.branch_authorised n i (filter (is_awaited c n i b) people)) n i a ≡ true
    by_test a h true e = asked_all_more c.branch_authorised n i n i (filter (is_awaited c n i b) people) a e
    by_test a h false e = asked_all_there c.branch_authorised n i (filter (is_awaited c n i b) people) a
        (among_filtered (is_awaited c n i b) a people (and_from _ _ h (not_from_false _ e)) (within a h))

awaited_asked : (c : Configuration) (n i : ℕ) (b : term.Guarded) (people : List (List ℕ))
    → list_all (λ p. is_among p (asks b)) (filter (is_awaited c n i b) people) ≡ true
awaited_asked c n i b [] = refl
awaited_asked c n i b (p ∷ people) = by_tests (is_asked b p) (has_branch_authorised c.branch_authorised n i p) refl (awaited_asked c n i b people)
  where
    by_tests : (x y : Bool) → is_asked b p ≡ x → list_all (λ q. is_among q (asks b)) (filter (is_awaited c n i b) people) ≡ true
        → list_all (λ q. is_among q (asks b)) (cond (x && not y) (p ∷ filter (is_awaited c n i b) people) (filter (is_awaited c n i b) people)) ≡ true
    by_tests true true e ih = ih
    by_tests true false e ih = and_from _ _ e ih
    by_tests false y e ih = ih

legal_asks : (c : Configuration) (n i : ℕ) (active : ActiveContract) (b : term.Guarded) → active_at c.active n ≡ Some active → branch_at c n i ≡ Some b
    → (ps : List (List ℕ)) (xs : List BranchAuthorisation) → list_all (λ p. is_among p (asks b)) ps ≡ true
    → Legal (record c { branch_authorised = xs }) (map (auth_branch n i) ps)
legal_asks c n i active b ea eb [] xs h = tt
legal_asks c n i active b ea eb (p ∷ ps) xs h =
    let q = and_parts (is_among p (asks b)) (list_all (λ r. is_among r (asks b)) ps) h in
    let row : AllTrue (auth_branch_premises p (active_at c.active n) (branch_at c n i)) = (
      ap is_some ea,
      (ap is_some eb, (ap (λ o. is_among p (asks_of o)) eb ∙ q.0, tt)),
    ) in
    (passes (record c { branch_authorised = xs }) (auth_branch n i p) row, legal_asks c n i active b ea eb ps (with_branch xs p n i) q.1)

-- the authorisations of a branch are legal
pub legal_awaited : (c : Configuration) (n i : ℕ) (active : ActiveContract) (b : term.Guarded) (people : List (List ℕ))
    → active_at c.active n ≡ Some active → branch_at c n i ≡ Some b
    → Legal c (map (auth_branch n i) (filter (is_awaited c n i b) people))
legal_awaited c n i active b people ea eb =
    legal_asks c n i active b ea eb (filter (is_awaited c n i b) people) c.branch_authorised (awaited_asked c n i b people)

-- ---- the lock

lock_over : (tip l : ℕ) → (not (l == 0) && (nat_lt tip l || nat_lt last_height l)) ≡ false → nat_le l tip ≡ true
lock_over tip l h = grind (arith, nat_tests)

-- where a sequence lets the lock bind, the lock is over
pub lock_reached : (tip : ℕ) (tx : Tx) (i : TxIn) (is : List TxIn) → is_not_final tip tx ≡ false → tx.inputs ≡ i ∷ is → i.sequence
    ≡ 0xfffffffe → nat_le tx.lock tip ≡ true
lock_reached tip tx i is final e q =
    let binds : heeds_lock tx.inputs ≡ true = ap heeds_lock e ∙ or_left _ _ (ap (λ n. not (n == 4294967295)) q) in
    lock_over tip tx.lock (ap (λ b. b && (not (tx.lock == 0) && (nat_lt tip tx.lock || nat_lt last_height tx.lock))) (sym binds) ∙ final)

-- ---- what lies at a number

pub active_there : (s : Setup) (c : Configuration) (w : World) → AgreeOnMoney s c w → (n : ℕ) (o : Output) (h : ContractPosition)
    → slice_get w.outputs n ≡ Some o → o.live ≡ true → o.holds ≡ Some h
    → active_at c.active n ≡ Some (record { number = n; contract = h.contract; position = h.position; balance = o.value })
active_there s c w money n o h there live holds =
    let e : live_position (Some o) ≡ Some h = rw live holds in
    ap (λ xs. active_at xs n) money.active ∙ active-at n w.outputs ∙ ap (option_and_then (active_in n)) there ∙ ap (active_by n o.value) e

-- what holds something is no deposit
pub no_deposit_there : (s : Setup) (c : Configuration) (w : World) → AgreeOnMoney s c w → (n : ℕ) (o : Output) (h : ContractPosition)
    → slice_get w.outputs n ≡ Some o → o.live ≡ true → o.holds ≡ Some h → is_none (find (λ (d : Deposit). d.number == n) c.deposits) ≡ true
no_deposit_there s c w money n o h there live holds =
    let d : is_deposit (Some o) ≡ false = rw (live, holds) refl in
    let e : deposit_of s n (Some o) ≡ None = rw d refl in
    ap (λ ds. is_none (deposit_at ds n)) money.deposits ∙ ap is_none (deposit-at s n w.outputs ∙ ap (deposit_of s n) there ∙ e)

inactive : (n : ℕ) (o : Option Output) → is_deposit o ≡ true → is_none (option_and_then (active_in n) o) ≡ true
inactive n None h = refl
inactive n (Some o) h = by_case o.live o.holds h
  where
    by_case : (b : Bool) (p : Option ContractPosition) → (b && is_none p) ≡ true → is_none (active_by n o.value (if b then p else None)) ≡ true
    by_case true None e = refl
    by_case true (Some p) e = cc
    by_case false p e = cc

-- what are deposits are no contracts
pub none_active : (s : Setup) (c : Configuration) (w : World) → AgreeOnMoney s c w → (ns : List ℕ)
    → list_all (λ n. is_deposit (slice_get w.outputs n)) ns ≡ true → list_all (λ m. is_none (find (λ (x : ActiveContract). x.number == m) c.active)) ns ≡ true
none_active s c w money [] h = refl
none_active s c w money (n ∷ ns) h =
    let p = and_parts (is_deposit (slice_get w.outputs n)) (list_all (λ m. is_deposit (slice_get w.outputs m)) ns) h in
    and_from _ _ (ap (λ xs. is_none (active_at xs n)) money.active ∙ ap is_none (active-at n w.outputs)
    ∙ inactive n (slice_get w.outputs n) p.0) (none_active s c w money ns p.1)

pub kept_none : (ds : List Deposit) → kept ds [] ≡ ds
kept_none [] = refl
kept_none (d ∷ ds) = ap (λ es. d ∷ es) (kept_none ds)

-- ---- parts

abbrev pub part_held : ℕ → List PathStep → ℕ → Option ContractPosition
part_held contract path m = Some (record { contract = contract; position = path ++ Into m ∷ [] })

module _ (hash : List ℕ → List ℕ) (st : Instance) (at : List PathStep) (contract : ℕ) (path : List PathStep) (id : List ℕ) where
  pub parts_active : (n k : ℕ) (ps : Parts) → actives_from n (made_from (part_held contract path) id k (part_outputs hash st at k ps))
      ≡ parts_made n contract path k (part_values ps)
  parts_active n k no_part = refl
  parts_active n k (part v c ps) =
      ap (λ xs. record { number = n; contract = contract; position = path ++ Into k ∷ []; balance = v } ∷ xs) (parts_active (n + 1) (k + 1) ps)

  pub parts_no_deposits : (s : Setup) (n k : ℕ) (ps : Parts) → deposits_from s n (made_from (part_held contract path) id k (part_outputs hash st at k ps)) ≡ []
  parts_no_deposits s n k no_part = refl
  parts_no_deposits s n k (part v c ps) = parts_no_deposits s (n + 1) (k + 1) ps

  pub parts_counted : (k : ℕ) (ps : Parts) → length (part_outputs hash st at k ps) ≡ length (part_values ps)
  parts_counted k no_part = refl
  parts_counted k (part v c ps) = ap suc (parts_counted (k + 1) ps)
