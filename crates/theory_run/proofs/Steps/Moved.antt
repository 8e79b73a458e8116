-- An accepted transaction of deposits is a legal move, and money agrees after it.
use Rattle.std.proofs.Common.{◌≡◌, ℕ, suc, ◌+◌, List, [], ◌∷◌, ◌++◌, length, map, Bool, true, false, not, Option, Some, None, refl, sym, ap, ◌∙◌, subst, arith, append-nil, length-append, cond, inl, inr}
use Rattle.std.specs.Prelude.{if◌then◌else◌, ◌==◌, ◌&&◌, ◌||◌, nat_le, slice_get, is_some, ◌⊎◌}
use Rattle.std.specs.List.{filter, list_all, list_any, sum_by, cons_option}
use Rattle.std.specs.Option.{is_none}
use Rattle.std.specs.Str.{bytes_eq}
use Rattle.std.proofs.lemmas.Bool.{and_from, or_left, or_right, or_cases, false_from_ne_true}
use Rattle.spec_data.specs.Lists.{has_number, are_distinct, is_among}
use Rattle.spec_bitcoin.specs.declared.tx.Tx.{Tx}
use Rattle.spec_bitcoin.specs.Digests.{txid}
use Rattle.spec_bitcoin.specs.Verdict.{total_of}
use Rattle.spec_calculus.specs.declared.step.Owner.{Owner}
use Rattle.spec_calculus.specs.declared.step.Owner.TheVariants.{Party, Outside}
use Rattle.spec_calculus.specs.declared.step.Move.{Move}
use Rattle.spec_calculus.specs.declared.step.Step.TheVariants as steps
use Rattle.spec_calculus.specs.declared.parts.ActiveContract.{ActiveContract}
use Rattle.spec_calculus.specs.Configuration.{Configuration}
use Rattle.spec_calculus.specs.Same.{owner_eq}
use Rattle.spec_calculus.specs.Moves.{deposit_at, is_live, value_or_zero, owner_of as owner_seen, value_at, owner_at, spends_live, owns_one, pays, value_in, has_agreed, all_agree}
use Rattle.spec_calculus.specs.Steps.{effect, after_steps, Legal}
use Rattle.spec_run.specs.Setup.{Setup}
use Rattle.spec_run.specs.World.{ContractPosition, Output, World, output_at, is_deposit}
use Rattle.spec_run.specs.Owners.{owner_of, deposit_value}
use Rattle.spec_run.specs.Ledger.{spend_from, made_from}
use Rattle.spec_run.specs.Steps.{parties_once, moved_output, move_of, auth_move, owners_of, move_steps}
use Rattle.spec_run.specs.Agreement.{active_by, active_in, actives_from, deposits_from}
use Rattle.theory_calculus.proofs.Names.{bytes-true, bytes_refl}
use Rattle.theory_calculus.proofs.Members.{all_then, all_map, all_filter}
use Rattle.theory_world.proofs.Tests.{all_has, all_alike, any_alike, any_map, sum_map, length_map}
use Rattle.theory_world.proofs.Ledger.Outputs.{deposit_of, deposit-at, active-named, actives-append, actives-spent, actives-new, deposits-append, deposits-spent, deposits-new, nothing_held, length-spend_from, length-made_from}
use Rattle.theory_run.proofs.Steps.Legal.{passes, after-append, legal_append, after-auths, auth_all, all_there, all_gone, legal_auths}
use Rattle.theory_run.specs.Tracks.{AgreeOnMoney}

-- ---- what a party owns

-- whether an owner is outside or stands in the list
abbrev party_in : List (List ℕ) → Owner → Bool
party_in ps Outside = true
party_in ps (Party a) = is_among a ps

among-filter : (a b : List ℕ) (ps : List (List ℕ)) → is_among b ps ≡ true → (bytes_eq a b || is_among b (filter (λ x. not (bytes_eq x a)) ps)) ≡ true
among-filter a b [] h = cc
among-filter a b (p ∷ ps) h = by_test (bytes_eq p a) refl (or_cases (bytes_eq p b) (is_among b ps) h) (among-filter a b ps)
  where
    by_test : (t : Bool) → bytes_eq p a ≡ t → (bytes_eq p b ≡ true) ⊎ (is_among b ps ≡ true)
        → (is_among b ps ≡ true → (bytes_eq a b || is_among b (filter (λ x. not (bytes_eq x a)) ps)) ≡ true)
        → (bytes_eq a b || is_among b (cond (not t) (p ∷ filter (λ x. not (bytes_eq x a)) ps) (filter (λ x. not (bytes_eq x a)) ps))) ≡ true
    by_test true e (inl q) ih = or_left (bytes_eq a b) _ (subst (λ y. bytes_eq y b ≡ true) (bytes-true p a e) q)
    by_test true e (inr q) ih = ih q
    by_test false e (inl q) ih = or_right (bytes_eq a b) _ (or_left _ _ q)
    by_test false e (inr q) ih = let r = ih q in grind arith

party_in-more : (a : List ℕ) (ps : List (List ℕ)) (o : Owner) → party_in ps o ≡ true → party_in (a ∷ filter (λ b. not (bytes_eq b a)) ps) o ≡ true
party_in-more a ps Outside h = refl
party_in-more a ps (Party b) h = among-filter a b ps h

-- each owner is among the parties
once_covers : (os : List Owner) → list_all (party_in (parties_once os)) os ≡ true
once_covers [] = refl
once_covers (Outside ∷ os) = once_covers os
once_covers (Party a ∷ os) = and_from _ _ (or_left _ _ (bytes_refl a)) (all_then _ _ os (party_in-more a (parties_once os)) (once_covers os))

-- each of the parties is an owner
pub once_owns : (os : List Owner) → list_all (λ a. list_any (λ o. owner_eq o (Party a)) os) (parties_once os) ≡ true
once_owns [] = refl
once_owns (Outside ∷ os) = once_owns os
once_owns (Party a ∷ os) =
    let wider = all_then _ (λ b. list_any (λ o. owner_eq o (Party b)) (Party a ∷ os)) (parties_once os) (λ b. or_right (bytes_eq a b) _) (once_owns os) in
    and_from _ _ (or_left _ _ (bytes_refl a)) (all_filter _ (λ b. not (bytes_eq b a)) (parties_once os) wider)

authorised : (m : Move) (ps : List (List ℕ)) (o : Owner) → party_in ps o ≡ true → has_agreed (auth_all [] m ps) m o ≡ true
authorised m ps Outside h = refl
authorised m ps (Party a) h = all_there [] m ps a h

deposit-inactive : (k : ℕ) (o : Output) → is_deposit (Some o) ≡ true → active_in k o ≡ None
deposit-inactive k o h = by_case o.live o.holds h
  where
    by_case : (b : Bool) (p : Option ContractPosition) → (b && is_none p) ≡ true → active_by k o.value (if b then p else None) ≡ None
    by_case true None e = refl
    by_case true (Some p) e = cc
    by_case false p e = refl

untouched : (k : ℕ) (ns : List ℕ) (os : List Output) → ((n : ℕ) → has_number (n + k) ns ≡ true → is_deposit (slice_get os n) ≡ true)
    → filter (λ x. not (has_number x.number ns)) (actives_from k os) ≡ actives_from k os
untouched k ns [] h = refl
untouched k ns (o ∷ os) h =
    by_seen (active_in k o) refl (untouched (k + 1) ns os (λ n i. let e : n + (k + 1) ≡ suc n + k = omega arith in h (suc n) (rw e at i)))
  where
    by_seen : (x : Option ActiveContract) → active_in k o ≡ x → filter (λ y. not (has_number y.number ns)) (actives_from (k + 1) os)
        ≡ actives_from (k + 1) os → filter (λ y. not (has_number y.number ns)) (cons_option x (actives_from (k + 1) os))
        ≡ cons_option x (actives_from (k + 1) os)
    by_seen None e ih = ih
    by_seen (Some x) e ih =
        let m = active-named k o x e in
        let z : 0 + k ≡ k = omega arith in
        let f : has_number x.number ns ≡ false = false_from_ne_true _ (λ q. let d = deposit-inactive k o (h 0 (rw (z, ← m) q)) in cc) in
        rw f (ap (λ xs. x ∷ xs) ih)

-- where deposits are spent, all contracts stay
pub actives-untouched : (ns : List ℕ) (os : List Output) → list_all (λ n. is_deposit (slice_get os n)) ns ≡ true
    → filter (λ x. not (has_number x.number ns)) (actives_from 0 os) ≡ actives_from 0 os
actives-untouched ns os h = untouched 0 ns os (λ n i. let e : n + 0 ≡ n = omega arith in all_has (λ m. is_deposit (slice_get os m)) ns n h (rw e at i))

-- ---- what a number stands for on both sides

module _ (s : Setup) (g : Configuration) (w : World) (agree : AgreeOnMoney s g w) where
  at_number : (n : ℕ) → deposit_at g.deposits n ≡ deposit_of s n (output_at w n)
  at_number n = rw agree.deposits (deposit-at s n w.outputs)

  pub live_there : (n : ℕ) → is_live g.deposits n ≡ is_deposit (output_at w n)
  live_there n = ap is_some (at_number n) ∙ by_output n (output_at w n)
    where
      by_output : (n : ℕ) (o : Option Output) → is_some (deposit_of s n o) ≡ is_deposit o
      by_output n None = refl
      by_output n (Some o) = grind arith

  pub owner_there : (n : ℕ) → owner_at g.deposits n ≡ owner_of s (output_at w n)
  owner_there n = ap owner_seen (at_number n) ∙ by_output n (output_at w n)
    where
      by_output : (n : ℕ) (o : Option Output) → owner_seen (deposit_of s n o) ≡ owner_of s o
      by_output n None = refl
      by_output n (Some o) = grind arith

  pub value_there : (n : ℕ) → value_at g.deposits n ≡ deposit_value (output_at w n)
  value_there n = ap value_or_zero (at_number n) ∙ by_output n (output_at w n)
    where
      by_output : (n : ℕ) (o : Option Output) → value_or_zero (deposit_of s n o) ≡ deposit_value o
      by_output n None = refl
      by_output n (Some o) = grind arith

  -- what an accepted transaction's numbers meet
  pub record CanMove (tx : Tx) (ns : List ℕ) : Type 0 where
    pub some : not (length ns == 0) ≡ true
    pub different : are_distinct ns ≡ true
    pub live : list_all (λ n. is_deposit (output_at w n)) ns ≡ true
    pub pays : not (length tx.outputs == 0) ≡ true
    pub enough : nat_le (total_of tx.outputs) (sum_by (λ n. deposit_value (output_at w n)) ns) ≡ true

  module _ (tx : Tx) (ns : List ℕ) (can : CanMove tx ns) where
    abbrev m : Move
    m = move_of s tx ns

    abbrev ps : List (List ℕ)
    ps = parties_once (owners_of s w ns)

    abbrev mid : Configuration
    mid = record g { move_authorised = auth_all g.move_authorised m ps }

    inputs : spends_live g.deposits m.inputs ≡ true
    inputs = and_from _ _ (and_from _ _ can.some can.different) (all_alike _ _ ns live_there ∙ can.live)

    owned : list_all (λ p. owns_one g.deposits ns p) ps ≡ true
    owned = all_alike _ _ ps (λ a. any_alike _ _ ns (λ n. ap (λ o. owner_eq o (Party a)) (owner_there n)) ∙ sym (any_map _ _ ns)) ∙ once_owns (owners_of s w ns)

    sums : value_in g.deposits ns ≡ sum_by (λ n. deposit_value (output_at w n)) ns
    sums = λ i. sum_by (λ n. value_there n i) ns

    afford : pays g.deposits m ≡ true
    afford = rw (length_map (moved_output s) tx.outputs, sum_map (λ o. o.1) (moved_output s) tx.outputs, sums) (and_from _ _ can.pays can.enough)

    permitted : all_agree g.deposits mid.move_authorised m ≡ true
    permitted =
        rw agree.moves
        (all_then (λ n. party_in ps (owner_of s (output_at w n))) _ ns (λ n h. rw (owner_there n) (authorised m ps (owner_of s (output_at w n)) h))
        (sym (all_map (party_in ps) (λ n. owner_of s (output_at w n)) ns) ∙ once_covers (owners_of s w ns)))

    legal : Legal mid (steps.Move m ∷ [])
    legal = (passes mid (steps.Move m) (inputs, (afford, (permitted, tt))), tt)

    pub legal_move : Legal g (move_steps s w tx ns)
    legal_move = legal_append g (map (auth_move m) ps) (steps.Move m ∷ []) (legal_auths m ps g inputs owned)
        (subst (λ d. Legal d (steps.Move m ∷ [])) (sym (after-auths m ps g)) legal)

    pub ends-move : after_steps g (move_steps s w tx ns) ≡ effect mid (steps.Move m)
    ends-move = after-append g (map (auth_move m) ps) (steps.Move m ∷ []) ∙ ap (λ d. effect d (steps.Move m)) (after-auths m ps g)

    -- the next world, as far as the calculus sees it
    pub agree_move : (next : World) → next.tip ≡ w.tip → next.outputs ≡ spend_from 0 ns w.outputs
        ++ made_from nothing_held (txid s.hash tx) 0 tx.outputs → AgreeOnMoney s (after_steps g (move_steps s w tx ns)) next
    agree_move next tips outs = rw ends-move (record {
      time = agree.time ∙ sym tips;
      next =
          let e = ap length outs ∙ length-append (spend_from 0 ns w.outputs) (made_from nothing_held (txid s.hash tx) 0 tx.outputs) in
          let f = length-spend_from 0 ns w.outputs in
          let g' = length-made_from nothing_held (txid s.hash tx) 0 tx.outputs in
          let h = length_map (moved_output s) tx.outputs in
          omega (arith, agree.next, e, f, g', h);
      deposits =
          let spend = spend_from 0 ns w.outputs in
          let new = made_from nothing_held (txid s.hash tx) 0 tx.outputs in
          let at : 0 + length spend ≡ g.next = omega (arith, agree.next, length-spend_from 0 ns w.outputs) in
          let split = deposits-append s 0 spend new in
          let rest = deposits-spent s 0 ns w.outputs in
          let made_new = deposits-new s g.next 0 (txid s.hash tx) tx.outputs in
          cc (outs, agree.deposits, at, split, rest, made_new);
      active =
          let spend = spend_from 0 ns w.outputs in
          let new = made_from nothing_held (txid s.hash tx) 0 tx.outputs in
          let split = actives-append 0 spend new in
          let rest = actives-spent 0 ns w.outputs in
          let none = actives-new (0 + length spend) 0 (txid s.hash tx) tx.outputs in
          let still = actives-untouched ns w.outputs can.live in
          agree.active ∙ sym (ap (actives_from 0) outs ∙ split ∙ ap (λ xs. actives_from 0 spend ++ xs) none ∙ append-nil (actives_from 0 spend) ∙ rest ∙ still);
      moves = all_gone g.move_authorised m ps ∙ rw agree.moves refl;
    })
