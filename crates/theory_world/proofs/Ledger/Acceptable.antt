-- A compiled transaction whose inputs spend live outputs, with witnesses that open them, is accepted.
use Rattle.std.proofs.Common.{◌≡◌, ℕ, zero, suc, ◌+◌, ◌<◌, ◌≤◌, List, [], ◌∷◌, ◌++◌, length, map, Bool, true, false, not, Option, Some, None, refl, sym, ap, ◌∙◌, subst, arith, cond}
use Rattle.std.specs.Prelude.{◌==◌, ◌&&◌, ◌||◌, slice_get, is_some, if◌then◌else◌, nat_lt}
use Rattle.std.specs.List.{list_all, list_any, position_from}
use Rattle.std.specs.Option.{option_and_then, option_map_or}
use Rattle.std.specs.Str.{bytes_eq}
use Rattle.std.proofs.lemmas.Bool.{and_parts, and_from, or_from, or_parts, eq-eqb, ne_eqb, both_ways, not-true}
use Rattle.std.proofs.lemmas.Bool.Decides.{nat_tests}
use Rattle.std.proofs.lemmas.List.Sums.{sum_by-cons}
use Rattle.spec_data.specs.Lists.{has_number, are_distinct, first_reason, NoneTrue, or_else}
use Rattle.spec_bitcoin.specs.declared.tx.TxIn.{TxIn}
use Rattle.spec_bitcoin.specs.declared.tx.TxOut.{TxOut}
use Rattle.spec_bitcoin.specs.declared.tx.Tx.{Tx}
use Rattle.spec_bitcoin.specs.declared.verdict.Verdict.TheVariants as verdicts
use Rattle.spec_bitcoin.specs.Spelling.{is_filled}
use Rattle.spec_bitcoin.specs.Digests.{double, preimage, digest}
use Rattle.spec_bitcoin.specs.Keys.{is_valid, pay_to}
use Rattle.spec_bitcoin.specs.Live.{Entry, same_outpoint, at_place}
use Rattle.spec_bitcoin.specs.Meaning.{script_meaning}
use Rattle.spec_data.specs.Ranges.{max_money, last_height}
use Rattle.spec_bitcoin.specs.Verdict.{has_repeat, first_missing, whole_row, pays_to_script, program_of, script_of, items_of, is_long, input_row, input_refusal, inputs_refusal, refusal_of, spent_number, spent_value, spent_total, total_of, is_not_final, heeds_lock, numbers_from, verdict_for}
use Rattle.spec_compiler.specs.Statements.{IsHash, is_short}
use Rattle.spec_compiler.specs.declared.unsigned.Spent.{Spent}
use Rattle.spec_compiler.specs.declared.unsigned.Unsigned.{Unsigned}
use Rattle.spec_compiler.specs.Transactions.{input_of, tx_of, digest_of_spent}
use Rattle.spec_run.specs.Setup.{Setup}
use Rattle.spec_run.specs.World.{Output, World}
use Rattle.spec_run.specs.Ledger.{live_from, tx_out, chain_of, verdict_in}
use Rattle.spec_run.specs.Firing.{witnessed, with_witnesses}
use Rattle.spec_run.specs.Values.{total_live}
use Rattle.theory_bitcoin.specs.Apart.{bare_input, bare}
use Rattle.theory_calculus.proofs.Names.{bytes_refl}
use Rattle.theory_world.proofs.Same.{place-true, place_refl}
use Rattle.theory_world.proofs.Ledger.Found.{found, StandFor, values_at, value_or_zero}
use Rattle.theory_world.proofs.Ledger.Bare.{preimage-bare}
use Rattle.theory_world.proofs.Ledger.Spend.{spend-all}
use Rattle.theory_world.proofs.Tests.{length_map}

-- ---- witnesses

script-last : (items : List (List ℕ)) (x : List ℕ) → script_of (items ++ x ∷ []) ≡ x
script-last [] x = refl
script-last (a ∷ []) x = refl
script-last (a ∷ b ∷ items) x = script-last (b ∷ items) x

items-before : (items : List (List ℕ)) (x : List ℕ) → items_of (items ++ x ∷ []) ≡ items
items-before [] x = refl
items-before (a ∷ []) x = refl
items-before (a ∷ b ∷ items) x = ap (λ xs. a ∷ xs) (items-before (b ∷ items) x)

filled : (items : List (List ℕ)) (x : List ℕ) → is_filled (items ++ x ∷ []) ≡ true
filled [] x = refl
filled (a ∷ items) x = refl

no_long : (items : List (List ℕ)) → list_all is_short items ≡ true → list_any is_long items ≡ false
no_long [] h = refl
no_long (x ∷ items) h =
    let p = and_parts (is_short x) (list_all is_short items) h in
    let ih = no_long items p.1 in
    let q : is_long x ≡ false = grind (arith, nat_tests, p.0) in
    or_from (is_long x) (list_any is_long items) q ih

-- ---- inputs without their witnesses

bare-witnessed : (is : List TxIn) (us : List (List (List ℕ))) → map bare_input (witnessed is us) ≡ map bare_input is
bare-witnessed [] us = refl
bare-witnessed (i ∷ is) [] = refl
bare-witnessed (i ∷ is) (u ∷ us) = ap (λ xs. bare_input i ∷ xs) (bare-witnessed is us)

pub with-bare : (tx : Tx) (us : List (List (List ℕ))) → bare (with_witnesses tx us) ≡ bare tx
with-bare tx us = let e = bare-witnessed tx.inputs us in λ j. record { version = tx.version; inputs = e j; outputs = tx.outputs; lock = tx.lock }

-- what is signed reads no witness
digest-with : (hash : List ℕ → List ℕ) (tx : Tx) (us : List (List (List ℕ))) (x : Spent) (u : List (List ℕ)) (script : List ℕ) (v : ℕ)
    → digest hash (with_witnesses tx us) (record (input_of x) { witness = u }) script v ≡ digest hash tx (input_of x) script v
digest-with hash tx us x u script v =
    let a = preimage-bare hash (with_witnesses tx us) (record (input_of x) { witness = u }) script v in
    let b = preimage-bare hash tx (input_of x) script v in
    let c : preimage hash (bare (with_witnesses tx us)) (input_of x) script v ≡ preimage hash (bare tx) (input_of x) script v =
    ap (λ t. preimage hash t (input_of x) script v) (with-bare tx us) in
    ap (double hash) (sym a ∙ c ∙ b)

length-witnessed : (is : List TxIn) (us : List (List (List ℕ))) → length (witnessed is us) ≡ length is
length-witnessed [] us = refl
length-witnessed (i ∷ is) [] = refl
length-witnessed (i ∷ is) (u ∷ us) = ap suc (length-witnessed is us)

-- ---- what is ready

-- the live output of this number is what is spent, and the witness opens it
pub record Ready (s : Setup) (w : World) (tx : Tx) (x : Spent) (witness : List (List ℕ)) (n : ℕ) : Type 0 where
  pub output : Output
  pub there : slice_get w.outputs n ≡ Some output
  pub live : output.live ≡ true
  pub outpoint : x.outpoint ≡ output.outpoint
  pub value : x.value ≡ output.value
  pub pays : output.script ≡ pay_to (s.hash x.script)
  pub items : List (List ℕ)
  pub is : witness ≡ items ++ x.script ∷ []
  pub short : list_all is_short items ≡ true
  pub runs : script_meaning s.hash (is_valid w.book (digest_of_spent s.hash tx x)) x.script items ≡ true

abbrev pub AllReady : Setup → World → Tx → List Spent → List (List (List ℕ)) → List ℕ → Type 0
AllReady s w tx [] [] [] = Unit {0}
AllReady s w tx (x ∷ xs) (u ∷ us) (n ∷ ns) = Ready s w tx x u n × AllReady s w tx xs us ns
AllReady s w tx [] [] (n ∷ ns) = ⊥
AllReady s w tx [] (u ∷ us) ns = ⊥
AllReady s w tx (x ∷ xs) [] ns = ⊥
AllReady s w tx (x ∷ xs) (u ∷ us) [] = ⊥

-- what these are worth
abbrev pub worth : List Spent → ℕ
worth [] = 0
worth (x ∷ xs) = x.value + worth xs

pub none_reason : {R : Type 0} (row : List (Bool × R)) → NoneTrue row → first_reason row ≡ None
none_reason [] h = refl
none_reason (p ∷ ps) h = rw h.0 (none_reason ps h.1)

-- ---- live outputs are found

some_entry : (os : List Output) (k n : ℕ) (o : Output) → slice_get os n ≡ Some o → o.live ≡ true → is_some (at_place (live_from k os) o.outpoint) ≡ true
some_entry [] k n o h l = cc
some_entry (x ∷ os) k zero o h l =
    let e : x ≡ o = cc in
    let a : x.live ≡ true = ap (λ (y : Output). y.live) e ∙ l in
    let b : same_outpoint o.outpoint x.outpoint ≡ true = subst (λ (y : Output). same_outpoint o.outpoint y.outpoint ≡ true) (sym e) (place_refl o.outpoint) in
    rw (a, b) refl
some_entry (x ∷ os) k (suc n) o h l = by_live x.live (some_entry os (k + 1) n o h l)
  where
    by_place : (b : Bool) → is_some (at_place (live_from (k + 1) os) o.outpoint) ≡ true
        → is_some (cond b (Some (k, tx_out x)) (at_place (live_from (k + 1) os) o.outpoint)) ≡ true
    by_place true ih = refl
    by_place false ih = ih

    by_live : (b : Bool) → is_some (at_place (live_from (k + 1) os) o.outpoint) ≡ true
        → is_some (at_place (if b then (x.outpoint, (k, tx_out x)) ∷ live_from (k + 1) os else live_from (k + 1) os) o.outpoint) ≡ true
    by_live true ih = by_place (same_outpoint o.outpoint x.outpoint) ih
    by_live false ih = ih

-- the entry of a live output
pub live_entry : (w : World) → ((m n : ℕ) (o p : Output) → slice_get w.outputs m ≡ Some o → slice_get w.outputs n ≡ Some p → o.outpoint ≡ p.outpoint → m ≡ n)
    → (n : ℕ) (o : Output) → slice_get w.outputs n ≡ Some o → o.live ≡ true → at_place (live_from 0 w.outputs) o.outpoint ≡ Some (n, tx_out o)
live_entry w apart n o h l = by_entry (at_place (live_from 0 w.outputs) o.outpoint) refl (some_entry w.outputs 0 n o h l)
  where
    by_entry : (r : Option (ℕ × TxOut)) → at_place (live_from 0 w.outputs) o.outpoint ≡ r → is_some r ≡ true → r ≡ Some (n, tx_out o)
    by_entry None e q = cc
    by_entry (Some q) e x =
        let f = found w.outputs o.outpoint 0 q e in
        let m : n ≡ f.number = apart n f.number o f.output h f.there (place-true o.outpoint f.output.outpoint f.here) in
        let c : q.0 ≡ n = let y = f.counted in omega (arith, y, m) in
        let g : Some f.output ≡ Some o = sym f.there ∙ sym (ap (slice_get w.outputs) m) ∙ h in
        let u : f.output ≡ o = cc in
        let v : q.1 ≡ tx_out o = f.same ∙ ap tx_out u in
        λ j. Some (c j, v j)

module _ (s : Setup) (w : World) (size : IsHash s.hash)
    (apart : (m n : ℕ) (o p : Output) → slice_get w.outputs m ≡ Some o → slice_get w.outputs n ≡ Some p → o.outpoint ≡ p.outpoint → m ≡ n) where
  live : List Entry
  live = live_from 0 w.outputs

  module _ (tx : Tx) (x : Spent) (u : List (List ℕ)) (n : ℕ) (r : Ready s w tx x u n) where
    here : at_place (live_from 0 w.outputs) x.outpoint ≡ Some (n, tx_out r.output)
    here = subst (λ p. at_place (live_from 0 w.outputs) p ≡ Some (n, tx_out r.output)) (sym r.outpoint) (live_entry w apart n r.output r.there r.live)

    input_fine : (us : List (List (List ℕ))) (k : ℕ)
        → first_reason (input_row s.hash w.book (with_witnesses tx us) k (record (input_of x) { witness = u }) (tx_out r.output)) ≡ None
    input_fine us k =
        let i = record (input_of x) { witness = u } in
        let l : script_of u ≡ x.script = ap script_of r.is ∙ script-last r.items x.script in
        let m : items_of u ≡ r.items = ap items_of r.is ∙ items-before r.items x.script in
        let f : is_filled u ≡ true = ap is_filled r.is ∙ filled r.items x.script in
        let z : length (s.hash x.script) ≡ 32 = size x.script in
        let p : pays_to_script r.output.script ≡ true = ap pays_to_script r.pays ∙ eq-eqb (length (s.hash x.script)) 32 z in
        let h : bytes_eq (s.hash (script_of u)) (program_of r.output.script) ≡ true =
        (λ j. bytes_eq (s.hash (l j)) (program_of (r.pays j))) ∙ bytes_refl (s.hash x.script) in
        let d : digest s.hash (with_witnesses tx us) i (script_of u) r.output.value ≡ digest_of_spent s.hash tx x =
        (λ j. digest s.hash (with_witnesses tx us) i (l j) (sym r.value j)) ∙ digest-with s.hash tx us x u x.script x.value in
        let t : script_meaning s.hash (is_valid w.book (digest s.hash (with_witnesses tx us) i (script_of u) r.output.value))
        (script_of u) (items_of u) ≡ true =
        (λ j. script_meaning s.hash (is_valid w.book (d j)) (l j) (m j)) ∙ r.runs in
        let a : list_any is_long (items_of u) ≡ false = ap (list_any is_long) m ∙ no_long r.items r.short in
        let b : (pays_to_script r.output.script && is_filled u) ≡ true = and_from _ _ p f in
        none_reason (input_row s.hash w.book (with_witnesses tx us) k i (tx_out r.output)) (refl, (ap not b, (ap not h, (a, (ap not t, tt)))))

  -- no input is refused
  inputs_fine : (tx : Tx) (xs : List Spent) (us : List (List (List ℕ))) (ns : List ℕ) (all : List (List (List ℕ))) (k : ℕ) → AllReady s w tx xs us ns
      → inputs_refusal s.hash w.book (live_from 0 w.outputs) (with_witnesses tx all) k (witnessed (map input_of xs) us) ≡ None
  inputs_fine tx [] us ns all k h = refl
  inputs_fine tx (x ∷ xs) [] ns all k h = absurd h
  inputs_fine tx (x ∷ xs) (u ∷ us) [] all k h = absurd h
  inputs_fine tx (x ∷ xs) (u ∷ us) (n ∷ ns) all k h =
      let e : input_refusal s.hash w.book (live_from 0 w.outputs) (with_witnesses tx all) k (record (input_of x) { witness = u }) ≡ None =
      ap (option_and_then (λ p. first_reason (input_row s.hash w.book (with_witnesses tx all) k (record (input_of x) { witness = u }) p.1)))
      (here tx x u n h.0) ∙ input_fine tx x u n h.0 all k in
      rw e (inputs_fine tx xs us ns all (k + 1) h.1)

  none_missing : (tx : Tx) (xs : List Spent) (us : List (List (List ℕ))) (ns : List ℕ) (k : ℕ) → AllReady s w tx xs us ns
      → position_from (λ i. not (is_some (at_place (live_from 0 w.outputs) i.prev))) k (witnessed (map input_of xs) us) ≡ None
  none_missing tx [] us ns k h = refl
  none_missing tx (x ∷ xs) [] ns k h = absurd h
  none_missing tx (x ∷ xs) (u ∷ us) [] k h = absurd h
  none_missing tx (x ∷ xs) (u ∷ us) (n ∷ ns) k h = rw (here tx x u n h.0) (none_missing tx xs us ns (k + 1) h.1)

  numbers : (tx : Tx) (xs : List Spent) (us : List (List (List ℕ))) (ns : List ℕ) → AllReady s w tx xs us ns
      → map (spent_number (live_from 0 w.outputs)) (witnessed (map input_of xs) us) ≡ ns
  numbers tx [] [] [] h = refl
  numbers tx [] [] (n ∷ ns) h = absurd h
  numbers tx [] (u ∷ us) ns h = absurd h
  numbers tx (x ∷ xs) [] ns h = absurd h
  numbers tx (x ∷ xs) (u ∷ us) [] h = absurd h
  numbers tx (x ∷ xs) (u ∷ us) (n ∷ ns) h =
      let e : spent_number (live_from 0 w.outputs) (record (input_of x) { witness = u }) ≡ n = ap (λ q. option_map_or (λ p. p.0) q 0) (here tx x u n h.0) in
      let f = numbers tx xs us ns h.1 in
      λ j. e j ∷ f j

  spent_worth : (tx : Tx) (xs : List Spent) (us : List (List (List ℕ))) (ns : List ℕ) → AllReady s w tx xs us ns
      → spent_total (live_from 0 w.outputs) (witnessed (map input_of xs) us) ≡ worth xs
  spent_worth tx [] us ns h = refl
  spent_worth tx (x ∷ xs) [] ns h = absurd h
  spent_worth tx (x ∷ xs) (u ∷ us) [] h = absurd h
  spent_worth tx (x ∷ xs) (u ∷ us) (n ∷ ns) h =
      let i : TxIn = record (input_of x) { witness = u } in
      let e : spent_value (live_from 0 w.outputs) i ≡ x.value = ap (λ q. option_map_or (λ p. p.1.value) q 0) (here tx x u n h.0) ∙ sym h.0.value in
      let f = spent_worth tx xs us ns h.1 in
      sum_by-cons (spent_value (live_from 0 w.outputs)) i (witnessed (map input_of xs) us) ∙ (λ j. e j + f j)

  stand : (tx : Tx) (xs : List Spent) (us : List (List (List ℕ))) (ns : List ℕ) → AllReady s w tx xs us ns
      → StandFor w.outputs ns (witnessed (map input_of xs) us)
  stand tx [] [] [] h = tt
  stand tx [] [] (n ∷ ns) h = absurd h
  stand tx [] (u ∷ us) ns h = absurd h
  stand tx (x ∷ xs) [] ns h = absurd h
  stand tx (x ∷ xs) (u ∷ us) [] h = absurd h
  stand tx (x ∷ xs) (u ∷ us) (n ∷ ns) h =
      let a : (h.0.output.live && same_outpoint x.outpoint h.0.output.outpoint) ≡ true =
      and_from _ _ h.0.live (subst (λ p. same_outpoint p h.0.output.outpoint ≡ true) (sym h.0.outpoint) (place_refl h.0.output.outpoint)) in
      (rw h.0.there a, stand tx xs us ns h.1)

  values_worth : (tx : Tx) (xs : List Spent) (us : List (List (List ℕ))) (ns : List ℕ) → AllReady s w tx xs us ns → values_at w.outputs ns ≡ worth xs
  values_worth tx [] [] [] h = refl
  values_worth tx [] [] (n ∷ ns) h = absurd h
  values_worth tx [] (u ∷ us) ns h = absurd h
  values_worth tx (x ∷ xs) [] ns h = absurd h
  values_worth tx (x ∷ xs) (u ∷ us) [] h = absurd h
  values_worth tx (x ∷ xs) (u ∷ us) (n ∷ ns) h =
      let e : value_or_zero (slice_get w.outputs n) ≡ x.value = ap value_or_zero h.0.there ∙ sym h.0.value in
      let f = values_worth tx xs us ns h.1 in
      λ j. e j + f j

  -- the place of one isn't that of another with another number
  no_place : (tx : Tx) (n : ℕ) (o : Output) (xs : List Spent) (us : List (List (List ℕ))) (ns : List ℕ) → slice_get w.outputs n ≡ Some o
      → AllReady s w tx xs us ns → has_number n ns ≡ false
      → list_any (λ (j : TxIn). same_outpoint j.prev o.outpoint) (witnessed (map input_of xs) us) ≡ false
  no_place tx n o [] us ns e h d = refl
  no_place tx n o (x ∷ xs) [] ns e h d = absurd h
  no_place tx n o (x ∷ xs) (u ∷ us) [] e h d = absurd h
  no_place tx n o (x ∷ xs) (u ∷ us) (m ∷ ms) e h d =
      by_test (same_outpoint x.outpoint o.outpoint) refl (no_place tx n o xs us ms e h.1 (or_parts (m == n) (has_number n ms) d).1)
    where
      by_test : (b : Bool) → same_outpoint x.outpoint o.outpoint ≡ b
          → list_any (λ (j : TxIn). same_outpoint j.prev o.outpoint) (witnessed (map input_of xs) us) ≡ false
          → (b || list_any (λ (j : TxIn). same_outpoint j.prev o.outpoint) (witnessed (map input_of xs) us)) ≡ false
      by_test true q ih =
          let p : h.0.output.outpoint ≡ o.outpoint = sym h.0.outpoint ∙ place-true x.outpoint o.outpoint q in
          let z : m ≡ n = apart m n h.0.output o h.0.there e p in
          let y : (m == n) ≡ true = eq-eqb m n z in
          absurd (both_ways _ (or_parts (m == n) (has_number n ms) d).0 y)
      by_test false q ih = ih

  no_repeat : (tx : Tx) (xs : List Spent) (us : List (List (List ℕ))) (ns : List ℕ) → AllReady s w tx xs us ns → are_distinct ns ≡ true
      → has_repeat (witnessed (map input_of xs) us) ≡ false
  no_repeat tx [] us ns h d = refl
  no_repeat tx (x ∷ xs) [] ns h d = absurd h
  no_repeat tx (x ∷ xs) (u ∷ us) [] h d = absurd h
  no_repeat tx (x ∷ xs) (u ∷ us) (n ∷ ns) h d =
      let p = and_parts (not (has_number n ns)) (are_distinct ns) d in
      let a = no_place tx n h.0.output xs us ns h.0.there h.1 (not-true (has_number n ns) p.0) in
      let b : list_any (λ (j : TxIn). same_outpoint j.prev x.outpoint) (witnessed (map input_of xs) us) ≡ false =
      subst (λ q. list_any (λ (j : TxIn). same_outpoint j.prev q) (witnessed (map input_of xs) us) ≡ false) (sym h.0.outpoint) a in
      or_from _ _ b (no_repeat tx xs us ns h.1 p.1)

  -- all that the ledger asks of a compiled transaction
  pub record Asked (d : Unsigned) (us : List (List (List ℕ))) (ns : List ℕ) : Type 0 where
    pub ready : AllReady s w (tx_of d) d.spends us ns
    pub distinct : are_distinct ns ≡ true
    pub some : 0 < length d.spends
    pub makes : 0 < length d.outputs
    pub enough : total_of d.outputs ≤ worth d.spends
    pub money : total_live w.outputs ≤ max_money
    pub reached : d.lock ≤ w.tip
    pub height : w.tip ≤ last_height

  pub accepts : (d : Unsigned) (us : List (List (List ℕ))) (ns : List ℕ) → Asked d us ns
      → verdict_in s w (with_witnesses (tx_of d) us) ≡ verdicts.Accepted ns (numbers_from (length w.outputs) d.outputs)
  accepts d us ns a =
      let tx = with_witnesses (tx_of d) us in
      let is = witnessed (map input_of d.spends) us in
      let li : length is ≡ length d.spends = length-witnessed (map input_of d.spends) us ∙ length_map input_of d.spends in
      let all = spend-all w.outputs ns is (stand (tx_of d) d.spends us ns a.ready) a.distinct in
      let v = values_worth (tx_of d) d.spends us ns a.ready in
      let t = spent_worth (tx_of d) d.spends us ns a.ready in
      let c1 : (length is == 0) ≡ false = ne_eqb (length is) 0 (λ e. let z = a.some in omega (arith, li, z, e)) in
      let c2 : (length d.outputs == 0) ≡ false = ne_eqb (length d.outputs) 0 (λ e. let z = a.makes in omega (arith, z, e)) in
      let c3 = no_repeat (tx_of d) d.spends us ns a.ready a.distinct in
      let c4 : is_some (first_missing (live_from 0 w.outputs) is) ≡ false = ap is_some (none_missing (tx_of d) d.spends us ns 0 a.ready) in
      let c5 : nat_lt max_money (total_of d.outputs) ≡ false =
      let x = a.money in let y = a.enough in not_less max_money (total_of d.outputs) (omega (arith, all, v, x, y)) in
      let c6 : nat_lt (spent_total (live_from 0 w.outputs) is) (total_of d.outputs) ≡ false =
      let y = a.enough in not_less (spent_total (live_from 0 w.outputs) is) (total_of d.outputs) (omega (arith, t, y)) in
      let c7 : is_not_final w.tip tx ≡ false =
      final d.lock is (not_less w.tip d.lock a.reached) (let x = a.reached in let y = a.height in not_less last_height d.lock (omega (arith, x, y))) in
      let whole = none_reason (whole_row w.tip (live_from 0 w.outputs) tx) (c1, (c2, (c3, (c4, (c5, (c6, (c7, tt))))))) in
      let none : refusal_of s.hash w.book w.tip (live_from 0 w.outputs) tx ≡ None =
      (λ j. or_else (whole j) (inputs_refusal s.hash w.book (live_from 0 w.outputs) tx 0 is)) ∙ inputs_fine (tx_of d) d.spends us ns us 0 a.ready in
      let n = numbers (tx_of d) d.spends us ns a.ready in
      ap (verdict_for (chain_of w) tx) none ∙ ap (λ ks. verdicts.Accepted ks (numbers_from (length w.outputs) d.outputs)) n
    where
      not_less : (m n : ℕ) → n ≤ m → nat_lt m n ≡ false
      not_less m n h = grind (arith, nat_tests, h)

      by_tests : (a b c d : Bool) → c ≡ false → d ≡ false → (a && (b && (c || d))) ≡ false
      by_tests a b c d p q = grind (arith, p, q)

      final : (lock : ℕ) (is : List TxIn) → nat_lt w.tip lock ≡ false → nat_lt last_height lock ≡ false
          → (heeds_lock is && (not (lock == 0) && (nat_lt w.tip lock || nat_lt last_height lock))) ≡ false
      final lock is p q = by_tests (heeds_lock is) (not (lock == 0)) (nat_lt w.tip lock) (nat_lt last_height lock) p q
