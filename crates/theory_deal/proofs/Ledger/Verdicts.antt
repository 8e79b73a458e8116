-- Whatever judges the signatures, the verdict accepts a transaction whose inputs open what is live.
use Rattle.std.proofs.Common.{◌≡◌, ℕ, suc, ◌+◌, ◌<◌, ◌≤◌, List, [], ◌∷◌, length, map, Bool, true, false, not, Option, Some, None}
use Rattle.std.proofs.Common.{refl, sym, ap, ◌∙◌, subst, arith, inl, inr}
use Rattle.std.specs.Prelude.{◌==◌, ◌&&◌, ◌||◌, is_some, nat_lt, sum_by}
use Rattle.std.specs.List.{list_all, list_any, position_from}
use Rattle.std.specs.Option.{option_map, option_map_or, option_and_then}
use Rattle.std.specs.Str.{bytes_eq}
use Rattle.std.proofs.lemmas.Bool.{and_parts, and_from, or_from, eq-eqb, ne_eqb}
use Rattle.std.proofs.lemmas.Bool.Decides.{nat_tests}
use Rattle.std.proofs.lemmas.List.Sums.{sum_by-cons}
use Rattle.spec_data.specs.Hashes.{IsHash}
use Rattle.spec_data.specs.Lists.{first_reason, or_else}
use Rattle.spec_data.specs.Ranges.{max_money, last_height}
use Rattle.spec_bitcoin.specs.declared.tx.TxIn.{TxIn}
use Rattle.spec_bitcoin.specs.declared.tx.TxOut.{TxOut}
use Rattle.spec_bitcoin.specs.declared.verdict.Refusal.TheVariants.{NotFinal}
use Rattle.spec_bitcoin.specs.declared.verdict.Verdict.TheVariants.{Refused}
use Rattle.spec_bitcoin.specs.Live.{Entry, Chain, same_outpoint, at_place}
use Rattle.spec_bitcoin.specs.Meaning.{script_meaning}
use Rattle.spec_bitcoin.specs.Scripts.{ops_of}
use Rattle.spec_bitcoin.specs.Spelling.{is_filled}
use Rattle.spec_bitcoin.specs.Verdict.{has_repeat, first_missing, total_of, spent_value, spent_total, heeds_lock, is_not_final}
use Rattle.spec_bitcoin.specs.Verdict.{whole_row, pays_to_script, program_of, script_of, items_of, is_long, verdict_for}
use Rattle.spec_compiler.specs.declared.unsigned.Spent.{Spent}
use Rattle.spec_compiler.specs.declared.unsigned.Unsigned.{Unsigned}
use Rattle.spec_compiler.specs.Keyed.Statements.{is_short}
use Rattle.spec_compiler.specs.Keyed.Transactions.{input_of, tx_of, pays}
use Rattle.spec_run.specs.Firing.{witnessed, with_witnesses}
use Rattle.theory_calculus.specs.Members.{Is_in}
use Rattle.theory_calculus.proofs.Members.{contains_from_in}
use Rattle.theory_calculus.proofs.Names.{bytes_refl}
use Rattle.theory_world.proofs.Ledger.Acceptable.{none_reason}
use Rattle.theory_deal.specs.Finished.{Oracle, AllOpen}
use Rattle.theory_deal.specs.Accepted.{judged_row, judged_input, judged_inputs, judged_refusal, judged_verdict, output_at, AreLive}
use Rattle.theory_deal.specs.Accepted.{accepted_on}

-- ---- witnesses

-- no item before a script is too long
pub no_long : (items : List (List ℕ)) → list_all is_short items ≡ true → list_any is_long items ≡ false
no_long [] h = refl
no_long (x ∷ items) h =
    let p = and_parts (is_short x) (list_all is_short items) h in
    let one : is_long x ≡ false = grind (arith, nat_tests, p.0) in
    or_from (is_long x) (list_any is_long items) one (no_long items p.1)

-- the empty script is false on no item
empty_false : (hash : List ℕ → List ℕ) (valid : List ℕ → List ℕ → Bool) → script_meaning hash valid [] [] ≡ false
unfolding script_meaning ops_of
empty_false hash valid = refl

-- so a witness on which a script is true has an item
pub open_filled : (hash : List ℕ → List ℕ) (valid : List ℕ → List ℕ → Bool) (script : List ℕ) (witness : List (List ℕ))
    → script_of witness ≡ script → script_meaning hash valid script (items_of witness) ≡ true → is_filled witness ≡ true
open_filled hash valid script [] e h =
    let f = subst (λ (x : List ℕ). script_meaning hash valid x [] ≡ true) (sym e) h in
    let g = empty_false hash valid in
    cc
open_filled hash valid script (x ∷ items) e h = refl

-- the items of each witness but its script
abbrev pub AllShort : List (List (List ℕ)) → Type 0
AllShort [] = Unit {0}
AllShort (witness ∷ others) = (list_all is_short (items_of witness) ≡ true) × AllShort others

-- ---- inputs

-- without witnesses inputs stay as they are
pub as_they_are : (is : List TxIn) → witnessed is [] ≡ is
as_they_are [] = refl
as_they_are (i ∷ is) = refl

-- what lies where each of these is spent is the plan's
abbrev pub Lie : (List ℕ → List ℕ) → List Entry → List Spent → Type 0
Lie hash live [] = Unit {0}
Lie hash live (x ∷ xs) = (output_at live x.outpoint ≡ Some (pays hash x.script x.value)) × Lie hash live xs

they_lie : (hash : List ℕ → List ℕ) (live : List Entry) (xs : List Spent)
    → ((x : Spent) → Is_in x xs → output_at live x.outpoint ≡ Some (pays hash x.script x.value)) → Lie hash live xs
they_lie hash live [] h = tt
they_lie hash live (x ∷ xs) h = (h x (inl refl), they_lie hash live xs (λ y i. h y (inr i)))

pub lie_of : (hash : List ℕ → List ℕ) (live : List Entry) (xs : List Spent) → AreLive hash live xs → Lie hash live xs
lie_of hash live xs h = they_lie hash live xs (λ x i. h x (contains_from_in xs x i))

module _ (hash : List ℕ → List ℕ) (live : List Entry) where
  -- the entry of what lies there
  pub record Lies (x : Spent) : Type 0 where
    pub number : ℕ
    pub entry : at_place live x.outpoint ≡ Some (number, pays hash x.script x.value)

  pub lies : (x : Spent) → output_at live x.outpoint ≡ Some (pays hash x.script x.value) → Lies x
  lies x h = by_entry (at_place live x.outpoint) refl h
    where
      by_entry : (o : Option (ℕ × TxOut)) → at_place live x.outpoint ≡ o → option_map (λ (p : ℕ × TxOut). p.1) o ≡ Some (pays hash x.script x.value)
          → Lies x
      by_entry None e k = cc
      by_entry (Some p) e k =
          let same : p.1 ≡ pays hash x.script x.value = cc in
          record { number = p.0; entry = e ∙ (λ i. Some (p.0, same i)) }

  module _ (size : IsHash hash) (oracle : Oracle) where
    one_fine : (k : ℕ) (x : Spent) (witness : List (List ℕ)) → Lies x → script_of witness ≡ x.script
        → script_meaning hash (oracle k) x.script (items_of witness) ≡ true → list_all is_short (items_of witness) ≡ true
        → judged_input hash oracle live k (record (input_of x) { witness = witness }) ≡ None
    one_fine k x witness l script opens short =
        let i = record (input_of x) { witness = witness } in
        let output = pays hash x.script x.value in
        let program : pays_to_script output.script ≡ true = eq-eqb (length (hash x.script)) 32 (size x.script) in
        let filled = open_filled hash (oracle k) x.script witness script opens in
        let both : (pays_to_script output.script && is_filled witness) ≡ true = and_from _ _ program filled in
        let match : bytes_eq (hash (script_of witness)) (program_of output.script) ≡ true =
        ap (λ (s : List ℕ). bytes_eq (hash s) (hash x.script)) script ∙ bytes_refl (hash x.script) in
        let true_one : script_meaning hash (oracle k) (script_of witness) (items_of witness) ≡ true =
        ap (λ (s : List ℕ). script_meaning hash (oracle k) s (items_of witness)) script ∙ opens in
        ap (option_and_then (λ p. first_reason (judged_row hash oracle k i p.1))) l.entry
        ∙ none_reason (judged_row hash oracle k i output)
        (refl, (ap not both, (ap not match, (no_long (items_of witness) short, (ap not true_one, tt)))))

    -- no input is refused
    inputs_fine : (k : ℕ) (xs : List Spent) (ws : List (List (List ℕ))) → Lie hash live xs → AllOpen hash oracle k xs ws → AllShort ws
        → judged_inputs hash oracle live k (witnessed (map input_of xs) ws) ≡ None
    inputs_fine k [] [] h o s = refl
    inputs_fine k [] (w ∷ ws) h o s = absurd o
    inputs_fine k (x ∷ xs) [] h o s = absurd o
    inputs_fine k (x ∷ xs) (w ∷ ws) h o s =
        let one = one_fine k x w (lies x h.0) o.0 o.1 s.0 in
        rw one (inputs_fine (k + 1) xs ws h.1 o.2 s.1)

  none_missing : (k : ℕ) (xs : List Spent) (ws : List (List (List ℕ))) → Lie hash live xs
      → position_from (λ i. not (is_some (at_place live i.prev))) k (witnessed (map input_of xs) ws) ≡ None
  none_missing k [] ws h = refl
  none_missing k (x ∷ xs) [] h =
      let l = lies x h.0 in
      let later = subst (λ (is : List TxIn). position_from (λ i. not (is_some (at_place live i.prev))) (k + 1) is ≡ None)
      (as_they_are (map input_of xs)) (none_missing (k + 1) xs [] h.1) in
      rw l.entry later
  none_missing k (x ∷ xs) (w ∷ ws) h = let l = lies x h.0 in rw l.entry (none_missing (k + 1) xs ws h.1)

  abbrev pub worth : List Spent → ℕ
  worth xs = sum_by (λ x. x.value) xs

  pub one_worth : (x : Spent) (i : TxIn) → i.prev ≡ x.outpoint → Lies x → spent_value live i ≡ x.value
  one_worth x i e l =
      ap (λ place. option_map_or (λ (p : ℕ × TxOut). p.1.value) (at_place live place) 0) e
      ∙ ap (λ (o : Option (ℕ × TxOut)). option_map_or (λ p. p.1.value) o 0) l.entry

  spent_worth : (xs : List Spent) (ws : List (List (List ℕ))) → Lie hash live xs
      → spent_total live (witnessed (map input_of xs) ws) ≡ worth xs
  spent_worth [] ws h = refl
  spent_worth (x ∷ xs) [] h =
      let one = one_worth x (input_of x) refl (lies x h.0) in
      let later = ap (spent_total live) (sym (as_they_are (map input_of xs))) ∙ spent_worth xs [] h.1 in
      sum_by-cons (spent_value live) (input_of x) (map input_of xs)
      ∙ (λ i. one i + later i) ∙ sym (sum_by-cons (λ (y : Spent). y.value) x xs)
  spent_worth (x ∷ xs) (w ∷ ws) h =
      let first = record (input_of x) { witness = w } in
      let one = one_worth x first refl (lies x h.0) in
      let later = spent_worth xs ws h.1 in
      sum_by-cons (spent_value live) first (witnessed (map input_of xs) ws)
      ∙ (λ i. one i + later i) ∙ sym (sum_by-cons (λ (y : Spent). y.value) x xs)

-- ---- witnesses change no other part of an input

as_many : (is : List TxIn) (ws : List (List (List ℕ))) → length (witnessed is ws) ≡ length is
as_many [] ws = refl
as_many (i ∷ is) [] = refl
as_many (i ∷ is) (w ∷ ws) = ap suc (as_many is ws)

same_place : (place : TxIn) (is : List TxIn) (ws : List (List (List ℕ)))
    → list_any (λ j. same_outpoint j.prev place.prev) (witnessed is ws) ≡ list_any (λ j. same_outpoint j.prev place.prev) is
same_place place [] ws = refl
same_place place (i ∷ is) [] = refl
same_place place (i ∷ is) (w ∷ ws) = ap (λ (b : Bool). same_outpoint i.prev place.prev || b) (same_place place is ws)

pub same_repeat : (is : List TxIn) (ws : List (List (List ℕ))) → has_repeat (witnessed is ws) ≡ has_repeat is
same_repeat [] ws = refl
same_repeat (i ∷ is) [] = refl
same_repeat (i ∷ is) (w ∷ ws) = λ j. same_place i is ws j || same_repeat is ws j

-- a lock binds the inputs of a plan, where there is one
pub heeds : (xs : List Spent) (ws : List (List (List ℕ))) → 0 < length xs → heeds_lock (witnessed (map input_of xs) ws) ≡ true
heeds [] ws h = absurd (omega (arith, h))
heeds (x ∷ xs) [] h = refl
heeds (x ∷ xs) (w ∷ ws) h = refl

pub many : (xs : List Spent) (ws : List (List (List ℕ))) → length (witnessed (map input_of xs) ws) ≡ length xs
many xs ws = as_many (map input_of xs) ws ∙ all xs
  where
    all : (ys : List Spent) → length (map input_of ys) ≡ length ys
    all [] = refl
    all (y ∷ ys) = ap suc (all ys)

-- ---- the whole

-- it spends and makes something, pays no more than it spends and than there is, and its lock is a height
pub record IsFunded (d : Unsigned) : Type 0 where
  pub some : 0 < length d.spends
  pub makes : 0 < length d.outputs
  pub enough : total_of d.outputs ≤ sum_by (λ x. x.value) d.spends
  pub money : total_of d.outputs ≤ max_money
  pub height : d.lock ≤ last_height

-- what the conditions on the whole transaction ask
pub record IsWhole (d : Unsigned) : Type 0 where
  pub funded : IsFunded d
  pub apart : has_repeat (map input_of d.spends) ≡ false

pub not_less : (m n : ℕ) → n ≤ m → nat_lt m n ≡ false
not_less m n h = grind (arith, nat_tests, h)

pub is_less : (m n : ℕ) → m < n → nat_lt m n ≡ true
is_less m n h = grind (arith, nat_tests, h)

pub by_tests : (a b c d : Bool) → c ≡ false → d ≡ false → (a && (b && (c || d))) ≡ false
by_tests a b c d p q = grind (arith, p, q)

module _ (hash : List ℕ → List ℕ) (oracle : Oracle) (chain : Chain) (d : Unsigned) (ws : List (List (List ℕ))) (w : IsWhole d)
    (live : AreLive hash chain.live d.spends) where
  there : Lie hash chain.live d.spends
  there = lie_of hash chain.live d.spends live

  abbrev is : List TxIn
  is = witnessed (map input_of d.spends) ws

  some_input : (length is == 0) ≡ false
  some_input = let n = many d.spends ws in ne_eqb (length is) 0 (λ e. let z = w.funded.some in omega (arith, n, z, e))

  some_output : (length d.outputs == 0) ≡ false
  some_output = ne_eqb (length d.outputs) 0 (λ e. let z = w.funded.makes in omega (arith, z, e))

  none_twice : has_repeat is ≡ false
  none_twice = same_repeat (map input_of d.spends) ws ∙ w.apart

  all_there : is_some (first_missing chain.live is) ≡ false
  all_there = ap is_some (none_missing hash chain.live 0 d.spends ws there)

  not_much : nat_lt max_money (total_of d.outputs) ≡ false
  not_much = not_less max_money (total_of d.outputs) w.funded.money

  paid : nat_lt (spent_total chain.live is) (total_of d.outputs) ≡ false
  paid =
      let t = spent_worth hash chain.live d.spends ws there in
      let e = w.funded.enough in
      not_less (spent_total chain.live is) (total_of d.outputs) (omega (arith, t, e))

  -- from the lock on, the verdict accepts what opens
  pub accepts_open : IsHash hash → d.lock ≤ chain.tip → AllOpen hash oracle 0 d.spends ws → AllShort ws
      → judged_verdict hash oracle chain (with_witnesses (tx_of d) ws) ≡ accepted_on chain (with_witnesses (tx_of d) ws)
  accepts_open size reached opens short =
      let tx = with_witnesses (tx_of d) ws in
      let final : is_not_final chain.tip tx ≡ false =
      by_tests (heeds_lock is) (not (d.lock == 0)) (nat_lt chain.tip d.lock) (nat_lt last_height d.lock)
      (not_less chain.tip d.lock reached) (not_less last_height d.lock w.funded.height) in
      let whole = none_reason (whole_row chain.tip chain.live tx)
      (some_input, (some_output, (none_twice, (all_there, (not_much, (paid, (final, tt))))))) in
      let inputs = inputs_fine hash chain.live size oracle 0 d.spends ws there opens short in
      let none : judged_refusal hash oracle chain.tip chain.live tx ≡ None =
      (λ j. or_else (whole j) (judged_inputs hash oracle chain.live 0 is)) ∙ inputs in
      ap (verdict_for chain tx) none

  -- before it, it is refused for its lock
  pub refuses_early : chain.tip < d.lock → judged_verdict hash oracle chain (with_witnesses (tx_of d) ws) ≡ Refused NotFinal
  refuses_early early =
      let tx = with_witnesses (tx_of d) ws in
      let locked : not (d.lock == 0) ≡ true = ap not (ne_eqb d.lock 0 (λ e. omega (arith, early, e))) in
      let less = is_less chain.tip d.lock early in
      let binds = heeds d.spends ws w.funded.some in
      let bound : is_not_final chain.tip tx ≡ true = rw (binds, locked, less) refl in
      let row : first_reason (whole_row chain.tip chain.live tx) ≡ Some NotFinal =
      rw (some_input, some_output, none_twice, all_there, not_much, paid, bound) refl in
      ap (λ r. verdict_for chain tx (or_else r (judged_inputs hash oracle chain.live 0 is))) row
