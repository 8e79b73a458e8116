-- What a transaction of a contract spends beside the contract are the outputs that its deposits are bound to.
use Rattle.std.proofs.Common.{◌≡◌, ℕ, ◌+◌, List, [], ◌∷◌, map, true, Option, Some, None, refl, sym, ap, ◌∙◌, subst, inl, inr}
use Rattle.std.specs.Prelude.{slice_get}
use Rattle.std.specs.List.{list_all}
use Rattle.std.specs.Option.{is_none}
use Rattle.std.proofs.lemmas.Bool.{and_parts, and_from}
use Rattle.spec_data.specs.Lists.{is_among, look_up}
use Rattle.spec_terms.specs.Precondition.{Holding, volatile, deposits, names_of, total_of, value_of, value_of_puts}
use Rattle.spec_terms.specs.declared.pre.Pre.{Pre}
use Rattle.spec_bitcoin.specs.declared.tx.TxIn.{TxIn}
use Rattle.spec_bitcoin.specs.declared.tx.Tx.{Tx}
use Rattle.spec_calculus.specs.Configuration.{Configuration}
use Rattle.spec_calculus.specs.Beginning.{numbers_of, and_then}
use Rattle.spec_compiler.specs.Instance.{Instance}
use Rattle.spec_compiler.specs.Transactions.{input_of, deposit, holding_or_none, put_deposits}
use Rattle.spec_run.specs.Setup.{Setup}
use Rattle.spec_run.specs.World.{Output, World, is_deposit, bindings_at}
use Rattle.spec_run.specs.Owners.{deposit_value}
use Rattle.spec_run.specs.Compiled.{compiled_instance}
use Rattle.spec_run.specs.Steps.{names_deposit}
use Rattle.theory_bitcoin.specs.Apart.{bare_input}
use Rattle.theory_calculus.proofs.Names.{volatile_named}
use Rattle.theory_calculus.specs.Members.{Is_in}
use Rattle.theory_world.proofs.Ledger.Accepting.{AllSpent}
use Rattle.theory_world.proofs.Later.{compiled_is}
use Rattle.theory_run.specs.KeptBook.{KeptBook}
use Rattle.theory_run.proofs.Accepted.WhatItIs.{at_bound}
use Rattle.theory_run.proofs.Steps.Gone.{taken_values}

-- ---- deposits of a precondition

abbrev pub AllIn : List (List ℕ × Holding) → List (List ℕ × Holding) → Type 0
AllIn [] ds = Unit {0}
AllIn (e ∷ es) ds = Is_in e ds × AllIn es ds

pub all_in : (es ds : List (List ℕ × Holding)) → ((e : List ℕ × Holding) → Is_in e es → Is_in e ds) → AllIn es ds
all_in [] ds h = tt
all_in (e ∷ es) ds h = (h e (inl refl), all_in es ds (λ x i. h x (inr i)))

-- the entry of a volatile deposit
abbrev pub volatile_entry : List Pre → List ℕ → List ℕ × Holding
volatile_entry pre name = (name, holding_or_none (look_up name (volatile pre)))

pub entries_named : (pre : List Pre) (names : List (List ℕ)) → names_of (map (volatile_entry pre) names) ≡ names
entries_named pre [] = refl
entries_named pre (n ∷ names) = ap (λ ns. n ∷ ns) (entries_named pre names)

-- it is one of the deposits
pub entry_in : (pre : List Pre) (name : List ℕ) → is_among name (names_of (volatile pre)) ≡ true → Is_in (volatile_entry pre name) (deposits pre)
entry_in pre name h =
    let l = volatile_named pre name h in
    subst (λ o. Is_in (name, holding_or_none o) (deposits pre)) (sym l.1) l.2

pub entries_in : (pre : List Pre) (names : List (List ℕ)) → list_all (λ n. is_among n (names_of (volatile pre))) names ≡ true
    → AllIn (map (volatile_entry pre) names) (deposits pre)
entries_in pre [] h = tt
entries_in pre (n ∷ names) h =
    let p = and_parts (is_among n (names_of (volatile pre))) (list_all (λ m. is_among m (names_of (volatile pre))) names) h in
    (entry_in pre n p.0, entries_in pre names p.1)

pub entries_deposits : (hash : List ℕ → List ℕ) (st : Instance) (names : List (List ℕ)) → put_deposits hash st names
    ≡ map (λ (d : List ℕ × Holding). deposit hash st d.0 d.1) (map (volatile_entry st.advert.pre) names)
entries_deposits hash st [] = refl
entries_deposits hash st (n ∷ names) = ap (λ ds. deposit hash st n (holding_or_none (look_up n (volatile st.advert.pre))) ∷ ds) (entries_deposits hash st names)

pub entries_total : (pre : List Pre) (names : List (List ℕ)) → value_of_puts (volatile pre) names ≡ total_of (map (volatile_entry pre) names)
entries_total pre [] = refl
entries_total pre (n ∷ names) = by_option (look_up n (volatile pre)) (entries_total pre names)
  where
    by_option : (o : Option Holding) → value_of_puts (volatile pre) names ≡ total_of (map (volatile_entry pre) names)
        → value_of o + value_of_puts (volatile pre) names ≡ (holding_or_none o).value + total_of (map (volatile_entry pre) names)
    by_option None e = ap (λ x. 0 + x) e
    by_option (Some h) e = ap (λ x. h.value + x) e

-- ---- numbers

module _ (s : Setup) (g : Configuration)
    (w : World) (kept : KeptBook s g w) (k : ℕ) (st : Instance) (compiled : compiled_instance s w k ≡ Some st) (tx : Tx) where
  abbrev bindings : List (List ℕ × ℕ)
  bindings = bindings_at w.advertised k

  -- these numbers are those of these deposits, which are live
  pub record AreBound (ns : List ℕ) (es : List (List ℕ × Holding)) : Type 0 where
    pub numbers : numbers_of (bindings_at w.advertised k) (names_of es) ≡ ns
    pub live : list_all (λ n. is_deposit (slice_get w.outputs n)) ns ≡ true
    pub there : list_all (λ x. names_deposit w (look_up x (bindings_at w.advertised k))) (names_of es) ≡ true
    pub values : taken_values s w.outputs ns ≡ total_of es

  pub are_bound : (ns : List ℕ) (is : List TxIn) (es : List (List ℕ × Holding)) → AllSpent s w tx ns is → AllIn es (deposits st.advert.pre)
      → map bare_input is ≡ map bare_input (map input_of (map (λ (d : List ℕ × Holding). deposit s.hash st d.0 d.1) es)) → AreBound ns es
  are_bound [] [] [] a j e = record { numbers = refl; live = refl; there = refl; values = refl }
  are_bound [] [] (x ∷ es) a j e = cc
  are_bound [] (i ∷ is) es a j e = absurd a
  are_bound (n ∷ ns) [] es a j e = absurd a
  are_bound (n ∷ ns) (i ∷ is) [] a j e = cc
  are_bound (n ∷ ns) (i ∷ is) (x ∷ es) a j e =
      let first : bare_input i ≡ bare_input (input_of (deposit s.hash st x.0 x.1)) = cc in
      let rest : map bare_input is ≡ map bare_input (map input_of (map (λ (d : List ℕ × Holding). deposit s.hash st d.0 d.1) es)) = cc in
      let ih = are_bound ns is es a.1 j.1 rest in
      let b = at_bound s g w kept k st compiled x.0 x.1 j.0 in
      let sp = a.0 in
      let prev = ap (λ (y : TxIn). y.prev) first in
      let m : n ≡ b.number = kept.apart n b.number sp.output b.bound.output sp.there b.bound.there (sym sp.outpoint ∙ prev ∙ b.outpoint) in
      let o : (let y : Option Output = Some sp.output in y) ≡ Some b.bound.output = sym sp.there ∙ ap (slice_get w.outputs) m ∙ b.bound.there in
      let same : sp.output ≡ b.bound.output = cc in
      let free : sp.output.holds ≡ None = ap (λ (y : Output). y.holds) same ∙ b.bound.free in
      let d : is_deposit (slice_get w.outputs n) ≡ true = ap is_deposit sp.there ∙ and_from _ _ sp.live (ap is_none free) in
      let d' : is_deposit (Some sp.output) ≡ true = and_from _ _ sp.live (ap is_none free) in
      let v : deposit_value (slice_get w.outputs n) ≡ (x.1).value = ap deposit_value sp.there ∙ rw d' (ap (λ (y : Output). y.value) same ∙ b.bound.value) in
      let sc : st.contract ≡ k = ap (λ (y : Instance). y.contract) (compiled_is s w k st compiled).is in
      let l : look_up (x.0) (bindings_at w.advertised k) ≡ Some n =
      subst (λ c. look_up (x.0) (bindings_at w.advertised c) ≡ Some b.number) sc b.looked ∙ ap Some (sym m) in
      record {
        numbers = ap (λ q. and_then q (numbers_of bindings (names_of es))) l ∙ ap (λ q. n ∷ q) ih.numbers;
        live = and_from _ _ d ih.live;
        there = and_from _ _ (ap (names_deposit w) l ∙ d) ih.there;
        values = (λ q. v q + ih.values q);
      }
