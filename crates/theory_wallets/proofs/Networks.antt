-- A network adds addresses and payees to a plan.
use Rattle.std.proofs.Common.{◌≡◌, ℕ, List, [], ◌∷◌, ◌++◌, map, Bool, true, false, Option, Some, None, refl, sym, ap, ◌∙◌, arith, inl, inr}
use Rattle.std.specs.Prelude.{◌⊎◌, not, is_some, ◌&&◌, length, ◌==◌, if◌then◌else◌, codes}
use Rattle.std.specs.List.{flat_map}
use Rattle.std.specs.Option.{option_map, option_map_or}
use Rattle.std.proofs.lemmas.Bool.Decides.{nat_tests}
use Rattle.spec_data.specs.Lists.{look_up}
use Rattle.spec_terms.specs.Precondition.{Holding, deposits}
use Rattle.spec_bitcoin.specs.Keys.{pay_to}
use Rattle.spec_compiler.specs.Keyed.Compilation.{scripts}
use Rattle.spec_compiler.specs.Keyed.Instance.{Instance}
use Rattle.spec_compiler.specs.Keyed.Keys.{Keys, by_plan, given, own_script}
use Rattle.spec_compiler.specs.Keyed.OwnScripts.{code_of}
use Rattle.spec_compiler.specs.Keyed.Transactions.{deposit, party_script}
use Rattle.spec_text.specs.PlanText.{script_line}
use Rattle.spec_text.specs.RunText.{newline}
use Rattle.spec_tool.specs.Keyed.Listed.{listed}
use Rattle.spec_deal.specs.DealText.{of_runs, deposit_line, payee_line, payee_lines, is_plain}
use Rattle.spec_deal.specs.DealText.{listed_lines}
use Rattle.spec_deal.specs.Setting.{has_own_scripts}
use Rattle.spec_deal.specs.Used.{paid_parties}
use Rattle.spec_deal.specs.Wallets.{wallet_of, spent_output}
use Rattle.spec_deal.specs.declared.transaction.Wallet.{Wallet}
use Rattle.theory_calculus.proofs.Names.{bytes_refl}
use Rattle.theory_wallets.specs.Networks.{with_address, payee_words, deposit_words}
use Rattle.theory_wallets.specs.Networks.{HasNoScripts, HasScripts, NetworksAddAddresses}

some_none : {X : Type 0} {x : X} → Some x ≡ None → ⊥
some_none e = cc

-- the first name of a list is found in it
first_found : (p : List ℕ × List ℕ) (ps : List (List ℕ × List ℕ)) → look_up (p.0) (p ∷ ps) ≡ Some (p.1)
first_found p ps = ap (λ (b : Bool). if b then Some (p.1) else look_up (p.0) ps) (bytes_refl (p.0))

none_there : (ds ps : List (List ℕ × List ℕ)) → ((name : List ℕ) → look_up name ds ≡ None) → ((party : List ℕ) → look_up party ps ≡ None)
    → not (length ds == 0 && length ps == 0) ≡ false
none_there [] [] h k = refl
none_there [] (p ∷ ps) h k = absurd (some_none (sym (first_found p ps) ∙ k (p.0)))
none_there (d ∷ ds) ps h k = absurd (some_none (sym (first_found d ds) ∙ h (d.0)))

has_none : (keys : Keys) → HasNoScripts keys → has_own_scripts keys ≡ false
has_none by_plan h = refl
has_none (given key_of own) h = none_there own.deposits own.payees h.deposits h.payees

not_empty : {X : Type 0} (x : X) (xs : List X) → (length (x ∷ xs) == 0) ≡ false
not_empty x xs = by_test (length (x ∷ xs) == 0) refl
  where
    by_test : (b : Bool) → (length (x ∷ xs) == 0) ≡ b → b ≡ false
    by_test true e = absurd (grind (arith, nat_tests, e))
    by_test false e = refl

some_deposit : (ds ps : List (List ℕ × List ℕ)) (name script : List ℕ) → look_up name ds ≡ Some script
    → not (length ds == 0 && length ps == 0) ≡ true
some_deposit [] ps name script h = cc
some_deposit (d ∷ ds) ps name script h = ap (λ (b : Bool). not (b && length ps == 0)) (not_empty d ds)

some_payee : (ds ps : List (List ℕ × List ℕ)) (name script : List ℕ) → look_up name ps ≡ Some script
    → not (length ds == 0 && length ps == 0) ≡ true
some_payee ds [] name script h = cc
some_payee ds (p ∷ ps) name script h = by_test (length ds == 0) (not_empty p ps)
  where
    by_test : (b : Bool) → (length (p ∷ ps) == 0) ≡ false → not (b && length (p ∷ ps) == 0) ≡ true
    by_test true e = ap not e
    by_test false e = refl

has_some : (keys : Keys) → HasScripts keys → has_own_scripts keys ≡ true
has_some by_plan (inl h) = let bad = h.2 in cc
has_some by_plan (inr h) = let bad = h.2 in cc
has_some (given key_of own) (inl h) = some_deposit own.deposits own.payees h.0 h.1 h.2
has_some (given key_of own) (inr h) = some_payee own.deposits own.payees h.0 h.1 h.2

abbrev named : List ℕ → List ℕ → Wallet
named name script = record { deposit = name; script = script }

no_payees : (hash : List ℕ → List ℕ) (keys : Keys) (s : Instance) → HasNoScripts keys → payee_lines hash None keys s ≡ []
no_payees hash keys s h =
    ap (λ (b : Bool). if true && not b then [] else map (payee_line hash None keys) (paid_parties s.advert)) (has_none keys h)

-- the output script of a deposit
own_or_key : (hash : List ℕ → List ℕ) (keys : Keys) (s : Instance) (d : List ℕ × Holding)
    → (spent_output hash (wallet_of keys (d.0)) (deposit hash keys s (d.0) (d.1))).script
    ≡ option_map_or (λ own. own) (own_script keys (d.0)) (pay_to (hash (party_script hash keys (d.1).owner)))
own_or_key hash keys s d = by_own (own_script keys (d.0))
  where
    by_own : (o : Option (List ℕ))
        → (spent_output hash (option_map (named (d.0)) o) (record {
          outpoint = (deposit hash keys s (d.0) (d.1)).outpoint;
          script = option_map_or code_of o (party_script hash keys (d.1).owner);
          value = (d.1).value;
        })).script
        ≡ option_map_or (λ own. own) o (pay_to (hash (party_script hash keys (d.1).owner)))
    by_own None = refl
    by_own (Some script) = refl

places : (hash : List ℕ → List ℕ) (network : Option (List ℕ)) (keys : Keys) (s : Instance) (ds : List (List ℕ × Holding))
    → map (deposit_line hash network keys s) ds ≡ map (with_address network) (map (deposit_words hash keys s) ds)
places hash network keys s [] = refl
places hash network keys s (d ∷ ds) =
    ap (λ script. with_address network ((deposit_words hash keys s d).0, script) ∷ map (deposit_line hash network keys s) ds)
    (own_or_key hash keys s d)
    ∙ ap (λ x. with_address network (deposit_words hash keys s d) ∷ x) (places hash network keys s ds)

parties : (hash : List ℕ → List ℕ) (network : Option (List ℕ)) (keys : Keys) (ps : List (List ℕ))
    → map (payee_line hash network keys) ps ≡ map (with_address network) (map (payee_words hash keys) ps)
parties hash network keys [] = refl
parties hash network keys (p ∷ ps) = ap (λ x. payee_line hash network keys p ∷ x) (parties hash network keys ps)

not_plain : (network : Option (List ℕ)) (keys : Keys) → (is_some network ≡ true) ⊎ HasScripts keys → is_plain network keys ≡ false
not_plain network keys (inl e) = ap (λ (b : Bool). not b && not (has_own_scripts keys)) e
not_plain network keys (inr h) = ap (λ (b : Bool). not (is_some network) && not b) (has_some keys h) ∙ by_test (not (is_some network))
  where
    by_test : (b : Bool) → (b && false) ≡ false
    by_test true = refl
    by_test false = refl

pub networks_add_addresses : NetworksAddAddresses
networks_add_addresses hash keys s =
    let opening = of_runs (codes "contract 0 compiled" ++ newline) ∷ map (λ p. of_runs (script_line p)) (scripts hash keys s) in
    let rest = flat_map (listed_lines hash keys s.advert) (listed hash keys s) in
    record {
      opening = opening;
      rest = rest;
      plans = λ network.
          ap (λ x. opening ++ (x ++ (payee_lines hash network keys s ++ rest))) (places hash network keys s (deposits s.advert.pre));
      payees = λ network h.
          ap (λ (b : Bool). if b then [] else map (payee_line hash network keys) (paid_parties s.advert)) (not_plain network keys h)
          ∙ parties hash network keys (paid_parties s.advert);
      nobody = no_payees hash keys s;
    }
