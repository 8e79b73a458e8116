-- A deposit that one of the deal's transactions makes is found by their txids; a participant who is paid at one of its positions by
-- their output scripts.
use Rattle.std.proofs.Common.{◌≡◌, ℕ, List, [], ◌∷◌, map, Bool, true, false, Option, Some, None, refl, sym, ap, ◌∙◌, arith}
use Rattle.std.proofs.lemmas.Bool.Decides.{nat_tests}
use Rattle.std.specs.Prelude.{◌||◌, if◌then◌else◌, is_some, length, ◌==◌}
use Rattle.std.specs.List.{find, list_any}
use Rattle.std.specs.Option.{option_map, option_map_or}
use Rattle.std.specs.Str.{bytes_eq}
use Rattle.spec_data.specs.Lists.{or_else, look_up}
use Rattle.spec_terms.specs.Advert.{Advert}
use Rattle.spec_terms.specs.Parties.{participants}
use Rattle.spec_terms.specs.declared.path.PathStep.{PathStep}
use Rattle.spec_bitcoin.specs.declared.tx.OutPoint.{OutPoint}
use Rattle.spec_bitcoin.specs.Keys.{pay_to}
use Rattle.spec_compiler.specs.Keyed.Keys.{Keys}
use Rattle.spec_compiler.specs.Keyed.Instance.{Instance}
use Rattle.spec_compiler.specs.Keyed.Compilation.{scripts}
use Rattle.spec_tool.specs.Keyed.Listed.{listed}
use Rattle.spec_deal.specs.declared.deal.Deal.{Deal}
use Rattle.spec_deal.specs.declared.transaction.Transaction.{Transaction}
use Rattle.spec_deal.specs.Answers.{is_made_here, circular_deposit, is_position_script, is_paid_here, circular_payee, circular}
use Rattle.spec_deal.specs.Setting.{deal_keys, deal_instance}
use Rattle.spec_deal.specs.Transactions.{transaction, transactions}
use Rattle.deal_compile.specs.declared.circle.PositionOutput.{PositionOutput}
use Rattle.deal_compile.specs.Circles.{output_in}
use Rattle.deal_compile.specs.Parts.{is_made_by, first_made, is_paid_at, first_paid}

any_map : {X Y : Type 0} (g : X → Y) (f : Y → Bool) (xs : List X) → list_any f (map g xs) ≡ list_any (λ x. f (g x)) xs
any_map g f [] = refl
any_map g f (x ∷ xs) = ap (λ b. f (g x) || b) (any_map g f xs)

by_test : (t : Bool) (p : List ℕ × OutPoint) (rest : Option (List ℕ)) (other : Option (List ℕ × OutPoint)) → rest ≡ option_map (λ p. p.0) other
    → (if t then Some (p.0) else rest) ≡ option_map (λ p. p.0) (if t then Some p else other)
by_test true p rest other h = refl
by_test false p rest other h = h

module _ (hash : List ℕ → List ℕ) (keys : Keys) (s : Instance) where
  made_here : (place : OutPoint) → is_made_by (transactions hash keys s) place ≡ is_made_here hash keys s place
  made_here place = any_map (transaction hash keys s.advert) (λ t. bytes_eq t.txid place.txid) (listed hash keys s)

  found : (ps : List (List ℕ × OutPoint)) → first_made ps (transactions hash keys s) ≡ option_map (λ p. p.0) (find (λ p. is_made_here hash keys s (p.1)) ps)
  found [] = refl
  found (p ∷ ps) =
      ap (λ t. if t then Some (p.0) else first_made ps (transactions hash keys s)) (made_here (p.1))
      ∙ by_test (is_made_here hash keys s (p.1)) p (first_made ps (transactions hash keys s)) (find (λ p. is_made_here hash keys s (p.1)) ps) (found ps)

  pub circle_found : (bound : List (List ℕ × OutPoint)) (ts : List Transaction) → s.bound ≡ bound → ts ≡ transactions hash keys s
      → first_made bound ts ≡ circular_deposit hash keys s
  circle_found bound ts is made = (λ j. first_made (sym is j) (made j)) ∙ found s.bound

-- ---- who is paid

some_by_test : (t : Bool) (o : PositionOutput) (rest : Option PositionOutput) (any : Bool) → is_some rest ≡ any
    → is_some (if t then Some o else rest) ≡ (t || any)
some_by_test true o rest any h = refl
some_by_test false o rest any h = h

pub found_any : (os : List PositionOutput) (script : List ℕ)
    → is_some (find (λ (o : PositionOutput). bytes_eq o.script script) os) ≡ list_any (λ output. bytes_eq output script) (map output_in os)
found_any [] script = refl
found_any (o ∷ os) script =
    some_by_test (bytes_eq o.script script) o (find (λ (o : PositionOutput). bytes_eq o.script script) os)
    (list_any (λ output. bytes_eq output script) (map output_in os)) (found_any os script)

-- nobody is, where no script was given
nobody : (outputs parties : List (List ℕ)) → first_paid outputs [] parties ≡ None
nobody outputs [] = refl
nobody outputs (party ∷ parties) = nobody outputs parties

pub nobody_of : (outputs : List (List ℕ)) (payees : List (List ℕ × List ℕ)) (parties : List (List ℕ)) → (length payees == 0) ≡ true
    → None ≡ first_paid outputs payees parties
nobody_of outputs [] parties h = sym (nobody outputs parties)
nobody_of outputs (p ∷ ps) parties h = absurd (grind (arith, nat_tests))

find_same : {X : Type 0} (f g : X → Bool) (same : (x : X) → f x ≡ g x) (xs : List X) → find f xs ≡ find g xs
find_same f g same [] = refl
find_same f g same (x ∷ xs) = λ j. if same x j then Some x else find_same f g same xs j

module _ (hash : List ℕ → List ℕ) (advert : Advert) (deal : Deal) where
  abbrev s : Instance
  s = deal_instance advert deal

  abbrev output : List PathStep × List ℕ → List ℕ
  output p = pay_to (hash (p.1))

  at_position : (script : Option (List ℕ))
      → option_map_or (λ script. list_any (λ one. bytes_eq one script) (map output (scripts hash (deal_keys deal) s))) script false
      ≡ option_map_or (is_position_script hash (deal_keys deal) s) script false
  at_position None = refl
  at_position (Some script) = any_map output (λ one. bytes_eq one script) (scripts hash (deal_keys deal) s)

  paid_found : first_paid (map output (scripts hash (deal_keys deal) s)) deal.payees (participants advert) ≡ circular_payee hash (deal_keys deal) s
  paid_found =
      find_same (is_paid_at (map output (scripts hash (deal_keys deal) s)) deal.payees) (is_paid_here hash (deal_keys deal) s)
      (λ party. at_position (look_up party deal.payees)) (participants advert)

  pub circle_whole : (ts : List Transaction) (ss : List (List PathStep × List ℕ)) → ts ≡ transactions hash (deal_keys deal) s
      → ss ≡ scripts hash (deal_keys deal) s
      → or_else (first_made deal.deposits ts) (first_paid (map output ss) deal.payees (participants advert)) ≡ circular hash (deal_keys deal) s
  circle_whole ts ss made placed =
      (λ j. or_else (circle_found hash (deal_keys deal) s deal.deposits ts refl made j)
      (first_paid (map output (placed j)) deal.payees (participants advert)))
      ∙ ap (or_else (circular_deposit hash (deal_keys deal) s)) paid_found
