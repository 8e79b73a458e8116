-- What can come is the next transaction of a longer chain: it isn't bad there, and its witness shows the branch that it was asked under.
use Rattle.std.proofs.Common.{◌≡◌, ℕ, zero, suc, ◌+◌, ◌<◌, ◌≤◌, List, [], ◌∷◌, ◌++◌, length, map, Bool, true, false, Option, Some, None}
use Rattle.std.proofs.Common.{refl, sym, ap, subst, ◌∙◌, inl, inr, cond, arith}
use Rattle.std.specs.Prelude.{◌&&◌, ◌||◌, ◌==◌, not, is_some, nat_lt, slice_get}
use Rattle.std.specs.List.{list_all, list_any, find}
use Rattle.std.specs.Option.{option_map, option_map_or}
use Rattle.std.specs.Str.{bytes_eq}
use Rattle.std.proofs.lemmas.Bool.{and_from, and_parts, or_parts}
use Rattle.std.proofs.lemmas.Bool.Decides.{nat_tests}
use Rattle.spec_data.specs.Lists.{first_reason, or_else, is_among, look_up}
use Rattle.spec_terms.specs.Core.{core, puts_of, reveals_of}
use Rattle.spec_terms.specs.Precondition.{Holding, persistent, deposits}
use Rattle.spec_terms.specs.Term.{Contract, branches}
use Rattle.spec_terms.specs.declared.path.PathStep.{PathStep}
use Rattle.spec_bitcoin.specs.declared.label.Label.{Label}
use Rattle.spec_bitcoin.specs.declared.tx.OutPoint.{OutPoint}
use Rattle.spec_bitcoin.specs.declared.tx.Tx.{Tx}
use Rattle.spec_bitcoin.specs.declared.tx.TxIn.{TxIn}
use Rattle.spec_bitcoin.specs.Live.{same_outpoint}
use Rattle.spec_bitcoin.specs.Spelling.{stripped}
use Rattle.spec_bitcoin.specs.Verdict.{has_repeat}
use Rattle.spec_compiler.specs.declared.unsigned.Spent.{Spent}
use Rattle.spec_compiler.specs.declared.unsigned.Unsigned.{Unsigned}
use Rattle.spec_compiler.specs.Keyed.ByPath.{PathEnd, outpoint_at, position_at}
use Rattle.spec_compiler.specs.Keyed.Instance.{Instance, branch_path}
use Rattle.spec_compiler.specs.Keyed.Keys.{Keys}
use Rattle.spec_compiler.specs.Keyed.Transactions.{Standing, deposit, initial_unsigned, input_of, outpoint_or_none, put_deposits, tx_of}
use Rattle.spec_compiler.specs.Witness.{chosen_by}
use Rattle.spec_run.specs.Firing.{witnessed}
use Rattle.spec_run.specs.Ledger.{first_witness}
use Rattle.spec_text.specs.Lines.{lines_of}
use Rattle.spec_tool.specs.declared.which.Which.{Which}
use Rattle.spec_tool.specs.declared.which.Which.TheVariants as names
use Rattle.spec_tool.specs.Keyed.Listed.{Listed, listed, listed_at}
use Rattle.spec_deal.specs.declared.entry.Shown.{Shown}
use Rattle.spec_deal.specs.declared.signed.Signed.{Signed}
use Rattle.spec_deal.specs.declared.transaction.Transaction.{Transaction}
use Rattle.spec_deal.specs.Finished.{branch_witness, choices_at, finished, input_signatures, path_witnesses, strings_of, witnesses}
use Rattle.spec_deal.specs.Needed.{needed_deposits}
use Rattle.spec_deal.specs.Setting.{deal_keys, deal_instance}
use Rattle.spec_deal.specs.SignatureFile.{has_bytes}
use Rattle.spec_deal.specs.Slots.{Slot, listed_slots}
use Rattle.spec_deal.specs.Transactions.{inputs, transaction, transactions}
use Rattle.spec_deal.specs.Wallets.{puts_at, wallet_of, input_wallet}
use Rattle.spec_text.specs.Words.{◌>>=◌}
use Rattle.theory_calculus.specs.Members.{Is_in}
use Rattle.theory_calculus.proofs.Members.{filter_has, found, in_from_contains}
use Rattle.theory_calculus.proofs.Names.{bytes-true, bytes_refl, in_named, looked_in, named_looked, persistent_deposit}
use Rattle.theory_script.proofs.Keyed.Stands.{some_same}
use Rattle.theory_script.proofs.Scripts.Choosing.{witness_chooses}
use Rattle.theory_world.proofs.Same.{place_refl}
use Rattle.theory_deal.specs.Finished.{accepts_one, FinishedIsPlanned}
use Rattle.theory_deal.proofs.ByName.{listed_in}
use Rattle.theory_deal.proofs.ReadBranches.{puts_needed}
use Rattle.theory_deal.proofs.ReadSignatures.{signatures_are_shaped}
use Rattle.theory_deal.proofs.Ledger.DifferentOutputs.{apart_at}
use Rattle.theory_deal.proofs.Ledger.ShortItems.{keys_short}
use Rattle.spec_chain.specs.declared.fault.ChainReason.{ChainReason}
use Rattle.spec_chain.specs.declared.fault.ChainReason.TheVariants as reasons
use Rattle.spec_chain.specs.declared.output.Held.TheVariants as helds
use Rattle.spec_chain.specs.declared.output.Output.{Output}
use Rattle.spec_chain.specs.declared.reading.Confirmed.{Confirmed}
use Rattle.spec_chain.specs.Chain.{Course, gone_on, if_matters, opening_course}
use Rattle.spec_chain.specs.ChainFile.{read_chain}
use Rattle.spec_chain.specs.Following.{own_transaction, which_shown, which_of, happened}
use Rattle.spec_chain.specs.Outputs.{has_place, is_there, without, deal_outputs, position_of}
use Rattle.spec_chain.specs.Outstanding.{asked, known}
use Rattle.spec_chain.specs.Refusals.{refusal, input_row, inputs_reason, lock_reason, takes_all, witnesses_reason, branch_reason, own_reason}
use Rattle.theory_chain.specs.Files.{AreLines}
use Rattle.theory_chain.specs.Follows.{LeadsTo}
use Rattle.theory_chain.specs.GoingOn.{WhatCanGoesOn}
use Rattle.theory_chain.specs.Prospects.{CanCome, CanExactly, CanOpens}
use Rattle.theory_chain.proofs.ChainRuns.{chain_kept, placed}
use Rattle.theory_chain.proofs.Courses.{followed_exactly}
use Rattle.theory_chain.proofs.Exactly.{there_by_name}
use Rattle.theory_chain.proofs.Fine.{AllShown, Filled, fine_by, fine_shown, filled_are, opened_fine}
use Rattle.theory_chain.proofs.FileReads.{chains_are_spelled}
use Rattle.theory_chain.proofs.Ledgers.{all_there}
use Rattle.theory_chain.proofs.Needs.{listed_name, named_is}
use Rattle.theory_chain.proofs.Stays.{known_fit}
use Rattle.theory_chain.proofs.Deals.Outputs.{any_there, at_place, deposit_output, deposit_there}
use Rattle.theory_chain.proofs.Deals.Positions.{branch_at_path, path_named, position_made, compiled_at, same_outpoint as one_place}
use Rattle.theory_chain.proofs.Deals.Taken.{whole_deal}
use Rattle.theory_chain.proofs.Deals.Transactions.{OfBranch, of_branch, named_path, in_listed, position_before}
use Rattle.theory_chain.proofs.Deals.Whole.{Whole, from_map, in_map, same_bytes}
use Rattle.theory_chain.proofs.Runs.Kept.{Kept, deposit_apart, none_of}

-- ---- lists

heads : {X : Type 0} {a b : X} {those others : List X} → a ∷ those ≡ b ∷ others → a ≡ b
heads e = cc

tails : {X : Type 0} {a b : X} {those others : List X} → a ∷ those ≡ b ∷ others → those ≡ others
tails e = cc

none_some : {X : Type 0} {a : X} {those : List X} → [] ≡ a ∷ those → ⊥
none_some e = cc

pub find_there : {X : Type 0} (p : X → Bool) (xs : List X) (x : X) → Is_in x xs → p x ≡ true → (y : X) × (find p xs ≡ Some y)
find_there p [] x h e = absurd h
find_there p (y ∷ xs) x (inl same) e =
    (y, ap (λ (b : Bool). cond b (Some y) (find p xs)) (subst (λ z. p z ≡ true) same e))
find_there p (y ∷ xs) x (inr h) e = by_test (p y) (find_there p xs x h e)
  where
    by_test : (b : Bool) → (z : _) × (find p xs ≡ Some z) → (z : _) × (cond b (Some y) (find p xs) ≡ Some z)
    by_test true later = (y, refl)
    by_test false later = later

get_below : {X : Type 0} (xs : List X) (i : ℕ) (x : X) → slice_get xs i ≡ Some x → i < length xs
get_below [] i x e = cc
get_below (y ∷ xs) zero x e = omega arith
get_below (y ∷ xs) (suc i) x e = let l = get_below xs i x e in omega (arith, l)

-- ---- an oracle that takes all

all_accepted : (hash : List ℕ → List ℕ) (keys : Keys) (given : List Signed) (xs : List Slot)
    → list_all (accepts_one hash keys given (λ k. takes_all)) xs ≡ true
all_accepted hash keys given [] = refl
all_accepted hash keys given (x ∷ xs) =
    and_from (accepts_one hash keys given (λ k. takes_all) x) (list_all (accepts_one hash keys given (λ k. takes_all)) xs)
    (either (is_some x.wallet)) (all_accepted hash keys given xs)
  where
    either : (b : Bool) → (b || true) ≡ true
    either true = refl
    either false = refl

-- ---- no reason

module _ (hash : List ℕ → List ℕ) (keys : Keys) (s : Instance) where
  -- what is spent is live, each once
  inputs_fine : (ts : List Transaction) (live : List Output) (k : ℕ) (is : List TxIn)
      → ((p : OutPoint) → Is_in p (map (λ (i : TxIn). i.prev) is) → has_place live p ≡ true) → has_repeat is ≡ false
      → inputs_reason s ts true live k is ≡ None
  inputs_fine ts live k [] there once = refl
  inputs_fine ts live k (i ∷ is) there once =
      ap (λ (r : Option ChainReason). or_else r (inputs_reason s ts true (without live i.prev) (k + 1) is)) row
      ∙ inputs_fine ts (without live i.prev) (k + 1) is left r.1
    where
      r : (list_any (λ (j : TxIn). same_outpoint j.prev i.prev) is ≡ false) × (has_repeat is ≡ false)
      r = or_parts (list_any (λ (j : TxIn). same_outpoint j.prev i.prev) is) (has_repeat is) once

      row : first_reason (input_row s ts true live k i.prev) ≡ None
      row = by_tests (has_place (deal_outputs s ts) i.prev) (has_place live i.prev) (there i.prev (inl refl))
        where
          by_tests : (a b : Bool) → b ≡ true → first_reason ((a && not b, reasons.Input k) ∷ (false, reasons.Foreign k) ∷ []) ≡ None
          by_tests true true e = refl
          by_tests true false e = cc
          by_tests false b e = refl

      left : (p : OutPoint) → Is_in p (map (λ (j : TxIn). j.prev) is) → has_place (without live i.prev) p ≡ true
      left p h =
          let j = from_map (λ (x : TxIn). x.prev) is p h in
          let other : same_outpoint p i.prev ≡ false =
          subst (λ (q : OutPoint). same_outpoint q i.prev ≡ false) (sym j.2) (none_of (λ (x : TxIn). same_outpoint x.prev i.prev) is j.0 j.1 r.0) in
          let o = at_place live p (there p (inr h)) in
          let kept = filter_has (λ (x : Output). not (is_there i.prev x)) live (o.0) o.1
          (ap not (ap (λ (q : OutPoint). same_outpoint q i.prev) o.2 ∙ other)) in
          any_there (is_there p) (without live i.prev) (o.0) kept (ap (λ (q : OutPoint). same_outpoint q p) o.2 ∙ place_refl p)

-- ---- witnesses change no place

prevs_stay : (xs : List Spent) (ws : List (List (List ℕ)))
    → map (λ (i : TxIn). i.prev) (witnessed (map input_of xs) ws) ≡ map (λ (x : Spent). x.outpoint) xs
prevs_stay [] ws = refl
prevs_stay (x ∷ xs) [] = ap (λ (ps : List OutPoint). x.outpoint ∷ ps) (plain xs)
  where
    plain : (ys : List Spent) → map (λ (i : TxIn). i.prev) (map input_of ys) ≡ map (λ (y : Spent). y.outpoint) ys
    plain [] = refl
    plain (y ∷ ys) = ap (λ (ps : List OutPoint). y.outpoint ∷ ps) (plain ys)
prevs_stay (x ∷ xs) (w ∷ ws) = ap (λ (ps : List OutPoint). x.outpoint ∷ ps) (prevs_stay xs ws)

place_stays : (place : TxIn) (is : List TxIn) (ws : List (List (List ℕ)))
    → list_any (λ j. same_outpoint j.prev place.prev) (witnessed is ws) ≡ list_any (λ j. same_outpoint j.prev place.prev) is
place_stays place [] ws = refl
place_stays place (i ∷ is) [] = refl
place_stays place (i ∷ is) (w ∷ ws) = ap (λ (b : Bool). same_outpoint i.prev place.prev || b) (place_stays place is ws)

repeat_stays : (is : List TxIn) (ws : List (List (List ℕ))) → has_repeat (witnessed is ws) ≡ has_repeat is
repeat_stays [] ws = refl
repeat_stays (i ∷ is) [] = refl
repeat_stays (i ∷ is) (w ∷ ws) = λ j. place_stays i is ws j || repeat_stays is ws j

-- ---- transactions that are the same

abbrev places : List Spent → List OutPoint
places xs = map (λ (x : Spent). x.outpoint) xs

-- they have one position
abbrev HaveOnePosition : Which → Which → Type 0
HaveOnePosition names.Init names.Init = Unit {0}
HaveOnePosition names.Init (names.At path) = ⊥
HaveOnePosition (names.At path) names.Init = ⊥
HaveOnePosition (names.At path) (names.At other) = position_of path ≡ position_of other

module _ (hash : List ℕ → List ℕ) (keys : Keys) (s : Instance) (whole : Whole hash keys s) where
  abbrev place_of : List ℕ → OutPoint
  place_of x = outpoint_or_none (look_up x s.bound)

  same_places : (d e : Unsigned) → tx_of d ≡ tx_of e → places d.spends ≡ places e.spends
  same_places d e same =
      sym (prevs_stay d.spends []) ∙ ap (λ (t : Tx). map (λ (i : TxIn). i.prev) (witnessed t.inputs [])) same ∙ prevs_stay e.spends []

  -- no deposit lies where a position does
  deposit_elsewhere : (x : List ℕ) → is_among x (needed_deposits s.advert) ≡ true → (q : List PathStep) (here : Standing) (choice : Contract)
      → position_at hash keys s q ≡ Some (here, choice) → place_of x ≡ here.output.outpoint → ⊥
  deposit_elsewhere x among q here choice stand e =
      let v = named_looked (deposits s.advert.pre) x among in
      let there = deposit_there s (x, v.0) (looked_in (deposits s.advert.pre) x (v.0) v.1) in
      let m = position_made hash keys s q here choice stand in
      deposit_apart hash keys s whole (deposit_output s there.0 (x, v.0)) there.1 m.by_which m.among
      (ap (λ (p : OutPoint). p.txid) (sym m.place ∙ sym e))

  puts_same : (xs ys : List (List ℕ)) → list_all (λ n. is_among n (needed_deposits s.advert)) xs ≡ true
      → list_all (λ n. is_among n (needed_deposits s.advert)) ys ≡ true
      → places (put_deposits hash keys s xs) ≡ places (put_deposits hash keys s ys) → xs ≡ ys
  puts_same [] [] f g e = refl
  puts_same [] (y ∷ ys) f g e = absurd (none_some e)
  puts_same (x ∷ xs) [] f g e = absurd (none_some (sym e))
  puts_same (x ∷ xs) (y ∷ ys) f g e =
      let p = and_parts (is_among x (needed_deposits s.advert)) (list_all (λ n. is_among n (needed_deposits s.advert)) xs) f in
      let q = and_parts (is_among y (needed_deposits s.advert)) (list_all (λ n. is_among n (needed_deposits s.advert)) ys) g in
      let one : x ≡ y = whole.apart.apart x y p.0 q.0 (ap (same_outpoint (place_of x)) (sym (heads e)) ∙ place_refl (place_of x)) in
      let rest : xs ≡ ys = puts_same xs ys p.1 q.1 (tails e) in
      λ i. one i ∷ rest i

  of_places : (path : List PathStep) (d : Unsigned) (o : OfBranch hash keys s path d)
      → places d.spends ≡ o.here.output.outpoint ∷ places (put_deposits hash keys s (puts_of (core o.b)))
  of_places path d o = ap (λ (u : Unsigned). places u.spends) o.is

  same_branches : (path other : List PathStep) (d e : Unsigned) (o : OfBranch hash keys s path d) (p : OfBranch hash keys s other e)
      → tx_of d ≡ tx_of e
      → (d.spends ≡ e.spends) × (o.here.position ≡ p.here.position) × (puts_of (core o.b) ≡ puts_of (core p.b))
  same_branches path other d e o p same =
      let lists = sym (of_places path d o) ∙ same_places d e same ∙ of_places other e p in
      let position = one_place hash keys s whole o.here.position p.here.position o.here p.here o.choice p.choice o.stands p.stands (heads lists) in
      let here : o.here ≡ p.here = ap (λ (x : Standing × Contract). x.0)
      (some_same {X = Standing × Contract} (sym o.stands ∙ ap (position_at hash keys s) position ∙ p.stands)) in
      let puts = puts_same (puts_of (core o.b)) (puts_of (core p.b)) (puts_needed hash keys s whole.checked path o.here o.i o.b o.ends)
      (puts_needed hash keys s whole.checked other p.here p.i p.b p.ends) (tails lists) in (
        ap (λ (u : Unsigned). u.spends) o.is ∙ (λ i. (here i).output ∷ put_deposits hash keys s (puts i)) ∙ ap (λ (u : Unsigned). u.spends) (sym p.is),
        position,
        puts,
      )

  -- so wallets bring the same to both
  same_wallets : (path other : List PathStep) (d e : Unsigned) (o : OfBranch hash keys s path d) (p : OfBranch hash keys s other e)
      → puts_of (core o.b) ≡ puts_of (core p.b)
      → (k : ℕ) → input_wallet keys s.advert (names.At path) k ≡ input_wallet keys s.advert (names.At other) k
  same_wallets path other d e o p puts zero = refl
  same_wallets path other d e o p puts (suc k) =
      ap (λ (xs : List (List ℕ)). slice_get xs k >>= wallet_of keys)
      (ap puts_at (branch_at_path hash keys s path o.here o.i o.b o.ends) ∙ puts
      ∙ sym (ap puts_at (branch_at_path hash keys s other p.here p.i p.b p.ends)))

  initial_apart : (path : List PathStep) (d : Unsigned) (o : OfBranch hash keys s path d) → tx_of (initial_unsigned hash keys s) ≡ tx_of d → ⊥
  initial_apart path d o same =
      by_deposits (persistent s.advert.pre) (persistent_deposit s.advert.pre) (same_places (initial_unsigned hash keys s) d same ∙ of_places path d o)
    where
      by_deposits : (ds : List (List ℕ × Holding)) → ((p : List ℕ × Holding) → Is_in p ds → Is_in p (deposits s.advert.pre))
          → places (map (λ (p : List ℕ × Holding). deposit hash keys s p.0 p.1) ds)
          ≡ o.here.output.outpoint ∷ places (put_deposits hash keys s (puts_of (core o.b))) → ⊥
      by_deposits [] f e = none_some e
      by_deposits (p ∷ ds) f e =
          deposit_elsewhere (p.0) (in_named (deposits s.advert.pre) p (f p (inl refl))) o.here.position o.here o.choice o.stands (heads e)

  path_position : (path : List PathStep) (d : Unsigned) (o : OfBranch hash keys s path d) → position_of path ≡ o.here.position
  path_position path d o =
      ap position_of (sym (path_named hash keys s path o.here o.i o.b o.ends)) ∙ position_before o.here.position o.i

  -- two of the deal's transactions that are the same spend the same, are of one position, and have the same wallets
  pub twins : (w u : Which) (l m : Listed) → listed_at hash keys s w ≡ Some l → listed_at hash keys s u ≡ Some m → tx_of l.pending ≡ tx_of m.pending
      → (l.pending.spends ≡ m.pending.spends) × HaveOnePosition w u
      × ((k : ℕ) → input_wallet keys s.advert w k ≡ input_wallet keys s.advert u k)
  twins names.Init names.Init l m e f same =
      (ap (λ (x : Listed). x.pending.spends) (some_same (sym e ∙ f)), tt, λ k. refl)
  twins names.Init (names.At other) l m e f same =
      let n = named_path hash keys s other m f in
      absurd (initial_apart other n.0 (of_branch hash keys s other n.0 n.1)
      (ap (λ (x : Listed). tx_of x.pending) (some_same e) ∙ same ∙ ap (λ (x : Listed). tx_of x.pending) n.2))
  twins (names.At path) names.Init l m e f same =
      let n = named_path hash keys s path l e in
      absurd (initial_apart path n.0 (of_branch hash keys s path n.0 n.1)
      (ap (λ (x : Listed). tx_of x.pending) (some_same f) ∙ sym same ∙ ap (λ (x : Listed). tx_of x.pending) n.2))
  twins (names.At path) (names.At other) l m e f same =
      let n = named_path hash keys s path l e in
      let k = named_path hash keys s other m f in
      let o = of_branch hash keys s path n.0 n.1 in
      let p = of_branch hash keys s other k.0 k.1 in
      let r = same_branches path other n.0 k.0 o p
      (ap (λ (x : Listed). tx_of x.pending) (sym n.2) ∙ same ∙ ap (λ (x : Listed). tx_of x.pending) k.2) in (
        ap (λ (x : Listed). x.pending.spends) n.2 ∙ r.0 ∙ ap (λ (x : Listed). x.pending.spends) (sym k.2),
        path_position path n.0 o ∙ r.1 ∙ sym (path_position other k.0 p),
        same_wallets path other n.0 k.0 o p r.2,
      )

  -- ---- the branch that a witness shows

  module _ (given : List Signed) (strings : List Shown) (l : Listed) where
    first_chosen : (path : List PathStep) (d : Unsigned) (o : OfBranch hash keys s path d) (xs : List Spent) (signers : List (List Label))
        → AllShown hash keys s l 0 xs (path_witnesses hash keys s given strings path l xs signers) → (xs ≡ [] → ⊥)
        → chosen_by (choices_at s o.here.position)
        (first_witness (witnessed (map input_of xs) (path_witnesses hash keys s given strings path l xs signers)))
        ≡ o.i
    first_chosen path d o [] signers opened some = absurd (some refl)
    first_chosen path d o (x ∷ xs) [] opened some = absurd opened
    first_chosen path d o (x ∷ xs) (labels ∷ signers) opened some =
        let comp = compiled_at hash keys s whole o.here.position o.here o.choice o.stands in
        let count : choices_at s o.here.position ≡ length (branches o.choice) =
        ap (λ (c : Option Contract). option_map_or (λ (y : Contract). length (branches y)) c 0) comp.is_position in
        let low = get_below (branches o.choice) o.i o.b o.there in
        let signatures = input_signatures hash keys s given l 0 x labels in
        ap (λ (e : Option PathEnd). chosen_by (choices_at s o.here.position) (branch_witness s strings signatures e)) o.ends
        ∙ witness_chooses (choices_at s o.here.position) o.i signatures (strings_of strings (reveals_of (core o.b))) o.here.output.script
        (omega (arith, low, count))

-- ---- one that can come isn't bad

module _ (as_planned : FinishedIsPlanned)
    (hash : List ℕ → List ℕ) (keys : Keys) (s : Instance) (whole : Whole hash keys s) (course : Course) (kept : Kept hash keys s course)
    (lie : (o : Output) (path : List PathStep) → Is_in o course.state.live → o.held ≡ helds.Position path → outpoint_at hash keys s path ≡ Some o.place)
    (given : List Signed) (strings : List Shown) (tip : ℕ) (which : Which) (l : Listed) (named : listed_at hash keys s which ≡ Some l)
    (asked_for : Is_in which (asked s course.state)) (can : CanCome hash keys s given strings course.state tip which l)
    (opened : AllShown hash keys s l 0 l.pending.spends (witnesses hash keys s given strings l l.which)) where
  abbrev tx : Tx
  tx = finished hash keys s given strings l

  abbrev ts : List Transaction
  ts = transactions hash keys s

  among : Is_in l (listed hash keys s)
  among = listed_in hash keys s which l named

  planned : stripped tx ≡ stripped (tx_of l.pending)
  planned = as_planned hash keys s given strings l

  -- the first of the deal's transactions that has its bytes
  record First : Type 0 where
    other : Listed
    among : Is_in other (listed hash keys s)
    own : own_transaction ts tx ≡ Some (transaction hash keys s.advert other)
    same : tx_of l.pending ≡ tx_of other.pending

  first : First
  first =
      let t = transaction hash keys s.advert l in
      let f = find_there (has_bytes (stripped tx)) ts t (in_map (transaction hash keys s.advert) (listed hash keys s) l among)
      (ap (bytes_eq (stripped (tx_of l.pending))) planned ∙ bytes_refl (stripped (tx_of l.pending))) in
      let r = found (has_bytes (stripped tx)) ts f.0 f.1 in
      let o = in_listed hash keys s f.0 r.0 in
      let bytes = bytes-true (stripped (tx_of o.0.pending)) (stripped tx) (subst (λ (x : Transaction). has_bytes (stripped tx) x ≡ true) o.2 r.1) in
      record {
        other = o.0;
        among = o.1;
        own = f.1 ∙ ap Some o.2;
        same = same_bytes hash keys s whole l o.0 among o.1 (sym planned ∙ sym bytes);
      }

  twin : (l.pending.spends ≡ first.other.pending.spends) × HaveOnePosition which first.other.which
      × ((k : ℕ) → input_wallet keys s.advert which k ≡ input_wallet keys s.advert first.other.which k)
  twin =
      twins hash keys s whole which first.other.which l first.other named (there_by_name hash keys s first.other first.among) first.same

  -- the witness shows the branch
  shown_is : which_shown s tx first.other.which ≡ which
  shown_is = by_names which named first.other.which twin.1
    where
      by_names : (w : Which) → listed_at hash keys s w ≡ Some l → (u : Which) → HaveOnePosition w u → which_shown s tx u ≡ w
      by_names names.Init e names.Init p = refl
      by_names names.Init e (names.At other) p = absurd p
      by_names (names.At path) e names.Init p = absurd p
      by_names (names.At path) e (names.At other) p =
          let n = named_path hash keys s path l e in
          let o = of_branch hash keys s path n.0 n.1 in
          let name = listed_name hash keys s (names.At path) l e in
          let all = ap (witnesses hash keys s given strings l) name in
          let some : l.pending.spends ≡ [] → ⊥ = λ z.
          none_some (sym z ∙ ap (λ (x : Listed). x.pending.spends) n.2 ∙ ap (λ (d : Unsigned). d.spends) o.is) in
          let chosen =
          ap (λ (ws : List (List (List ℕ))). chosen_by (choices_at s o.here.position) (first_witness (witnessed (map input_of l.pending.spends) ws))) all
          ∙ first_chosen hash keys s whole given strings l path n.0 o l.pending.spends l.signers
          (subst (AllShown hash keys s l 0 l.pending.spends) all opened) some in
          ap (λ (q : List PathStep). names.At (branch_path q (chosen_by (choices_at s q) (first_witness tx.inputs))))
          (sym p ∙ path_position hash keys s whole path n.0 o)
          ∙ ap (λ (i : ℕ). names.At (branch_path o.here.position i)) chosen
          ∙ ap names.At (path_named hash keys s path o.here o.i o.b o.ends)

  pub which_is : which_of s ts tx ≡ Some which
  which_is = ap (option_map (λ (t : Transaction). which_shown s tx t.which)) first.own ∙ ap Some shown_is

  spent_fine : inputs_reason s ts true course.state.live 0 tx.inputs ≡ None
  spent_fine =
      inputs_fine hash keys s ts course.state.live 0 tx.inputs there
      (repeat_stays (map input_of l.pending.spends) (witnesses hash keys s given strings l l.which)
      ∙ apart_at hash keys s whole.checked whole.apart which l named)
    where
      there : (p : OutPoint) → Is_in p (map (λ (i : TxIn). i.prev) tx.inputs) → has_place course.state.live p ≡ true
      there p h =
          let x = from_map (λ (y : Spent). y.outpoint) l.pending.spends p
          (subst (Is_in p) (prevs_stay l.pending.spends (witnesses hash keys s given strings l l.which)) h) in
          subst (λ (q : OutPoint). has_place course.state.live q ≡ true) (sym x.2)
          (all_there hash keys s course kept lie which l named asked_for can.funded x.0 x.1)

  lock_fine : lock_reason (tip + 1) tx ≡ None
  lock_fine = ap (λ (b : Bool). cond b None (Some reasons.Lock)) (below l.pending.lock can.final)
    where
      below : (n : ℕ) → n ≤ tip → nat_lt n (tip + 1) ≡ true
      below n h = grind (arith, nat_tests, h)

  opens_fine : witnesses_reason hash 0 (transaction hash keys s.advert first.other).inputs tx.inputs ≡ None
  opens_fine =
      let ws = witnesses hash keys s given strings l l.which in
      ap (λ (xs : List Spent). witnesses_reason hash 0 (inputs hash keys s.advert first.other 0 xs first.other.signers) tx.inputs) (sym twin.0)
      ∙ fine_shown hash keys s first.other 0 l.pending.spends first.other.signers ws
      (fine_by hash (λ j. takes_all) Filled (λ k. input_wallet keys s.advert l.which k) (λ k. input_wallet keys s.advert first.other.which k)
      (λ k. ap (λ (w : Which). input_wallet keys s.advert w k) (listed_name hash keys s which l named) ∙ twin.2 k) 0 l.pending.spends ws opened)

  branch_fine : branch_reason ts tx (which_shown s tx first.other.which) ≡ None
  branch_fine =
      ap (branch_reason ts tx) shown_is
      ∙ ap by_named (named_is hash keys s which l named)
      ∙ ap (λ (b : Bool). cond b None (Some reasons.Branch))
      (ap (bytes_eq (stripped (tx_of l.pending))) planned ∙ bytes_refl (stripped (tx_of l.pending)))
    where
      by_named : Option Transaction → Option ChainReason
      by_named None = Some reasons.Branch
      by_named (Some t) = cond (has_bytes (stripped tx) t) None (Some reasons.Branch)

  pub isnt_bad : refusal hash s ts course.state (tip + 1) tx ≡ None
  isnt_bad =
      ap (λ (o : Option Transaction). or_else (inputs_reason s ts (is_some o) course.state.live 0 tx.inputs) (own_reason hash s ts (tip + 1) tx o)) first.own
      ∙ ap (λ (r : Option ChainReason). or_else r (own_reason hash s ts (tip + 1) tx (Some (transaction hash keys s.advert first.other)))) spent_fine
      ∙ ap (λ (r : Option ChainReason). or_else r (or_else (witnesses_reason hash 0 (transaction hash keys s.advert first.other).inputs tx.inputs)
      (branch_reason ts tx (which_shown s tx first.other.which)))) lock_fine
      ∙ ap (λ (r : Option ChainReason). or_else r (branch_reason ts tx (which_shown s tx first.other.which))) opens_fine
      ∙ branch_fine

-- ---- more lines

lines_then : (n height : ℕ) (lines more : List (List ℕ)) (cs ds : List Confirmed) (tip top : ℕ) → AreLines n height lines cs tip
    → AreLines (n + length lines) tip more ds top → AreLines n height (lines ++ more) (cs ++ ds) top
lines_then n height [] more cs ds tip top h k =
    let z : n + 0 ≡ n = omega arith in
    subst (λ (xs : List Confirmed). AreLines n height more (xs ++ ds) top) (sym h.0)
    (subst (λ (t : ℕ). AreLines n t more ds top) h.1 (subst (λ (m : ℕ). AreLines m tip more ds top) z k))
lines_then n height (line ∷ lines) more cs ds tip top (inl e) k =
    let z : n + suc (length lines) ≡ (n + 1) + length lines = omega arith in
    inl (e.0, lines_then (n + 1) height lines more cs ds tip top e.1 (subst (λ (m : ℕ). AreLines m tip more ds top) z k))
lines_then n height (line ∷ lines) more cs ds tip top (inr (inl e)) k =
    let z : n + suc (length lines) ≡ (n + 1) + length lines = omega arith in
    inr (inl (e.0, e.1, lines_then (n + 1) e.0 lines more cs ds tip top e.2 (subst (λ (m : ℕ). AreLines m tip more ds top) z k)))
lines_then n height (line ∷ lines) more cs ds tip top (inr (inr e)) k =
    let z : n + suc (length lines) ≡ (n + 1) + length lines = omega arith in
    inr (inr (
      e.0,
      e.1 ++ ds,
      e.2,
      ap (λ (xs : List Confirmed). xs ++ ds) e.3,
      lines_then (n + 1) height lines more e.1 ds tip top e.4 (subst (λ (m : ℕ). AreLines m tip more ds top) z k),
    ))

leads_then : (hash : List ℕ → List ℕ) (s : Instance) (ts : List Transaction) (cs ds : List Confirmed) (course middle last : Course)
    → LeadsTo hash s ts course cs middle → LeadsTo hash s ts middle ds last → LeadsTo hash s ts course (cs ++ ds) last
leads_then hash s ts [] ds course middle last h k = subst (λ (c : Course). LeadsTo hash s ts c ds last) h k
leads_then hash s ts (c ∷ cs) ds course middle last h k =
    (h.0, h.1, leads_then hash s ts cs ds (gone_on hash s ts course c) middle last h.2 k)

-- ---- the whole

pub what_can_goes_on : CanExactly → CanOpens → FinishedIsPlanned → WhatCanGoesOn
what_can_goes_on exactly opened as_planned
    v hash advert deal text longer file course tip given strings which l d followed below read fits named asked_for none filled adds clear =
    let keys = deal_keys deal in
    let s : Instance = deal_instance advert deal in
    let told = known course.state strings in
    let ts = transactions hash keys s in
    let tx = finished hash keys s given told l in
    let whole = whole_deal v hash advert deal d in
    let kept = chain_kept hash keys s text course tip followed whole in
    let can = (exactly hash keys s given told course.state tip which l named).0 none in
    let short = (signatures_are_shaped v hash keys s file given read).short in
    let fit = known_fit hash keys s text course tip strings followed fits in
    let ws = witnesses hash keys s given told l l.which in
    let open_all = (opened hash keys s text course tip given strings which l (λ j. takes_all) whole.are_keys whole.applied short fits
    followed named none (all_accepted hash keys given (listed_slots keys s.advert l))).by_input in
    let shown = opened_fine hash (λ j. takes_all) Filled (λ k. input_wallet keys s.advert l.which k) given (stripped (tx_of l.pending)) 0
    l.pending.spends ws open_all (keys_short hash keys s given told short fit l l.which)
    (filled_are hash (λ j. takes_all) (λ k. input_wallet keys s.advert l.which k) 0 ws filled) in
    let lie = placed hash keys s text course tip followed whole in
    let among = in_from_contains (asked s course.state) which asked_for in
    let fine = isnt_bad as_planned hash keys s whole course kept lie given told tip which l named among can shown in
    let name = which_is as_planned hash keys s whole course kept lie given told tip which l named among can shown in
    let leads = (followed_exactly hash keys s text course tip).0 followed in
    let lines = (chains_are_spelled text (read_chain text).confirmed tip).0
    (λ i. record { confirmed = (read_chain text).confirmed; tip = leads.1 i; fault = leads.0 i }) in
    let c : Confirmed = record { line = (1 + length (lines_of text)) + 1; height = tip + 1; tx = tx } in
    let later = gone_on hash s ts course c in
    let new = happened hash s ts course.state (tip + 1) tx in
    let two : AreLines (1 + length (lines_of text)) tip (adds.next ∷ adds.line ∷ []) (c ∷ []) (tip + 1) =
    inr (inl (
      tip + 1,
      record { said = adds.height; within = omega (arith, below); rises = omega arith },
      inr (inr (tx, [], adds.gives, refl, (refl, refl))),
    )) in
    let spelled = (chains_are_spelled longer ((read_chain text).confirmed ++ c ∷ []) (tip + 1)).1 (
      adds.small,
      subst (λ (ls : List (List ℕ)). AreLines 1 0 ls ((read_chain text).confirmed ++ c ∷ []) (tip + 1)) (sym adds.cut)
          (lines_then 1 0 (lines_of text) (adds.next ∷ adds.line ∷ []) (read_chain text).confirmed (c ∷ []) tip (tip + 1) lines.1 two),
    ) in
    let on = leads_then hash s ts (read_chain text).confirmed (c ∷ []) (opening_course hash keys s) course later leads.2 (clear, fine, refl) in
    record {
      later = later;
      followed =
          (followed_exactly hash keys s longer later (tip + 1)).1 (
            ap (λ r. r.fault) spelled,
            ap (λ r. r.tip) spelled,
            subst (λ (cs : List Confirmed). LeadsTo hash s ts (opening_course hash keys s) cs later) (sym (ap (λ r. r.confirmed) spelled)) on,
          );
      happened = new;
      history =
          ap (λ (b : Bool). if_matters b course.history new)
          (ap (λ (o : Option Which). is_some o || (not (length new.steps == 0) || not (length new.gone == 0))) name);
      name = name;
      height = refl;
    }
