-- Scripts of different positions, and of deposits, are different.
use Rattle.std.proofs.Common.{◌≡◌, ℕ, List, [], ◌∷◌, ◌++◌, length, map, Bool, true, false, Option, Some, refl, sym, ap, ◌∙◌, subst, arith}
use Rattle.std.specs.Prelude.{slice_get}
use Rattle.std.proofs.lemmas.Bool.{eq-eqb}
use Rattle.std.proofs.lemmas.List.{append_cancel_right}
use Rattle.spec_data.specs.Lists.{is_among}
use Rattle.spec_terms.specs.Term as term
use Rattle.spec_terms.specs.Term.{Contract, branches, auth, after, put_reveal, withdraw, split}
use Rattle.spec_terms.specs.Core.{core}
use Rattle.spec_terms.specs.declared.path.PathStep.{PathStep}
use Rattle.spec_terms.specs.declared.path.PathStep.TheVariants.{Branch as To}
use Rattle.spec_bitcoin.specs.declared.label.Label.{Label}
use Rattle.spec_bitcoin.specs.declared.label.Label.TheVariants as labels
use Rattle.spec_bitcoin.specs.declared.script.Op.{Op}
use Rattle.spec_bitcoin.specs.declared.script.Op.TheVariants.{Push, Code}
use Rattle.spec_bitcoin.specs.Scripts.{script_ops, encode}
use Rattle.spec_bitcoin.specs.Keys.{key_of, label_text, deposit_script, IsLabel}
use Rattle.spec_compiler.specs.Scripts.{output_ops, demands_of, demands_from}
use Rattle.spec_compiler.specs.Instance.{Instance, branch_path, branch_label, branch_keys, people, position_script}
use Rattle.spec_compiler.specs.Statements.{IsHash, IsCompiled}
use Rattle.theory_bitcoin.proofs.Labels.{one_label}
use Rattle.theory_script.proofs.Scripts.Demanded.{IsWell, AllWell}
use Rattle.theory_script.proofs.Scripts.Opened.{is_checked, cost_is}
use Rattle.theory_script.proofs.Encoding.{encode_read}
use Rattle.theory_world.specs.KeptApart.{NoCollision}
use Rattle.theory_world.proofs.Hashed.{among_head}
use Rattle.theory_world.proofs.Contracts.FirstKey.{first_key, output_first}
use Rattle.theory_world.proofs.Book.{key-apart}

-- the first key of a position's script is a participant's
pub record ScriptKey (hash : List ℕ → List ℕ) (s : Instance) (q : List PathStep) (script : List ℕ) : Type 0 where
  pub person : List ℕ
  pub takes_part : is_among person (people s) ≡ true
  pub ops : List Op
  pub spells : script_ops script ≡ Some ops
  pub first : first_key ops ≡ Some (key_of hash (branch_label s.contract (q ++ To 0 ∷ []) person))
  pub branch : term.Guarded

keys_same : (c : term.Guarded) (keys : List (List ℕ)) (hashes : List (List ℕ × List ℕ)) → (demands_of c keys hashes).keys ≡ keys
keys_same (put_reveal puts reveals test next) keys hashes = refl
keys_same (auth party body) keys hashes = refl
keys_same (after height body) keys hashes = refl
keys_same (withdraw party) keys hashes = refl
keys_same (split parts) keys hashes = refl

pub script_key : (hash : List ℕ → List ℕ) (s : Instance) (q : List PathStep) (choice : Contract) → IsHash hash → IsCompiled s q choice
    → (b : term.Guarded) → slice_get (branches choice) 0 ≡ Some b → ScriptKey hash s q (position_script hash s q choice)
script_key hash s q choice size comp b there =
    by_branches (branches choice) refl there (is_checked hash s q choice size comp).well (cost_is hash s q choice size comp).spells
  where
    by_people : (ps : List (List ℕ)) → people s ≡ ps → (c : term.Guarded) (bs : List term.Guarded)
        → IsWell (demands_of (core c) (map (λ party. key_of hash (branch_label s.contract (branch_path q 0) party)) ps) s.hashes)
        → script_ops (position_script hash s q choice)
        ≡ Some (output_ops (demands_of (core c) (map (λ party. key_of hash (branch_label s.contract (branch_path q 0) party)) ps)
        s.hashes ∷ demands_from (λ i. branch_keys hash s (branch_path q i)) s.hashes 1 bs))
        → ScriptKey hash s q (position_script hash s q choice)
    by_people [] e c bs w sp = absurd (let k = ap length (keys_same (core c) [] s.hashes) in let l = w.some_key in omega (arith, k, l))
    by_people (p ∷ ps) e c bs w sp =
        let key = key_of hash (branch_label s.contract (branch_path q 0) p) in
        let rest = map (λ party. key_of hash (branch_label s.contract (branch_path q 0) party)) ps in
        let len : length key ≡ 33 = (let l = size (label_text (branch_label s.contract (branch_path q 0) p)) in omega (arith, l)) in
        record {
          person = p;
          takes_part = subst (λ xs. is_among p xs ≡ true) (sym e) (among_head p ps);
          ops = output_ops (demands_of (core c) (key ∷ rest) s.hashes ∷ demands_from (λ i. branch_keys hash s (branch_path q i)) s.hashes 1 bs);
          spells = sp;
          first = output_first (demands_of (core c) (key ∷ rest) s.hashes)
              (demands_from (λ i. branch_keys hash s (branch_path q i)) s.hashes 1 bs) key rest (keys_same (core c) (key ∷ rest) s.hashes) len w.digest_sizes;
          branch = c;
        }

    by_branches : (xs : List term.Guarded) → branches choice ≡ xs → slice_get xs 0 ≡ Some b
        → AllWell (demands_from (λ i. branch_keys hash s (branch_path q i)) s.hashes 0 xs)
        → script_ops (position_script hash s q choice)
        ≡ Some (output_ops (demands_from (λ i. branch_keys hash s (branch_path q i)) s.hashes 0 xs)) → ScriptKey hash s q (position_script hash s q choice)
    by_branches [] e h w sp = cc
    by_branches (c ∷ bs) e h w sp = by_people (people s) refl c bs w.0 sp

deposit_written : (key : List ℕ) → length key ≡ 33 → encode (Push key ∷ (Code 172 ∷ [])) ≡ deposit_script key
deposit_written key h = rw h refl

-- the first key of a deposit's script
pub deposit_first : (key : List ℕ) → length key ≡ 33 → (script_ops (deposit_script key) ≡ Some (Push key ∷ (Code 172 ∷ [])))
    × (first_key (Push key ∷ (Code 172 ∷ [])) ≡ Some key)
deposit_first key h = (
  subst (λ x. script_ops x ≡ Some (Push key ∷ (Code 172 ∷ []))) (deposit_written key h) (encode_read (Push key ∷ (Code 172 ∷ [])) (rw h refl)),
  rw (eq-eqb (length key) 33 h) refl,
)

same_some : {A : Type 0} (x y : A) → (let o : Option A = Some x in o) ≡ Some y → x ≡ y
same_some x y h = cc

module _ (hash : List ℕ → List ℕ) (size : IsHash hash) (hs : List (List ℕ)) (clear : NoCollision hash hs) where
  labels_same : (l m : Label) → IsLabel l → IsLabel m → is_among (label_text l) hs ≡ true → is_among (label_text m) hs ≡ true
      → key_of hash l ≡ key_of hash m → l ≡ m
  labels_same l m il im hl hm e = one_label l m il im (key-apart hash hs l m clear hl hm e)

  abbrev contract_in : Label → ℕ
  contract_in (labels.Deposit party) = 0
  contract_in (labels.Branch contract path party) = contract

  abbrev path_in : Label → List PathStep
  path_in (labels.Deposit party) = []
  path_in (labels.Branch contract path party) = path

  abbrev is_branch_label : Label → Bool
  is_branch_label (labels.Deposit party) = false
  is_branch_label (labels.Branch contract path party) = true

  -- two positions with one script are one
  pub one_position : (s t : Instance) (q r : List PathStep) (script : List ℕ) (a : ScriptKey hash s q script) (b : ScriptKey hash t r script)
      → IsLabel (branch_label s.contract (q ++ To 0 ∷ []) a.person) → IsLabel (branch_label t.contract (r ++ To 0 ∷ []) b.person)
      → is_among (label_text (branch_label s.contract (q ++ To 0 ∷ []) a.person)) hs ≡ true
      → is_among (label_text (branch_label t.contract (r ++ To 0 ∷ []) b.person)) hs ≡ true
      → (s.contract ≡ t.contract) × (q ≡ r)
  one_position s t q r script a b ia ib ha hb =
      let e : a.ops ≡ b.ops = same_some a.ops b.ops (sym a.spells ∙ b.spells) in
      let k = same_some (key_of hash (branch_label s.contract (q ++ To 0 ∷ []) a.person))
      (key_of hash (branch_label t.contract (r ++ To 0 ∷ []) b.person)) (sym a.first ∙ ap first_key e ∙ b.first) in
      let l = labels_same (branch_label s.contract (q ++ To 0 ∷ []) a.person) (branch_label t.contract (r ++ To 0 ∷ []) b.person) ia ib ha hb k in
      (ap contract_in l, append_cancel_right q r (To 0 ∷ []) (ap path_in l))

  -- a position's script is no deposit's
  pub no_deposit : (s : Instance) (q : List PathStep) (script party : List ℕ) (a : ScriptKey hash s q script)
      → IsLabel (branch_label s.contract (q ++ To 0 ∷ []) a.person)
      → is_among (label_text (branch_label s.contract (q ++ To 0 ∷ []) a.person)) hs ≡ true → is_among (label_text (labels.Deposit party)) hs ≡ true
      → script ≡ deposit_script (key_of hash (labels.Deposit party)) → ⊥
  no_deposit s q script party a ia ha hd e =
      let key = key_of hash (labels.Deposit party) in
      let len : length key ≡ 33 = (let l = size (label_text (labels.Deposit party)) in omega (arith, l)) in
      let d = deposit_first key len in
      let o : a.ops ≡ Push key ∷ (Code 172 ∷ []) = same_some a.ops (Push key ∷ (Code 172 ∷ [])) (sym a.spells ∙ ap script_ops e ∙ d.0) in
      let k = same_some (key_of hash (branch_label s.contract (q ++ To 0 ∷ []) a.person)) key (sym a.first ∙ ap first_key o ∙ d.1) in
      let l = labels_same (branch_label s.contract (q ++ To 0 ∷ []) a.person) (labels.Deposit party) ia tt ha hd k in
      let b : true ≡ false = ap is_branch_label l in
      cc
