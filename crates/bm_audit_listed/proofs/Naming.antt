-- The names that are found by the index are those of all that the transaction is without its witnesses.
use Rattle.std.proofs.Common.{◌≡◌, ℕ, ◌+◌, List, [], ◌∷◌, ◌++◌, length, map, Bool, true, false, Option, Some, None}
use Rattle.std.proofs.Common.{refl, sym, ap, subst, ◌∙◌, arith, append_assoc, append-nil, length-append}
use Rattle.std.specs.Prelude.{if◌then◌else◌, slice_get}
use Rattle.std.specs.List.{filter, flat_map}
use Rattle.std.specs.Str.{bytes_eq}
use Rattle.std.proofs.lemmas.Slice.Eq.{bytes_eq-Decides}
use Rattle.spec_bitcoin.specs.declared.tx.Tx.{Tx}
use Rattle.spec_bitcoin.specs.Spelling.{stripped}
use Rattle.spec_run.specs.Ledger.{same_bare}
use Rattle.spec_tool.specs.declared.which.Which.{Which}
use Rattle.theory_bitcoin.proofs.Apart.{stripped_bare}
use Rattle.theory_world.proofs.Ledger.Bare.{same-true}
use Rattle.bm_audit_listed.specs.declared.entries.Candidate.{Candidate}
use Rattle.bm_audit_listed.specs.Parts.{names_of}
use Rattle.bm_audit_listed.specs.Indexed.{places_from, name_by, name_at, IsIndexed}

-- what is the transaction without its witnesses has the same bytes
same_stripped : (tx other : Tx) → same_bare tx other ≡ true → stripped other ≡ stripped tx
same_stripped tx other h = sym (stripped_bare other) ∙ ap stripped (sym (same-true tx other h)) ∙ stripped_bare tx

other_bytes : (tx other : Tx) → bytes_eq (stripped other) (stripped tx) ≡ false → same_bare tx other ≡ false
other_bytes tx other h = by_test (same_bare tx other) refl
  where
    by_test : (b : Bool) → same_bare tx other ≡ b → b ≡ false
    by_test true e = let t = (bytes_eq-Decides (stripped other) (stripped tx)).1 (same_stripped tx other e) in cc
    by_test false e = refl

at_end : (prefix cs : List Candidate) (c : Candidate) → slice_get (prefix ++ c ∷ cs) (length prefix) ≡ Some c
at_end [] cs c = refl
at_end (x ∷ prefix) cs c = at_end prefix cs c

-- the names of those from this place on
pub names_from : (prefix cs : List Candidate) (tx : Tx)
    → flat_map (name_at (prefix ++ cs) tx) (places_from (length prefix) (stripped tx) cs) ≡ names_of cs tx
names_from prefix [] tx = refl
names_from prefix (c ∷ cs) tx =
    let e : length (prefix ++ c ∷ []) ≡ length prefix + 1 = length-append prefix (c ∷ []) in
    let f : (prefix ++ c ∷ []) ++ cs ≡ prefix ++ c ∷ cs = append_assoc prefix (c ∷ []) cs in
    by_bytes (bytes_eq (stripped c.tx) (stripped tx)) refl
    ((λ i. flat_map (name_at (sym f i) tx) (places_from (sym e i) (stripped tx) cs)) ∙ names_from (prefix ++ c ∷ []) cs tx)
  where
    here : (b : Bool) → (if b then c.which ∷ [] else []) ++ names_of cs tx
        ≡ map (λ (x : Candidate). x.which) (if b then c ∷ filter (λ (x : Candidate). same_bare tx x.tx) cs
        else filter (λ (x : Candidate). same_bare tx x.tx) cs)
    here true = refl
    here false = refl

    by_bytes : (b : Bool) → bytes_eq (stripped c.tx) (stripped tx) ≡ b
        → flat_map (name_at (prefix ++ c ∷ cs) tx) (places_from (length prefix + 1) (stripped tx) cs) ≡ names_of cs tx
        → flat_map (name_at (prefix ++ c ∷ cs) tx) (if b then length prefix ∷ places_from (length prefix + 1) (stripped tx) cs
        else places_from (length prefix + 1) (stripped tx) cs)
        ≡ names_of (c ∷ cs) tx
    by_bytes true e later =
        let found = at_end prefix cs c in
        (λ i. name_by tx (found i) ++ later i) ∙ here (same_bare tx c.tx)
    by_bytes false e later =
        let no_name = other_bytes tx c.tx e in
        later ∙ sym (ap (λ b. map (λ (x : Candidate). x.which) (if b then c ∷ filter (λ (x : Candidate). same_bare tx x.tx) cs
        else filter (λ (x : Candidate). same_bare tx x.tx) cs)) no_name)

-- ---- the name at a place

module _ (names : List Which) (cs : List Candidate) (tx : Tx) (place : ℕ) where
  pub put_none : slice_get cs place ≡ None → names ≡ names ++ name_at cs tx place
  put_none h = sym (append-nil names) ∙ ap (λ (o : Option Candidate). names ++ name_by tx o) (sym h)

  pub put_other : (c : Candidate) → slice_get cs place ≡ Some c → same_bare tx c.tx ≡ false → names ≡ names ++ name_at cs tx place
  put_other c h e =
      sym (append-nil names)
      ∙ ap (λ (b : Bool). names ++ (if b then c.which ∷ [] else [])) (sym e)
      ∙ ap (λ (o : Option Candidate). names ++ name_by tx o) (sym h)

  pub put_one : (c : Candidate) (new : List Which) → slice_get cs place ≡ Some c → same_bare tx c.tx ≡ true → new ≡ names ++ c.which ∷ []
      → new ≡ names ++ name_at cs tx place
  put_one c new h e more =
      more
      ∙ ap (λ (b : Bool). names ++ (if b then c.which ∷ [] else [])) (sym e)
      ∙ ap (λ (o : Option Candidate). names ++ name_by tx o) (sym h)

-- ---- the names by the index

pub names_found : (cs : List Candidate) (tx : Tx) (places : List ℕ) → places ≡ places_from 0 (stripped tx) cs
    → flat_map (name_at cs tx) places ≡ names_of cs tx
names_found cs tx places h = ap (flat_map (name_at cs tx)) h ∙ names_from [] cs tx
