-- Records that are put in order one by one say the same as in the order in which they were read.
use Rattle.std.proofs.Common.{◌≡◌, ℕ, List, [], ◌∷◌, Bool, true, false, not, eqb, Option, Some, None, refl, sym, ap, subst, ◌∙◌}
use Rattle.std.specs.Prelude.{◌||◌, ◌&&◌, if◌then◌else◌, is_some}
use Rattle.std.specs.List.{list_all}
use Rattle.std.specs.Option.{option_or}
use Rattle.std.specs.Str.{bytes_eq}
use Rattle.spec_data.specs.Lists.{look_up, is_among, are_different}
use Rattle.spec_terms.specs.Precondition.{names_of}
use Rattle.spec_bitcoin.specs.declared.tx.Tx.{Tx}
use Rattle.spec_text.specs.Words.{◌>>=◌, given}
use Rattle.spec_tool.specs.declared.psbt.PsbtInput.{PsbtInput}
use Rattle.spec_tool.specs.Psbt.{Pairing, is_before, are_ascending, insert_signature, type_of, key_behind_type, signatures_of, input_fits, input_said, input_of, global_fits, global_of, output_of, witness_of, unsigned_of}
use Rattle.theory_text.proofs.ListFacts.{and_left, and_right, not_yes, bytes_eq-back}
use Rattle.theory_psbt.proofs.Order.{Before, same_bytes, first_before, others_ascend, ascend_with}
use Rattle.theory_psbt.proofs.Records.{signed, other_type, signature_type, whole_key}
use Rattle.theory_psbt.proofs.Signatures.{look_none, put_ascends, put_found, same_signatures}
use Rattle.bm_psbt.specs.Ordered.{signatures_in, said_in, input_in}

-- these records, put in order one by one among others
abbrev pub put_all : List Pairing → List Pairing → List Pairing
put_all others [] = others
put_all others (r ∷ rs) = put_all (insert_signature r others) rs

-- whether each has a key that wasn't there
abbrev pub are_new : List Pairing → List Pairing → Bool
are_new others [] = true
are_new others (r ∷ rs) = not (is_among (r.0) (names_of others)) && are_new (insert_signature r others) rs

-- ---- keys that are new

put_among : (key : List ℕ) (r : Pairing) (ss : List Pairing) → is_among key (names_of (insert_signature r ss))
    ≡ (bytes_eq (r.0) key || is_among key (names_of ss))
put_among key r [] = refl
put_among key r (s ∷ ss) = by_place (is_before (r.0) (s.0)) (put_among key r ss)
  where
    swap : (a b c : Bool) → (b || (a || c)) ≡ (a || (b || c))
    swap true true c = refl
    swap true false c = refl
    swap false b c = refl

    by_place : (t : Bool) → is_among key (names_of (insert_signature r ss)) ≡ (bytes_eq (r.0) key || is_among key (names_of ss))
        → is_among key (names_of (if t then r ∷ (s ∷ ss) else s ∷ insert_signature r ss))
        ≡ (bytes_eq (r.0) key || (bytes_eq (s.0) key || is_among key (names_of ss)))
    by_place true later = refl
    by_place false later = ap (λ (b : Bool). bytes_eq (s.0) key || b) later ∙ swap (bytes_eq (r.0) key) (bytes_eq (s.0) key) (is_among key (names_of ss))

-- whether none of the records has a key of the others
abbrev are_clear : List Pairing → List Pairing → Bool
are_clear others rs = list_all (λ (r : Pairing). not (is_among (r.0) (names_of others))) rs

clear_more : (r : Pairing) (others rs : List Pairing) → are_clear (insert_signature r others) rs ≡ (not (is_among (r.0) (names_of rs)) && are_clear others rs)
clear_more r others [] = refl
clear_more r others (s ∷ rs) =
    ap (λ (b : Bool). not b && are_clear (insert_signature r others) rs) (put_among (s.0) r others)
    ∙ ap (λ (b : Bool). not (bytes_eq (r.0) (s.0) || is_among (s.0) (names_of others)) && b) (clear_more r others rs)
    ∙ ap (λ (b : Bool). not (b || is_among (s.0) (names_of others)) && (not (is_among (r.0) (names_of rs)) && are_clear others rs)) (bytes_eq-back (r.0) (s.0))
    ∙ regroup (bytes_eq (s.0) (r.0)) (is_among (s.0) (names_of others)) (is_among (r.0) (names_of rs)) (are_clear others rs)
  where
    regroup : (a b c d : Bool) → (not (a || b) && (not c && d)) ≡ (not (a || c) && (not b && d))
    regroup true b c d = refl
    regroup false true true d = refl
    regroup false true false d = refl
    regroup false false true d = refl
    regroup false false false d = refl

new_is : (others rs : List Pairing) → are_new others rs ≡ (are_different (names_of rs) && are_clear others rs)
new_is others [] = refl
new_is others (r ∷ rs) =
    ap (λ (b : Bool). not (is_among (r.0) (names_of others)) && b) (new_is (insert_signature r others) rs)
    ∙ ap (λ (b : Bool). not (is_among (r.0) (names_of others)) && (are_different (names_of rs) && b)) (clear_more r others rs)
    ∙ regroup (is_among (r.0) (names_of others)) (is_among (r.0) (names_of rs)) (are_different (names_of rs)) (are_clear others rs)
  where
    regroup : (a b c d : Bool) → (not a && (c && (not b && d))) ≡ ((not b && c) && (not a && d))
    regroup true true c d = refl
    regroup true false true d = refl
    regroup true false false d = refl
    regroup false true true d = refl
    regroup false true false d = refl
    regroup false false true d = refl
    regroup false false false d = refl

all_clear : (rs : List Pairing) → are_clear [] rs ≡ true
all_clear [] = refl
all_clear (r ∷ rs) = all_clear rs

-- among none, keys are new exactly where they are different
pub new_different : (rs : List Pairing) → are_new [] rs ≡ are_different (names_of rs)
new_different rs = new_is [] rs ∙ ap (λ (b : Bool). are_different (names_of rs) && b) (all_clear rs) ∙ or_true (are_different (names_of rs))
  where
    or_true : (b : Bool) → (b && true) ≡ b
    or_true true = refl
    or_true false = refl

-- ---- what is in order

ascends_among : (others rs : List Pairing) → are_ascending (names_of others) ≡ true → are_new others rs ≡ true
    → are_ascending (names_of (put_all others rs)) ≡ true
ascends_among others [] h new = h
ascends_among others (r ∷ rs) h new =
    let first = not_yes _ (and_left _ _ new) in
    ascends_among (insert_signature r others) rs (put_ascends r others h first) (and_right (not (is_among (r.0) (names_of others))) _ new)

pub ascends : (rs : List Pairing) → are_different (names_of rs) ≡ true → are_ascending (names_of (put_all [] rs)) ≡ true
ascends rs h = ascends_among [] rs refl (new_different rs ∙ h)

found_among : (key : List ℕ) (others rs : List Pairing) → are_different (names_of rs) ≡ true → are_new others rs ≡ true
    → look_up key (put_all others rs) ≡ option_or (look_up key rs) (look_up key others)
found_among key others [] d new = refl
found_among key others (r ∷ rs) d new =
    let first = not_yes _ (and_left _ _ new) in
    found_among key (insert_signature r others) rs (and_right (not (is_among (r.0) (names_of rs))) _ d)
    (and_right (not (is_among (r.0) (names_of others))) _ new)
    ∙ ap (λ (o : Option (List ℕ)). option_or (look_up key rs) o) (put_found key r others first)
    ∙ by_key (bytes_eq (r.0) key) refl
  where
    by_key : (t : Bool) → bytes_eq (r.0) key ≡ t → option_or (look_up key rs) (if t then Some (r.1) else look_up key others)
        ≡ option_or (if t then Some (r.1) else look_up key rs) (look_up key others)
    by_key true e =
        let absent : look_up (r.0) rs ≡ None = look_none (r.0) rs (not_yes _ (and_left _ _ d)) in
        let gone : look_up key rs ≡ None = subst (λ (x : List ℕ). look_up x rs ≡ None) (same_bytes (r.0) key e) absent in
        rw gone refl
    by_key false e = refl

pub found : (key : List ℕ) (rs : List Pairing) → are_different (names_of rs) ≡ true → look_up key (put_all [] rs) ≡ look_up key rs
found key rs d = found_among key [] rs d (new_different rs ∙ d) ∙ or_none (look_up key rs)
  where
    or_none : (o : Option (List ℕ)) → option_or o None ≡ o
    or_none (Some x) = refl
    or_none None = refl

swap_and : (a b c : Bool) → (b && (a && c)) ≡ (a && (b && c))
swap_and true b c = refl
swap_and false true c = refl
swap_and false false c = refl

put_each : (f : Pairing → Bool) (r : Pairing) (ss : List Pairing) → list_all f (insert_signature r ss) ≡ (f r && list_all f ss)
put_each f r [] = refl
put_each f r (s ∷ ss) = by_place (is_before (r.0) (s.0)) (put_each f r ss)
  where
    by_place : (t : Bool) → list_all f (insert_signature r ss) ≡ (f r && list_all f ss)
        → list_all f (if t then r ∷ (s ∷ ss) else s ∷ insert_signature r ss) ≡ (f r && (f s && list_all f ss))
    by_place true later = refl
    by_place false later = ap (λ (b : Bool). f s && b) later ∙ swap_and (f r) (f s) (list_all f ss)

each_among : (f : Pairing → Bool) (others rs : List Pairing) → list_all f (put_all others rs) ≡ (list_all f rs && list_all f others)
each_among f others [] = refl
each_among f others (r ∷ rs) =
    each_among f (insert_signature r others) rs ∙ ap (λ (b : Bool). list_all f rs && b) (put_each f r others)
    ∙ regroup (f r) (list_all f rs) (list_all f others)
  where
    regroup : (a b c : Bool) → (b && (a && c)) ≡ ((a && b) && c)
    regroup true b c = refl
    regroup false true c = refl
    regroup false false c = refl

-- what holds of each holds of each in order
pub each : (f : Pairing → Bool) (rs : List Pairing) → list_all f (put_all [] rs) ≡ list_all f rs
each f rs = each_among f [] rs ∙ and_true (list_all f rs)
  where
    and_true : (b : Bool) → (b && true) ≡ b
    and_true true = refl
    and_true false = refl

-- ---- signatures

signatures_found : (key : List ℕ) (rs : List Pairing) → look_up key (signatures_in rs) ≡ look_up (2 ∷ key) rs
signatures_found key [] = refl
signatures_found key (r ∷ rs) = by_type (eqb (type_of r) 2) refl (signatures_found key rs)
  where
    by_type : (t : Bool) → eqb (type_of r) 2 ≡ t → look_up key (signatures_in rs) ≡ look_up (2 ∷ key) rs
        → look_up key (if t then (key_behind_type (r.0), r.1) ∷ signatures_in rs else signatures_in rs) ≡ look_up (2 ∷ key) (r ∷ rs)
    by_type true e later = rw (later, signature_type key (r.0) (r.1) e) refl
    by_type false e later = rw (later, other_type key (r.0) (r.1) e) refl

signatures_before : (key : List ℕ) (rs : List Pairing) → Before (2 ∷ key) (names_of rs) → Before key (names_of (signatures_in rs))
signatures_before key [] h = tt
signatures_before key (r ∷ rs) h = by_type (eqb (type_of r) 2) refl (signatures_before key rs h.1)
  where
    by_type : (t : Bool) → eqb (type_of r) 2 ≡ t → Before key (names_of (signatures_in rs))
        → Before key (names_of (if t then (key_behind_type (r.0), r.1) ∷ signatures_in rs else signatures_in rs))
    by_type true e later = (subst (λ (x : List ℕ). is_before (2 ∷ key) x ≡ true) (sym (whole_key (r.0) (r.1) e)) h.0, later)
    by_type false e later = later

signatures_ascend : (rs : List Pairing) → are_ascending (names_of rs) ≡ true → are_ascending (names_of (signatures_in rs)) ≡ true
signatures_ascend [] h = refl
signatures_ascend (r ∷ rs) h = by_type (eqb (type_of r) 2) refl (signatures_ascend rs (others_ascend (r.0) (names_of rs) h))
  where
    by_type : (t : Bool) → eqb (type_of r) 2 ≡ t → are_ascending (names_of (signatures_in rs)) ≡ true
        → are_ascending (names_of (if t then (key_behind_type (r.0), r.1) ∷ signatures_in rs else signatures_in rs)) ≡ true
    by_type true e later =
        let before : Before (2 ∷ key_behind_type (r.0)) (names_of rs) =
        subst (λ (x : List ℕ). Before x (names_of rs)) (sym (whole_key (r.0) (r.1) e)) (first_before (r.0) (names_of rs) h) in
        ascend_with (key_behind_type (r.0)) (names_of (signatures_in rs)) (signatures_before (key_behind_type (r.0)) rs before) later
    by_type false e later = later

signatures_same : (rs : List Pairing) → are_different (names_of rs) ≡ true → signatures_in (put_all [] rs) ≡ signatures_of rs
signatures_same rs h =
    let s = signed rs h in
    same_signatures (signatures_in (put_all [] rs)) (signatures_of rs) (signatures_ascend (put_all [] rs) (ascends rs h)) s.ascend
    (λ key. signatures_found key (put_all [] rs) ∙ found (2 ∷ key) rs h ∙ sym (s.found key))

-- ---- what the records say

pub input_same : (rs : List Pairing) → are_different (names_of rs) ≡ true → input_in (put_all [] rs) ≡ input_of rs
input_same rs h =
    let spent = ap (λ (o : Option (List ℕ)). o >>= λ bytes. output_of bytes) (found (1 ∷ []) rs h) in
    let partial = signatures_same rs h in
    let all = ap is_some (found (3 ∷ []) rs h) in
    let script = found (5 ∷ []) rs h in
    let witness = ap (λ (o : Option (List ℕ)). o >>= λ bytes. witness_of bytes) (found (8 ∷ []) rs h) in
    let said : said_in (put_all [] rs) ≡ input_said rs = λ k. record {
      spent = spent k;
      partial = partial k;
      all = all k;
      script = script k;
      witness = witness k;
    } in
    ap (λ (t : Bool). given t (said_in (put_all [] rs))) (each input_fits rs) ∙ ap (λ (i : PsbtInput). given (list_all input_fits rs) i) said

abbrev tx_in : List Pairing → Option Tx
tx_in rs = look_up (0 ∷ []) rs >>= λ bytes. unsigned_of bytes

-- what is there, only where a test holds
abbrev pub only_if : {A : Type 0} → Bool → Option A → Option A
only_if true o = o
only_if false o = None

given_tx : (t : Bool) (rs : List Pairing) → (given t rs >>= tx_in) ≡ only_if t (tx_in rs)
given_tx true rs = refl
given_tx false rs = refl

pub global_same : (rs : List Pairing) → are_different (names_of rs) ≡ true → global_of (put_all [] rs) ≡ global_of rs
global_same rs h =
    given_tx (list_all global_fits (put_all [] rs)) (put_all [] rs)
    ∙ ap (λ (t : Bool). only_if t (tx_in (put_all [] rs))) (each global_fits rs)
    ∙ ap (λ (o : Option (List ℕ)). only_if (list_all global_fits rs) (o >>= λ bytes. unsigned_of bytes)) (found (0 ∷ []) rs h)
    ∙ sym (given_tx (list_all global_fits rs) rs)
