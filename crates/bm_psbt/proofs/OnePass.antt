-- What is read in one pass is what is read by the definition.
use Rattle.std.proofs.Common.{◌≡◌, ℕ, zero, suc, List, [], ◌∷◌, length, Bool, true, false, not, eqb, Option, Some, None, refl, sym, ap, subst, ◌∙◌}
use Rattle.std.specs.Prelude.{◌&&◌, if◌then◌else◌}
use Rattle.spec_data.specs.Digits.{onto}
use Rattle.spec_data.specs.Lists.{is_among, are_different}
use Rattle.spec_terms.specs.Precondition.{names_of}
use Rattle.spec_bitcoin.specs.declared.tx.Tx.{Tx}
use Rattle.spec_bitcoin.specs.Reading.{string_at}
use Rattle.spec_text.specs.Words.{◌>>=◌, given}
use Rattle.spec_tool.specs.declared.psbt.PsbtInput.{PsbtInput}
use Rattle.spec_tool.specs.Psbt.{Psbt, Pairing, magic, insert_signature, input_of, inputs_of, global_of}
use Rattle.spec_tool.specs.PsbtBytes.{taken, behind, records_at, map_at, maps_at, psbt_of}
use Rattle.bm_psbt.specs.Gathered.{one_put, gathered, ordered_at}
use Rattle.bm_psbt.specs.Ordered.{input_in, input_at, inputs_at, behind_maps, behind_magic_in_order, psbt_in_order}
use Rattle.bm_psbt.proofs.InOrder.{only_if, put_all, are_new, new_different, input_same, global_same}

-- ---- one map

abbrev Read : Type 0
Read = Option (List Pairing × List ℕ)

abbrev no_read : Read
no_read = None

-- the records put in order among others, where their keys are new
abbrev put_if_new : List Pairing → List Pairing × List ℕ → Read
put_if_new others p = given (are_new others (p.0)) (put_all others (p.0), p.1)

abbrev with_record : Pairing → List Pairing × List ℕ → Read
with_record r rest = Some (r ∷ rest.0, rest.1)

-- one record and those behind it
record_first : (r : Pairing) (others : List Pairing) (rest : Read) → ((rest >>= with_record r) >>= put_if_new others)
    ≡ only_if (not (is_among (r.0) (names_of others))) (rest >>= put_if_new (insert_signature r others))
record_first r others None = by_test (is_among (r.0) (names_of others))
  where
    by_test : (t : Bool) → no_read ≡ only_if (not t) (no_read >>= put_if_new (insert_signature r others))
    by_test true = refl
    by_test false = refl
record_first r others (Some p) = by_test (is_among (r.0) (names_of others))
  where
    by_test : (t : Bool) → given (not t && are_new (insert_signature r others) (p.0)) (put_all (insert_signature r others) (p.0), p.1)
        ≡ only_if (not t) (put_if_new (insert_signature r others) p)
    by_test true = refl
    by_test false = refl

abbrev goes_on : ℕ → List Pairing × List ℕ → Read
goes_on n p = gathered n (p.0) (p.1)

given_put : (t : Bool) (n : ℕ) (p : List Pairing × List ℕ) → (given t p >>= goes_on n) ≡ only_if t (goes_on n p)
given_put true n p = refl
given_put false n p = refl

abbrev behind_value : ℕ → List ℕ → List ℕ × List ℕ → Read
behind_value n key value = records_at n (value.1) >>= with_record (key, value.0)

abbrev behind_key : ℕ → List ℕ × List ℕ → Read
behind_key n key = taken (string_at (key.1)) >>= behind_value n (key.0)

abbrev put_value : List Pairing → List ℕ → List ℕ × List ℕ → Read
put_value others key value = given (not (is_among key (names_of others))) (insert_signature (key, value.0) others, value.1)

abbrev put_key : List Pairing → List ℕ × List ℕ → Read
put_key others key = taken (string_at (key.1)) >>= put_value others (key.0)

at_value : (n : ℕ) (others : List Pairing) (key : List ℕ) (o : Option (List ℕ × List ℕ))
    → ((acc : List Pairing) (bytes : List ℕ) → gathered n acc bytes ≡ (records_at n bytes >>= put_if_new acc))
    → ((o >>= put_value others key) >>= goes_on n) ≡ ((o >>= behind_value n key) >>= put_if_new others)
at_value n others key None later = refl
at_value n others key (Some value) later =
    given_put (not (is_among key (names_of others))) n (insert_signature (key, value.0) others, value.1)
    ∙ ap (λ (o : Read). only_if (not (is_among key (names_of others))) o) (later (insert_signature (key, value.0) others) (value.1))
    ∙ sym (record_first (key, value.0) others (records_at n (value.1)))

at_key : (n : ℕ) (others : List Pairing) (o : Option (List ℕ × List ℕ))
    → ((acc : List Pairing) (bytes : List ℕ) → gathered n acc bytes ≡ (records_at n bytes >>= put_if_new acc))
    → ((o >>= put_key others) >>= goes_on n) ≡ ((o >>= behind_key n) >>= put_if_new others)
at_key n others None later = refl
at_key n others (Some key) later = at_value n others (key.0) (taken (string_at (key.1))) later

gathered_is : (n : ℕ) (others : List Pairing) (bytes : List ℕ) → gathered n others bytes ≡ (records_at n bytes >>= put_if_new others)
unfolding gathered records_at one_put
gathered_is zero others bytes = refl
gathered_is (suc n) others [] = refl
gathered_is (suc n) others (b ∷ bytes) = by_zero (eqb b 0) (at_key n others (taken (string_at (b ∷ bytes))) (gathered_is n))
  where
    by_zero : (t : Bool) → ((taken (string_at (b ∷ bytes)) >>= put_key others) >>= goes_on n)
        ≡ ((taken (string_at (b ∷ bytes)) >>= behind_key n) >>= put_if_new others)
        → (if t then Some (others, bytes) else ((taken (string_at (b ∷ bytes)) >>= put_key others) >>= goes_on n))
        ≡ ((if t then Some ([], bytes) else (taken (string_at (b ∷ bytes)) >>= behind_key n)) >>= put_if_new others)
    by_zero true later = refl
    by_zero false later = later

abbrev in_order : List Pairing × List ℕ → Read
in_order p = Some (put_all [] (p.0), p.1)

given_order : (t : Bool) (p : List Pairing × List ℕ) → given t (put_all [] (p.0), p.1) ≡ (given t p >>= in_order)
given_order true p = refl
given_order false p = refl

if_new : (o : Read) → (o >>= put_if_new []) ≡ ((o >>= λ p. given (are_different (names_of (p.0))) p) >>= in_order)
if_new None = refl
if_new (Some p) = ap (λ (t : Bool). given t (put_all [] (p.0), p.1)) (new_different (p.0)) ∙ given_order (are_different (names_of (p.0))) p

pub ordered_is : (bytes : List ℕ) → ordered_at bytes ≡ (map_at bytes >>= in_order)
ordered_is bytes = gathered_is (length bytes) [] bytes ∙ if_new (records_at (length bytes) bytes)

-- the keys of a map are different
different : (bytes : List ℕ) (m : List Pairing × List ℕ) → map_at bytes ≡ Some m → are_different (names_of (m.0)) ≡ true
different bytes m h = by_read (records_at (length bytes) bytes) h
  where
    by_test : (p : List Pairing × List ℕ) (t : Bool) → are_different (names_of (p.0)) ≡ t → given t p ≡ Some m → are_different (names_of (m.0)) ≡ true
    by_test p true e q = let same : p ≡ m = cc in subst (λ (x : List Pairing × List ℕ). are_different (names_of (x.0)) ≡ true) same e
    by_test p false e q = absurd cc

    by_read : (o : Read) → (o >>= λ p. given (are_different (names_of (p.0))) p) ≡ Some m → are_different (names_of (m.0)) ≡ true
    by_read None e = absurd cc
    by_read (Some p) e = by_test p (are_different (names_of (p.0))) refl e

-- ---- the maps of inputs

abbrev Said : Type 0
Said = Option (List PsbtInput × List ℕ)

abbrev all_said : List (List Pairing) × List ℕ → Said
all_said maps = inputs_of (maps.0) >>= λ said. Some (said, maps.1)

abbrev with_map : List Pairing → List (List Pairing) × List ℕ → Option (List (List Pairing) × List ℕ)
with_map records others = Some (records ∷ others.0, others.1)

abbrev with_input : PsbtInput → List PsbtInput × List ℕ → Said
with_input input others = Some (input ∷ others.0, others.1)

one_said : (i : Option PsbtInput) (records : List Pairing) (maps : Option (List (List Pairing) × List ℕ)) → input_of records ≡ i
    → (i >>= λ input. (maps >>= all_said) >>= with_input input) ≡ ((maps >>= with_map records) >>= all_said)
one_said None records None e = refl
one_said (Some input) records None e = refl
one_said None records (Some m) e = rw e refl
one_said (Some input) records (Some m) e = rw e (by_said (inputs_of (m.0)))
  where
    by_said : (o : Option (List PsbtInput)) → ((o >>= λ said. Some (said, m.1)) >>= with_input input) ≡ (onto (Some input) o >>= λ said. Some (said, m.1))
    by_said None = refl
    by_said (Some said) = refl

abbrev first_input : List Pairing × List ℕ → Option (PsbtInput × List ℕ)
first_input records = input_in (records.0) >>= λ input. Some (input, records.1)

abbrev other_inputs : ℕ → PsbtInput × List ℕ → Said
other_inputs n first = inputs_at n (first.1) >>= with_input (first.0)

abbrev other_maps : ℕ → List Pairing × List ℕ → Option (List (List Pairing) × List ℕ)
other_maps n first = maps_at n (first.1) >>= with_map (first.0)

then_others : (n : ℕ) (i : Option PsbtInput) (rest : List ℕ) → ((i >>= λ input. Some (input, rest)) >>= other_inputs n)
    ≡ (i >>= λ input. inputs_at n rest >>= with_input input)
then_others n None rest = refl
then_others n (Some input) rest = refl

then_read : (i : Option PsbtInput) (x y : Said) → x ≡ y → (i >>= λ input. x >>= with_input input) ≡ (i >>= λ input. y >>= with_input input)
then_read i x y e = ap (λ (z : Said). i >>= λ input. z >>= with_input input) e

said_is : (n : ℕ) (bytes : List ℕ) → inputs_at n bytes ≡ (maps_at n bytes >>= all_said)
unfolding inputs_at maps_at input_at
said_is zero bytes = refl
said_is (suc n) bytes = ap (λ (o : Read). (o >>= first_input) >>= other_inputs n) (ordered_is bytes) ∙ by_map (map_at bytes) refl (said_is n)
  where
    by_map : (o : Read) → map_at bytes ≡ o → ((rest : List ℕ) → inputs_at n rest ≡ (maps_at n rest >>= all_said))
        → (((o >>= in_order) >>= first_input) >>= other_inputs n) ≡ ((o >>= other_maps n) >>= all_said)
    by_map None e later = refl
    by_map (Some m) e later =
        then_others n (input_in (put_all [] (m.0))) (m.1)
        ∙ ap (λ (i : Option PsbtInput). i >>= λ input. inputs_at n (m.1) >>= with_input input) (input_same (m.0) (different bytes m e))
        ∙ then_read (input_of (m.0)) (inputs_at n (m.1)) (maps_at n (m.1) >>= all_said) (later (m.1))
        ∙ one_said (input_of (m.0)) (m.0) (maps_at n (m.1)) refl

-- ---- the maps of outputs

abbrev rest_maps : Option (List (List Pairing) × List ℕ) → Option (List ℕ)
rest_maps maps = maps >>= λ m. Some (m.1)

rest_with : (records : List Pairing) (maps : Option (List (List Pairing) × List ℕ)) → rest_maps (maps >>= with_map records) ≡ rest_maps maps
rest_with records None = refl
rest_with records (Some m) = refl

abbrev next_behind : ℕ → List Pairing × List ℕ → Option (List ℕ)
next_behind n records = behind_maps n (records.1)

behind_is : (n : ℕ) (bytes : List ℕ) → behind_maps n bytes ≡ rest_maps (maps_at n bytes)
unfolding behind_maps maps_at
behind_is zero bytes = refl
behind_is (suc n) bytes = ap (λ (o : Read). o >>= next_behind n) (ordered_is bytes) ∙ by_map (map_at bytes) (behind_is n)
  where
    by_map : (o : Read) → ((rest : List ℕ) → behind_maps n rest ≡ rest_maps (maps_at n rest)) → ((o >>= in_order) >>= next_behind n)
        ≡ rest_maps (o >>= other_maps n)
    by_map None later = refl
    by_map (Some m) later = later (m.1) ∙ sym (rest_with (m.0) (maps_at n (m.1)))

-- ---- the whole

abbrev made : Tx → List PsbtInput → Psbt
made tx inputs = record { tx = tx; inputs = inputs }

abbrev at_end : Tx → List PsbtInput → List ℕ → Option Psbt
at_end tx said rest = given (eqb (length rest) 0) (made tx said)

abbrev behind_inputs : Tx → List PsbtInput × List ℕ → Option Psbt
behind_inputs tx inputs = behind_maps (length tx.outputs) (inputs.1) >>= at_end tx (inputs.0)

abbrev behind_tx : List ℕ → Tx → Option Psbt
behind_tx rest tx = inputs_at (length tx.inputs) rest >>= behind_inputs tx

abbrev behind_global : List Pairing × List ℕ → Option Psbt
behind_global global = global_of (global.0) >>= behind_tx (global.1)

abbrev maps_end : Tx → List PsbtInput → List (List Pairing) × List ℕ → Option Psbt
maps_end tx said outputs = given (eqb (length (outputs.1)) 0) (made tx said)

abbrev behind_said : Tx → List ℕ → List PsbtInput → Option Psbt
behind_said tx rest said = maps_at (length tx.outputs) rest >>= maps_end tx said

abbrev behind_maps_of : Tx → List (List Pairing) × List ℕ → Option Psbt
behind_maps_of tx inputs = inputs_of (inputs.0) >>= behind_said tx (inputs.1)

abbrev maps_behind_tx : List ℕ → Tx → Option Psbt
maps_behind_tx rest tx = maps_at (length tx.inputs) rest >>= behind_maps_of tx

end_is : (tx : Tx) (said : List PsbtInput) (maps : Option (List (List Pairing) × List ℕ)) → (rest_maps maps >>= at_end tx said) ≡ (maps >>= maps_end tx said)
end_is tx said None = refl
end_is tx said (Some m) = refl

inputs_end : (tx : Tx) (maps : Option (List (List Pairing) × List ℕ)) → ((maps >>= all_said) >>= behind_inputs tx) ≡ (maps >>= behind_maps_of tx)
inputs_end tx None = refl
inputs_end tx (Some m) = by_said (inputs_of (m.0))
  where
    by_said : (o : Option (List PsbtInput)) → ((o >>= λ said. Some (said, m.1)) >>= behind_inputs tx) ≡ (o >>= behind_said tx (m.1))
    by_said None = refl
    by_said (Some said) =
        ap (λ (o : Option (List ℕ)). o >>= at_end tx said) (behind_is (length tx.outputs) (m.1)) ∙ end_is tx said (maps_at (length tx.outputs) (m.1))

tx_end : (rest : List ℕ) (o : Option Tx) → (o >>= behind_tx rest) ≡ (o >>= maps_behind_tx rest)
tx_end rest None = refl
tx_end rest (Some tx) = ap (λ (o : Said). o >>= behind_inputs tx) (said_is (length tx.inputs) rest) ∙ inputs_end tx (maps_at (length tx.inputs) rest)

global_end : (bytes : List ℕ) (o : Read) → map_at bytes ≡ o → ((o >>= in_order) >>= behind_global)
    ≡ (o >>= λ global. global_of (global.0) >>= maps_behind_tx (global.1))
global_end bytes None e = refl
global_end bytes (Some m) e = ap (λ (o : Option Tx). o >>= behind_tx (m.1)) (global_same (m.0) (different bytes m e)) ∙ tx_end (m.1) (global_of (m.0))

pub one_pass : (bytes : List ℕ) → psbt_in_order bytes ≡ psbt_of bytes
unfolding behind_magic_in_order psbt_of
one_pass bytes = by_magic (behind magic bytes)
  where
    by_magic : (o : Option (List ℕ)) → (o >>= λ maps. ordered_at maps >>= behind_global)
        ≡ (o >>= λ maps. map_at maps >>= λ global. global_of (global.0) >>= maps_behind_tx (global.1))
    by_magic None = refl
    by_magic (Some maps) = ap (λ (r : Read). r >>= behind_global) (ordered_is maps) ∙ global_end maps (map_at maps) refl
