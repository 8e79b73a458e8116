-- What is read and what is combined is a partially signed transaction.
use Rattle.std.proofs.Common.{◌≡◌, ℕ, suc, List, [], ◌∷◌, ◌++◌, length, Bool, true, Option, None, Result, Ok, Err, refl, sym, ap, subst, ◌∙◌}
use Rattle.std.specs.List.{list_all, AllByRecursion}
use Rattle.std.proofs.lemmas.Bool.{eq-eqb}
use Rattle.spec_data.specs.Lists.{look_up}
use Rattle.spec_terms.specs.Precondition.{names_of}
use Rattle.spec_bitcoin.specs.declared.tx.Tx.{Tx}
use Rattle.spec_bitcoin.specs.Reading.{transaction_of}
use Rattle.spec_text.specs.Words.{◌>>=◌, given}
use Rattle.spec_tool.specs.declared.psbt.PsbtInput.{PsbtInput}
use Rattle.spec_tool.specs.Psbt.{Psbt, Pairing, are_ascending, is_unsigned, is_psbt, IsMap, unsigned_of, global_fits, global_of, input_fits, input_said, input_of, inputs_of, Spells}
use Rattle.theory_text.proofs.ListFacts.{and_is}
use Rattle.theory_text.proofs.Options.{some, some_is, none_some, came, onto_is, given_is}
use Rattle.theory_psbt.proofs.Records.{signed}

abbrev pub signs_ascend : PsbtInput → Bool
signs_ascend input = are_ascending (names_of input.partial)

unsigned_read : (bytes : List ℕ) (tx : Tx) → unsigned_of bytes ≡ some tx → is_unsigned tx ≡ true
unsigned_read bytes tx h = by_answer (transaction_of bytes) h
  where
    by_answer : (r : Result Tx ℕ) → elim r [ Ok t ↦ given (is_unsigned t) t | Err place ↦ None ] ≡ some tx → is_unsigned tx ≡ true
    by_answer (Ok t) e = let g = given_is (is_unsigned t) t tx e in subst (λ (x : Tx). is_unsigned x ≡ true) g.same g.holds
    by_answer (Err place) e = absurd (none_some tx e)

abbrev of_known : List Pairing → Option Tx
of_known known = look_up (0 ∷ []) known >>= unsigned_of

pub global_unsigned : (records : List Pairing) (tx : Tx) → global_of records ≡ some tx → is_unsigned tx ≡ true
global_unsigned records tx h =
    let k = came (given (list_all global_fits records) records) of_known tx h in
    let b = came (look_up (0 ∷ []) k.first) unsigned_of tx k.then' in
    unsigned_read b.first tx b.then'

-- what the maps of inputs say, one for each of them, with signatures that ascend
pub record Inputs_said (maps : List (List Pairing)) (inputs : List PsbtInput) : Type 0 where
  pub count : length inputs ≡ length maps
  pub ascend : list_all signs_ascend inputs ≡ true

pub inputs_said : (maps : List (List Pairing)) (inputs : List PsbtInput) → AllByRecursion IsMap maps → inputs_of maps ≡ some inputs → Inputs_said maps inputs
inputs_said [] inputs h e = subst (Inputs_said []) (some_is [] inputs e) (record { count = refl; ascend = refl })
inputs_said (m ∷ maps) inputs h e =
    let o = onto_is (input_of m) (inputs_of maps) inputs e in
    let later = inputs_said maps o.others h.1 o.are in
    let g = given_is (list_all input_fits m) (input_said m) o.first o.is in
    let first : signs_ascend o.first ≡ true = subst (λ (i : PsbtInput). signs_ascend i ≡ true) g.same (signed m h.0.apart).ascend in
    subst (Inputs_said (m ∷ maps)) (sym o.all) (record { count = ap suc later.count; ascend = and_is _ _ first later.ascend })

all_prefix : (P : List Pairing → Type 0) (xs ys : List (List Pairing)) → AllByRecursion P (xs ++ ys) → AllByRecursion P xs
all_prefix P [] ys h = tt
all_prefix P (x ∷ xs) ys h = (h.0, all_prefix P xs ys h.1)

pub spelled_is_psbt : (bytes : List ℕ) (p : Psbt) → Spells bytes p → is_psbt p ≡ true
spelled_is_psbt bytes p s =
    let inputs = inputs_said s.inputs p.inputs (all_prefix IsMap s.inputs s.outputs s.maps.1) s.said in
    and_is _ _ (and_is _ _ (global_unsigned s.global p.tx s.tx) (eq-eqb (length p.inputs) (length p.tx.inputs) (inputs.count ∙ s.each_input))) inputs.ascend
