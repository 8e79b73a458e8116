-- Bytes are read as the data that they spell.
use Rattle.std.proofs.Common.{◌≡◌, ℕ, List, [], ◌∷◌, ◌++◌, length, Bool, true, false, eqb, Option, None, refl, sym, ap, subst, ◌∙◌}
use Rattle.std.specs.Prelude.{if◌then◌else◌}
use Rattle.std.specs.List.{flat_map, AllByRecursion}
use Rattle.std.proofs.lemmas.Bool.{eqb-true}
use Rattle.std.proofs.lemmas.List.{append-nil, nil_from_length}
use Rattle.spec_bitcoin.specs.declared.tx.Tx.{Tx}
use Rattle.spec_bitcoin.specs.Spelling.{IsBytes}
use Rattle.spec_text.specs.Words.{◌>>=◌, given}
use Rattle.spec_tool.specs.declared.psbt.PsbtInput.{PsbtInput}
use Rattle.spec_tool.specs.Psbt.{Psbt, Pairing, map_bytes, magic, IsMap, global_of, inputs_of, Spells}
use Rattle.spec_tool.specs.PsbtBytes.{behind, map_at, maps_at, psbt_of}
use Rattle.theory_bitcoin.proofs.Exact.{IsBytes-back}
use Rattle.theory_text.proofs.Options.{some, some_is, none_some, came, given_is}
use Rattle.theory_psbt.proofs.Maps.{map_again, maps_again, map_read, maps_read}

-- ---- what stands behind each part

abbrev made : Tx → List PsbtInput → Psbt
made tx inputs = record { tx = tx; inputs = inputs }

abbrev at_end : Tx → List PsbtInput → List (List Pairing) × List ℕ → Option Psbt
at_end tx said outputs = given (eqb (length (outputs.1)) 0) (made tx said)

abbrev behind_said : Tx → List ℕ → List PsbtInput → Option Psbt
behind_said tx rest said = maps_at (length tx.outputs) rest >>= at_end tx said

abbrev behind_inputs : Tx → List (List Pairing) × List ℕ → Option Psbt
behind_inputs tx inputs = inputs_of (inputs.0) >>= behind_said tx (inputs.1)

abbrev behind_tx : List ℕ → Tx → Option Psbt
behind_tx rest tx = maps_at (length tx.inputs) rest >>= behind_inputs tx

abbrev behind_global : List Pairing × List ℕ → Option Psbt
behind_global global = global_of (global.0) >>= behind_tx (global.1)

abbrev behind_magic : List ℕ → Option Psbt
behind_magic maps = map_at maps >>= behind_global

steps : (bytes : List ℕ) → psbt_of bytes ≡ (behind magic bytes >>= behind_magic)
unfolding psbt_of
steps bytes = refl

all_prefix : (P : List Pairing → Type 0) (xs ys : List (List Pairing)) → AllByRecursion P (xs ++ ys) → AllByRecursion P xs
all_prefix P [] ys h = tt
all_prefix P (x ∷ xs) ys h = (h.0, all_prefix P xs ys h.1)

all_back : (P : List Pairing → Type 0) (xs ys : List (List Pairing)) → AllByRecursion P (xs ++ ys) → AllByRecursion P ys
all_back P [] ys h = h
all_back P (x ∷ xs) ys h = all_back P xs ys h.1

all_joined : (P : List Pairing → Type 0) (xs ys : List (List Pairing)) → AllByRecursion P xs → AllByRecursion P ys → AllByRecursion P (xs ++ ys)
all_joined P [] ys h k = k
all_joined P (x ∷ xs) ys h k = (h.0, all_joined P xs ys h.1 k)

-- ---- what is spelled is read

pub spelled_is_read : (bytes : List ℕ) (p : Psbt) → Spells bytes p → psbt_of bytes ≡ some p
spelled_is_read bytes p s =
    let last : List ℕ = flat_map map_bytes s.outputs in
    let inner : List ℕ = flat_map map_bytes s.inputs ++ last in
    let global : map_at (map_bytes s.global ++ inner) ≡ some (s.global, inner) = map_again s.global inner s.maps.0 in
    let inputs : maps_at (length p.tx.inputs) inner ≡ some (s.inputs, last) =
    ap (λ (n : ℕ). maps_at n inner) (sym s.each_input) ∙ maps_again s.inputs last (all_prefix IsMap s.inputs s.outputs s.maps.1) in
    let outputs : maps_at (length p.tx.outputs) last ≡ some (s.outputs, []) =
    ap (λ (n : ℕ). maps_at n last) (sym s.each_output)
    ∙ ap (maps_at (length s.outputs)) (sym (append-nil last)) ∙ maps_again s.outputs [] (all_back IsMap s.inputs s.outputs s.maps.1) in
    steps bytes ∙ rw (s.same, global, s.tx, inputs, s.said, outputs) refl

-- ---- what is read is spelled

behind_is : (prefix bytes rest : List ℕ) → behind prefix bytes ≡ some rest → bytes ≡ prefix ++ rest
behind_is [] bytes rest h = some_is bytes rest h
behind_is (x ∷ xs) [] rest h = absurd (none_some rest h)
behind_is (x ∷ xs) (b ∷ bytes) rest h = by_byte (eqb x b) refl h (behind_is xs bytes rest)
  where
    by_byte : (t : Bool) → eqb x b ≡ t → (if t then behind xs bytes else None) ≡ some rest
        → (behind xs bytes ≡ some rest → bytes ≡ xs ++ rest) → b ∷ bytes ≡ x ∷ (xs ++ rest)
    by_byte true e k later = let same = eqb-true x b e in let tails = later k in cc
    by_byte false e k later = absurd (none_some rest k)

pub read_is_spelled : (bytes : List ℕ) (p : Psbt) → IsBytes bytes → psbt_of bytes ≡ some p → Spells bytes p
read_is_spelled bytes p fits e =
    let m = came (behind magic bytes) behind_magic p (sym (steps bytes) ∙ e) in
    let prefix : bytes ≡ magic ++ m.first = behind_is magic bytes m.first m.is in
    let g = came (map_at m.first) behind_global p m.then' in
    let global = map_read m.first g.first (IsBytes-back magic m.first (subst IsBytes prefix fits)) g.is in
    let t = came (global_of (g.first.0)) (behind_tx (g.first.1)) p g.then' in
    let i = came (maps_at (length t.first.inputs) (g.first.1)) (behind_inputs t.first) p t.then' in
    let inputs = maps_read (length t.first.inputs) (g.first.1) i.first global.fits i.is in
    let s = came (inputs_of (i.first.0)) (behind_said t.first (i.first.1)) p i.then' in
    let o = came (maps_at (length t.first.outputs) (i.first.1)) (at_end t.first s.first) p s.then' in
    let outputs = maps_read (length t.first.outputs) (i.first.1) o.first inputs.fits o.is in
    let done = given_is (eqb (length (o.first.1)) 0) (made t.first s.first) p o.then' in
    let none : o.first.1 ≡ [] = nil_from_length (o.first.1) (eqb-true _ _ done.holds) in
    let last : i.first.1 ≡ flat_map map_bytes (o.first.0) =
    outputs.parts ∙ ap (λ (l : List ℕ). flat_map map_bytes (o.first.0) ++ l) none ∙ append-nil (flat_map map_bytes (o.first.0)) in
    let spells : Spells bytes (made t.first s.first) = record {
      global = g.first.0;
      inputs = i.first.0;
      outputs = o.first.0;
      same = prefix ∙ ap (λ (l : List ℕ). magic ++ l)
          (global.parts ∙ ap (λ (l : List ℕ). map_bytes (g.first.0) ++ l) (inputs.parts ∙ ap (λ (l : List ℕ). flat_map map_bytes (i.first.0) ++ l) last));
      maps = (global.is, all_joined IsMap (i.first.0) (o.first.0) inputs.each outputs.each);
      tx = t.is;
      each_input = inputs.count;
      said = s.is;
      each_output = outputs.count;
    } in
    subst (Spells bytes) done.same spells

pub one_psbt : (bytes : List ℕ) (p q : Psbt) → Spells bytes p → Spells bytes q → p ≡ q
one_psbt bytes p q s t = some_is p q (sym (spelled_is_read bytes p s) ∙ spelled_is_read bytes q t)
