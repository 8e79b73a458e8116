-- Maps are read as they are spelled: their records up to the byte 00.
use Rattle.std.proofs.Common.{◌≡◌, ℕ, zero, suc, ◌+◌, ◌<◌, List, [], ◌∷◌, ◌++◌, length, Bool, true, false, eqb, Option, None, Result, Ok, Err, refl, sym, ap, subst, ◌∙◌, append_assoc, arith}
use Rattle.std.specs.Int.{w16, w32, w64, to_le_bytes}
use Rattle.std.specs.List.{flat_map, AllByRecursion}
use Rattle.std.proofs.lemmas.Bool.{ne_eqb, eqb-true, eqb-false}
use Rattle.std.proofs.lemmas.List.{length-append, nil_from_length}
use Rattle.std.proofs.lemmas.List.Concat.{flat_map-cons}
use Rattle.spec_data.specs.Lists.{are_different}
use Rattle.spec_terms.specs.Precondition.{names_of}
use Rattle.spec_bitcoin.specs.Spelling.{compact, sized, IsBytes, IsString}
use Rattle.spec_bitcoin.specs.Reading.{string_at}
use Rattle.spec_text.specs.Words.{◌>>=◌, given}
use Rattle.spec_tool.specs.Psbt.{Pairing, pairing_bytes, map_bytes, IsPairing, IsMap}
use Rattle.spec_tool.specs.PsbtBytes.{taken, records_at, map_at, maps_at}
use Rattle.theory_bitcoin.proofs.Exact.{IsBytes-back}
use Rattle.theory_bitcoin.proofs.Formats.{Form, single, two, four, eight, form_of}
use Rattle.theory_bitcoin.proofs.Parts.{the_string}
use Rattle.theory_text.proofs.Options.{some, some_is, none_some, came, given_is}

-- ---- counts

-- a count that isn't 0 begins with a byte that isn't 0
record Count_begins (n : ℕ) : Type 0 where
  head : ℕ
  tail : List ℕ
  is : compact n ≡ head ∷ tail
  some : eqb head 0 ≡ false

count_begins : (n : ℕ) → (n ≡ 0 → ⊥) → Count_begins n
count_begins n some = by_form (form_of n)
  where
    by_form : Form n → Count_begins n
    by_form (single lt e) = record { head = n; tail = []; is = e; some = ne_eqb n 0 some }
    by_form (two ge lt e) = record { head = 253; tail = to_le_bytes w16 n; is = e; some = refl }
    by_form (four ge lt e) = record { head = 254; tail = to_le_bytes w32 n; is = e; some = refl }
    by_form (eight ge e) = record { head = 255; tail = to_le_bytes w64 n; is = e; some = refl }

count_some : (n : ℕ) → 0 < length (compact n)
count_some n = by_form (form_of n)
  where
    by_form : Form n → 0 < length (compact n)
    by_form (single lt e) = rw e (omega arith)
    by_form (two ge lt e) = rw e (omega arith)
    by_form (four ge lt e) = rw e (omega arith)
    by_form (eight ge e) = rw e (omega arith)

-- ---- one record

abbrev with_record : Pairing → List Pairing × List ℕ → Option (List Pairing × List ℕ)
with_record r rest = some (r ∷ rest.0, rest.1)

abbrev behind_value : ℕ → List ℕ → List ℕ × List ℕ → Option (List Pairing × List ℕ)
behind_value n key value = records_at n (value.1) >>= with_record (key, value.0)

abbrev behind_key : ℕ → List ℕ × List ℕ → Option (List Pairing × List ℕ)
behind_key n key = taken (string_at (key.1)) >>= behind_value n (key.0)

abbrev one_more : ℕ → List ℕ → Option (List Pairing × List ℕ)
one_more n bytes = taken (string_at bytes) >>= behind_key n

more_at : (n b : ℕ) (bytes : List ℕ) → eqb b 0 ≡ false → records_at (suc n) (b ∷ bytes) ≡ one_more n (b ∷ bytes)
unfolding records_at
more_at n b bytes h = rw h refl

end_at : (n b : ℕ) (bytes : List ℕ) → eqb b 0 ≡ true → records_at (suc n) (b ∷ bytes) ≡ some ([], bytes)
unfolding records_at
end_at n b bytes h = rw h refl

no_room : (bytes : List ℕ) → records_at 0 bytes ≡ None
unfolding records_at
no_room bytes = refl

no_end : (n : ℕ) → records_at (suc n) [] ≡ None
unfolding records_at
no_end n = refl

string_taken : (text rest : List ℕ) → IsString text → taken (string_at (sized text ++ rest)) ≡ some (text, rest)
string_taken text rest h = rw (the_string.again (sized text) rest text (record { same = refl; fits = h })) refl

-- ---- what is spelled is read

map_parts : (r : Pairing) (rs : List Pairing) (rest : List ℕ) → map_bytes (r ∷ rs) ++ rest ≡ sized (r.0) ++ (sized (r.1) ++ (map_bytes rs ++ rest))
map_parts r rs rest = rw (flat_map-cons pairing_bytes r rs) (simp append_assoc)

sized_begins : (text rest : List ℕ) (c : Count_begins (length text)) → sized text ++ rest ≡ c.head ∷ ((c.tail ++ text) ++ rest)
sized_begins text rest c = ap (λ (l : List ℕ). (l ++ text) ++ rest) c.is

read_again : (records : List Pairing) (n : ℕ) (rest : List ℕ) → AllByRecursion IsPairing records → length records < n
    → records_at n (map_bytes records ++ rest) ≡ some (records, rest)
read_again records zero rest h lt = absurd (omega arith)
read_again [] (suc n) rest h lt = end_at n 0 rest refl
read_again (r ∷ rs) (suc n) rest h lt =
    let c = count_begins (length (r.0)) (eqb-false _ _ h.0.some) in
    let behind = sized (r.1) ++ (map_bytes rs ++ rest) in
    let begins : map_bytes (r ∷ rs) ++ rest ≡ c.head ∷ ((c.tail ++ r.0) ++ behind) = map_parts r rs rest ∙ sized_begins (r.0) behind c in
    let key : taken (string_at (c.head ∷ ((c.tail ++ r.0) ++ behind))) ≡ some (r.0, behind) =
    ap (λ (l : List ℕ). taken (string_at l)) (sym (sized_begins (r.0) behind c)) ∙ string_taken (r.0) behind h.0.key in
    let value : taken (string_at behind) ≡ some (r.1, map_bytes rs ++ rest) = string_taken (r.1) (map_bytes rs ++ rest) h.0.value in
    let others : records_at n (map_bytes rs ++ rest) ≡ some (rs, rest) = read_again rs n rest h.1 (omega arith) in
    ap (records_at (suc n)) begins ∙ more_at n c.head ((c.tail ++ r.0) ++ behind) c.some ∙ rw (key, value, others) refl

-- there are more bytes than records
enough : (records : List Pairing) → length records < length (map_bytes records)
enough [] = omega arith
enough (r ∷ rs) =
    let parts : length (map_bytes (r ∷ rs)) ≡ length (pairing_bytes r) + length (map_bytes rs) =
    ap (λ (l : List ℕ). length (l ++ 0 ∷ [])) (flat_map-cons pairing_bytes r rs)
    ∙ ap length (append_assoc (pairing_bytes r) (flat_map pairing_bytes rs) (0 ∷ [])) ∙ length-append (pairing_bytes r) (map_bytes rs) in
    omega (arith, parts, enough rs, length-append (sized (r.0)) (sized (r.1)), length-append (compact (length (r.0))) (r.0), count_some (length (r.0)))

pub map_again : (records : List Pairing) (rest : List ℕ) → IsMap records → map_at (map_bytes records ++ rest) ≡ some (records, rest)
map_again records rest h =
    let many : length records < length (map_bytes records ++ rest) = omega (arith, length-append (map_bytes records) rest, enough records) in
    rw (read_again records (length (map_bytes records ++ rest)) rest h.each many, h.apart) refl

pub maps_again : (maps : List (List Pairing)) (rest : List ℕ) → AllByRecursion IsMap maps
    → maps_at (length maps) (flat_map map_bytes maps ++ rest) ≡ some (maps, rest)
unfolding maps_at
maps_again [] rest h = refl
maps_again (m ∷ ms) rest h =
    let parts : flat_map map_bytes (m ∷ ms) ++ rest ≡ map_bytes m ++ (flat_map map_bytes ms ++ rest) =
    ap (λ (l : List ℕ). l ++ rest) (flat_map-cons map_bytes m ms) ∙ append_assoc (map_bytes m) (flat_map map_bytes ms) rest in
    rw (parts, map_again m (flat_map map_bytes ms ++ rest) h.0, maps_again ms rest h.1) refl

-- ---- what is read is spelled

-- records were read from the prefix, and the rest is left
pub record Records_read (bytes : List ℕ) (records : List Pairing) (rest : List ℕ) : Type 0 where
  pub parts : bytes ≡ map_bytes records ++ rest
  pub each : AllByRecursion IsPairing records
  pub fits : IsBytes rest

-- a string that was read from the prefix
record String_read (bytes text rest : List ℕ) : Type 0 where
  parts : bytes ≡ sized text ++ rest
  is : IsString text
  fits : IsBytes rest

taken_is : {A : Type 0} (r : Result (A × List ℕ) ℕ) (x : A × List ℕ) → taken r ≡ some x → r ≡ Ok x
taken_is (Ok y) x h = let e = some_is y x h in cc
taken_is (Err left) x h = absurd (none_some x h)

string_read : (bytes : List ℕ) (x : List ℕ × List ℕ) → IsBytes bytes → taken (string_at bytes) ≡ some x → String_read bytes (x.0) (x.1)
string_read bytes x fits h =
    let t = the_string.takes bytes (x.0) (x.1) fits (taken_is (string_at bytes) x h) in
    let parts : bytes ≡ sized (x.0) ++ x.1 = t.parts ∙ ap (λ (l : List ℕ). l ++ x.1) t.spelled.same in
    record { parts = parts; is = t.spelled.fits; fits = IsBytes-back (sized (x.0)) (x.1) (subst IsBytes parts fits) }

empty_begins : (text rest bytes : List ℕ) (b : ℕ) → text ≡ [] → b ∷ bytes ≡ sized text ++ rest → b ≡ 0
unfolding compact
empty_begins text rest bytes b none e =
    let q : b ∷ bytes ≡ 0 ∷ rest = e ∙ ap (λ (t : List ℕ). sized t ++ rest) none in
    cc

key_some : (text rest bytes : List ℕ) (b : ℕ) → eqb b 0 ≡ false → b ∷ bytes ≡ sized text ++ rest → (t : Bool) → eqb (length text) 0 ≡ t → t ≡ false
key_some text rest bytes b h e true z = absurd (eqb-false b 0 h (empty_begins text rest bytes b (nil_from_length text (eqb-true _ _ z)) e))
key_some text rest bytes b h e false z = refl

more_read : (n b : ℕ) (bytes : List ℕ) (records : List Pairing) (rest : List ℕ) → IsBytes (b ∷ bytes) → eqb b 0 ≡ false
    → one_more n (b ∷ bytes) ≡ some (records, rest)
    → ((after : List ℕ) (rs : List Pairing) → IsBytes after → records_at n after ≡ some (rs, rest) → Records_read after rs rest)
    → Records_read (b ∷ bytes) records rest
more_read n b bytes records rest fits h e later =
    let k = came (taken (string_at (b ∷ bytes))) (behind_key n) (records, rest) e in
    let key = string_read (b ∷ bytes) k.first fits k.is in
    let v = came (taken (string_at (k.first.1))) (behind_value n (k.first.0)) (records, rest) k.then' in
    let value = string_read (k.first.1) v.first key.fits v.is in
    let o = came (records_at n (v.first.1)) (with_record (k.first.0, v.first.0)) (records, rest) v.then' in
    let all = some_is ((k.first.0, v.first.0) ∷ o.first.0, o.first.1) (records, rest) o.then' in
    let same : (k.first.0, v.first.0) ∷ o.first.0 ≡ records = ap (λ (p : List Pairing × List ℕ). p.0) all in
    let left : o.first.1 ≡ rest = ap (λ (p : List Pairing × List ℕ). p.1) all in
    let others = later (v.first.1) (o.first.0) value.fits (o.is ∙ ap (λ (l : List ℕ). some (o.first.0, l)) left) in
    let r : Pairing = (k.first.0, v.first.0) in
    subst (λ (l : List Pairing). Records_read (b ∷ bytes) l rest) same (record {
      parts = key.parts ∙ ap (λ (l : List ℕ). sized (k.first.0) ++ l)
          (value.parts ∙ ap (λ (l : List ℕ). sized (v.first.0) ++ l) others.parts) ∙ sym (map_parts r (o.first.0) rest);
      each = (
        record {
          some = key_some (k.first.0) (k.first.1) bytes b h key.parts (eqb (length (k.first.0)) 0)
              refl;
          key = key.is;
          value = value.is;
        },
        others.each,
      );
      fits = others.fits;
    })

records_read : (n : ℕ) (bytes : List ℕ) (records : List Pairing) (rest : List ℕ) → IsBytes bytes → records_at n bytes ≡ some (records, rest)
    → Records_read bytes records rest
records_read zero bytes records rest fits e = absurd (none_some _ (sym (no_room bytes) ∙ e))
records_read (suc n) [] records rest fits e = absurd (none_some _ (sym (no_end n) ∙ e))
records_read (suc n) (b ∷ bytes) records rest fits e =
    by_zero (eqb b 0) refl (λ after rs f h. records_read n after rs rest f h)
  where
    by_zero : (t : Bool) → eqb b 0 ≡ t → ((after : List ℕ) (rs : List Pairing) → IsBytes after → records_at n after ≡ some (rs, rest)
        → Records_read after rs rest)
        → Records_read (b ∷ bytes) records rest
    by_zero true z later =
        let all = some_is ([], bytes) (records, rest) (sym (end_at n b bytes z) ∙ e) in
        let same : [] ≡ records = ap (λ (p : List Pairing × List ℕ). p.0) all in
        let left : bytes ≡ rest = ap (λ (p : List Pairing × List ℕ). p.1) all in
        let zero_is = eqb-true b 0 z in
        let r : Records_read (b ∷ bytes) [] rest = record { parts = cc; each = tt; fits = subst IsBytes left (IsBytes-back (b ∷ []) bytes fits) } in
        subst (λ (l : List Pairing). Records_read (b ∷ bytes) l rest) same r
    by_zero false z later = more_read n b bytes records rest fits z (sym (more_at n b bytes z) ∙ e) later

-- maps were read from the prefix, and the rest is left
pub record Maps_read (n : ℕ) (bytes : List ℕ) (maps : List (List Pairing)) (rest : List ℕ) : Type 0 where
  pub count : length maps ≡ n
  pub parts : bytes ≡ flat_map map_bytes maps ++ rest
  pub each : AllByRecursion IsMap maps
  pub fits : IsBytes rest

-- a map was read from the prefix, and the rest is left
pub record Map_read (bytes : List ℕ) (records : List Pairing) (rest : List ℕ) : Type 0 where
  pub parts : bytes ≡ map_bytes records ++ rest
  pub is : IsMap records
  pub fits : IsBytes rest

abbrev if_apart : List Pairing × List ℕ → Option (List Pairing × List ℕ)
if_apart p = given (are_different (names_of (p.0))) p

pub map_read : (bytes : List ℕ) (x : List Pairing × List ℕ) → IsBytes bytes → map_at bytes ≡ some x → Map_read bytes (x.0) (x.1)
map_read bytes x fits e =
    let c = came (records_at (length bytes) bytes) if_apart x e in
    let g = given_is (are_different (names_of (c.first.0))) c.first x c.then' in
    let r = records_read (length bytes) bytes (c.first.0) (c.first.1) fits c.is in
    let m : Map_read bytes (c.first.0) (c.first.1) = record { parts = r.parts; is = record { each = r.each; apart = g.holds }; fits = r.fits } in
    subst (λ (y : List Pairing × List ℕ). Map_read bytes (y.0) (y.1)) g.same m

abbrev with_map : List Pairing → List (List Pairing) × List ℕ → Option (List (List Pairing) × List ℕ)
with_map records others = some (records ∷ others.0, others.1)

abbrev behind_map : ℕ → List Pairing × List ℕ → Option (List (List Pairing) × List ℕ)
behind_map n first = maps_at n (first.1) >>= with_map (first.0)

no_map : (bytes : List ℕ) → maps_at 0 bytes ≡ some ([], bytes)
unfolding maps_at
no_map bytes = refl

one_map : (n : ℕ) (bytes : List ℕ) → maps_at (suc n) bytes ≡ (map_at bytes >>= behind_map n)
unfolding maps_at
one_map n bytes = refl

pub maps_read : (n : ℕ) (bytes : List ℕ) (x : List (List Pairing) × List ℕ) → IsBytes bytes → maps_at n bytes ≡ some x → Maps_read n bytes (x.0) (x.1)
maps_read zero bytes x fits e =
    let all = some_is ([], bytes) x (sym (no_map bytes) ∙ e) in
    let m : Maps_read 0 bytes [] bytes = record { count = refl; parts = refl; each = tt; fits = fits } in
    subst (λ (y : List (List Pairing) × List ℕ). Maps_read 0 bytes (y.0) (y.1)) all m
maps_read (suc n) bytes x fits e =
    let c = came (map_at bytes) (behind_map n) x (sym (one_map n bytes) ∙ e) in
    let f = map_read bytes c.first fits c.is in
    let o = came (maps_at n (c.first.1)) (with_map (c.first.0)) x c.then' in
    let others = maps_read n (c.first.1) o.first f.fits o.is in
    let all = some_is (c.first.0 ∷ o.first.0, o.first.1) x o.then' in
    let parts : bytes ≡ flat_map map_bytes (c.first.0 ∷ o.first.0) ++ o.first.1 =
    f.parts ∙ ap (λ (l : List ℕ). map_bytes (c.first.0) ++ l) others.parts
    ∙ sym (append_assoc (map_bytes (c.first.0)) (flat_map map_bytes (o.first.0)) (o.first.1))
    ∙ ap (λ (l : List ℕ). l ++ o.first.1) (sym (flat_map-cons map_bytes (c.first.0) (o.first.0))) in
    let m : Maps_read (suc n) bytes (c.first.0 ∷ o.first.0) (o.first.1) = record {
      count = ap suc others.count;
      parts = parts;
      each = (f.is, others.each);
      fits = others.fits;
    } in
    subst (λ (y : List (List Pairing) × List ℕ). Maps_read (suc n) bytes (y.0) (y.1)) all m
