-- Addresses are read back, and are the addresses of one script.
use Rattle.std.proofs.Common.{◌≡◌, ℕ, suc, ◌+◌, ◌-◌, ◌<◌, ◌≤◌, List, [], ◌∷◌, ◌++◌, length, take, drop, map, Bool, true, false, Option, Some, None, refl, sym, ap, subst, ◌∙◌, arith, inl, inr, ◌⊎◌, length-append}
use Rattle.std.specs.Prelude.{is_some, slice_index, nat_le, ◌==◌, ◌&&◌, ◌||◌, if◌then◌else◌}
use Rattle.std.specs.Char.{to_ascii_lowercase, to_ascii_uppercase}
use Rattle.std.specs.List.{list_all}
use Rattle.std.specs.Str.{bytes_eq, str_to_ascii_lowercase, str_to_ascii_uppercase}
use Rattle.std.proofs.lemmas.Bool.{and_parts, eqb-true}
use Rattle.std.proofs.lemmas.List.{map-append}
use Rattle.std.proofs.lemmas.Slice.Eq.{bytes_eq-Decides}
use Rattle.std.proofs.lemmas.Str.Ascii.{lowercase-uppercase}
use Rattle.std.proofs.Math.Seq.{take-append_seam, drop-append-add}
use Rattle.spec_address.specs.Checksum.{check_values}
use Rattle.spec_address.specs.Groups.{group_at, groups_of, bytes_of}
use Rattle.spec_address.specs.Address as spec
use Rattle.spec_address.specs.Address.{operation_of, version_of, pushes_version, is_program_size, are_bytes, is_witness_output, letter_of, separator, text_of, short, address, spells, reads, value_of, values_of, script_of, read_address}
use Rattle.theory_address.proofs.Groups.{bytes_back, length_groups}
use Rattle.theory_address.proofs.Letters.{AreSmall, small_append, small_map, small_letter_back, capital_back, values_back, letters_are_small, HasNoSeparator, letters_have_none, before_last}
use Rattle.theory_address.specs.Addresses.{AddressesAreReadBack, EachHasAddress, OneNetwork, OneScript, ReadExactly, ReadIsShort, ReadIsShown}

-- ---- the values of an address

-- the values whose letters stand behind the separator
abbrev values : List ℕ → ℕ → List ℕ → List ℕ
values hrp version groups = version ∷ groups ++ check_values hrp version (version ∷ groups)

check_small : (hrp : List ℕ) (version : ℕ) (vs : List ℕ) → AreSmall (check_values hrp version vs)
unfolding check_values
check_small hrp version vs = (omega arith, (omega arith, (omega arith, (omega arith, (omega arith, (omega arith, tt))))))

check_length : (hrp : List ℕ) (version : ℕ) (vs : List ℕ) → length (check_values hrp version vs) ≡ 6
unfolding check_values
check_length hrp version vs = refl

group_small : (bytes : List ℕ) (i : ℕ) → group_at bytes i < 32
unfolding group_at
group_small bytes i = omega arith

-- ---- a witness output script

record IsOutput (operation size : ℕ) (program : List ℕ) : Type 0 where
  pushes : pushes_version operation ≡ true
  sized : size ≡ length program
  fits : is_program_size (version_of operation) size ≡ true
  bytes : are_bytes program ≡ true

output_is : (operation size : ℕ) (program : List ℕ) → is_witness_output (operation ∷ size ∷ program) ≡ true → IsOutput operation size program
output_is operation size program h =
    let fits = is_program_size (version_of operation) size in
    let p = and_parts (pushes_version operation) (size == length program && (fits && are_bytes program)) h in
    let q = and_parts (size == length program) (fits && are_bytes program) p.1 in
    let r = and_parts fits (are_bytes program) q.1 in
    record { pushes = p.0; sized = eqb-true size (length program) q.0; fits = r.0; bytes = r.1 }

version_small : (operation : ℕ) → pushes_version operation ≡ true → version_of operation < 32
version_small operation h = grind (arith, h)

operation_back : (operation : ℕ) → pushes_version operation ≡ true → operation_of (version_of operation) ≡ operation
operation_back operation h = grind (arith, h)

values_small : (hrp : List ℕ) (operation : ℕ) (program : List ℕ) → pushes_version operation ≡ true
    → AreSmall (values hrp (version_of operation) (groups_of program))
values_small hrp operation program h =
    let version = version_of operation in
    let check = check_values hrp version (version ∷ groups_of program) in
    let groups_are = small_map (group_at program) 0 _ (group_small program) in
    (version_small operation h, small_append (groups_of program) check groups_are (check_small hrp version (version ∷ groups_of program)))

-- ---- from the values to the script

-- the groups between the version and the last six values
middle : (version : ℕ) (groups check : List ℕ) → length check ≡ 6
    → take (length (version ∷ groups ++ check) - 7) (drop 1 (version ∷ groups ++ check)) ≡ groups
middle version groups check six =
    let all : length (groups ++ check) ≡ length groups + length check = length-append groups check in
    let n : length (version ∷ groups ++ check) - 7 ≡ length groups = omega (arith, all, six) in
    ap (λ k. take k (groups ++ check)) n ∙ take-append_seam groups check

script_back : (operation size : ℕ) (program check : List ℕ) → IsOutput operation size program → length check ≡ 6
    → script_of (version_of operation ∷ groups_of program ++ check) ≡ operation ∷ size ∷ program
script_back operation size program check is six =
    let back = ap bytes_of (middle (version_of operation) (groups_of program) check six) ∙ bytes_back program is.bytes in
    (λ j. operation_of (version_of operation) ∷ length (back j) ∷ back j) ∙ (λ j. operation_back operation is.pushes j ∷ sym is.sized j ∷ program)

-- ---- what an address is

record IsAddress (hrp script text : List ℕ) : Type 0 where
  output : is_witness_output script ≡ true
  same : text ≡ text_of hrp (version_of (slice_index script 0)) (groups_of (drop 2 script))

some_is : (one other : List ℕ) → Some one ≡ Some other → one ≡ other
some_is one other h = cc

short_is : (text given : List ℕ) (t : Bool) → (if t then Some given else None) ≡ Some text → text ≡ given
short_is text given true h = sym (some_is given text h)
short_is text given false h = absurd cc

address_is : (hrp script text : List ℕ) → address hrp script ≡ Some text → IsAddress hrp script text
unfolding address
address_is hrp script text h = by (is_witness_output script) refl h
  where
    given : List ℕ
    given = text_of hrp (version_of (slice_index script 0)) (groups_of (drop 2 script))

    by : (t : Bool) → is_witness_output script ≡ t → (if t then short given else None) ≡ Some text → IsAddress hrp script text
    by true e h = record { output = e; same = short_is text given (nat_le (length given) 90) h }
    by false e h = absurd cc

-- ---- the values of a word

-- what stands behind the human-readable part and the separator
behind : (hrp : List ℕ) (s : ℕ) (rest : List ℕ) → drop (length hrp + 1) (hrp ++ s ∷ rest) ≡ rest
behind hrp s rest = drop-append-add hrp (s ∷ rest) 1

map_map : (f g : ℕ → ℕ) (vs : List ℕ) → map f (map g vs) ≡ map (λ v. f (g v)) vs
map_map f g [] = refl
map_map f g (v ∷ vs) = ap (λ (rest : List ℕ). f (g v) ∷ rest) (map_map f g vs)

values_of_small : (hrp vs : List ℕ) → AreSmall vs → values_of hrp (hrp ++ separator ∷ map letter_of vs) ≡ vs
values_of_small hrp vs small =
    ap (λ word. map value_of (map to_ascii_lowercase word)) (behind hrp separator (map letter_of vs)) ∙ values_back letter_of vs small_letter_back small

length_map : (f : ℕ → ℕ) (xs : List ℕ) → length (map f xs) ≡ length xs
length_map f [] = refl
length_map f (x ∷ xs) = ap suc (length_map f xs)

values_of_capitals : (hrp vs : List ℕ) → AreSmall vs → values_of hrp (str_to_ascii_uppercase (hrp ++ separator ∷ map letter_of vs)) ≡ vs
values_of_capitals hrp vs small =
    let upper = map to_ascii_uppercase in
    let cut = ap (λ n. drop (n + 1) (upper (hrp ++ separator ∷ map letter_of vs))) (sym (length_map to_ascii_uppercase hrp))
    ∙ ap (drop (length (upper hrp) + 1)) (map-append to_ascii_uppercase hrp (separator ∷ map letter_of vs))
    ∙ behind (upper hrp) separator (upper (map letter_of vs)) ∙ map_map to_ascii_uppercase letter_of vs in
    ap (λ word. map value_of (map to_ascii_lowercase word)) cut ∙ values_back (λ v. to_ascii_uppercase (letter_of v)) vs capital_back small

-- ---- what is read

record IsSpelled (word : List ℕ) (o : Option (List ℕ)) : Type 0 where
  text : List ℕ
  is : o ≡ Some text
  either : (word ≡ text) ⊎ (word ≡ str_to_ascii_uppercase text)

spelled_is : (word : List ℕ) (o : Option (List ℕ)) → spells word o ≡ true → IsSpelled word o
spelled_is word None h = absurd cc
spelled_is word (Some text) h = by (bytes_eq word text) refl h
  where
    capitals : Bool
    capitals = bytes_eq word (str_to_ascii_uppercase text)

    by : (t : Bool) → bytes_eq word text ≡ t → (t || capitals) ≡ true → IsSpelled word (Some text)
    by true e h = record { text = text; is = refl; either = inl ((bytes_eq-Decides word text).0 e) }
    by false e h = record { text = text; is = refl; either = inr ((bytes_eq-Decides word (str_to_ascii_uppercase text)).0 h) }

-- the script that a word spells
spelled_script : (hrp word script : List ℕ) → reads hrp word script ≡ true → script_of (values_of hrp word) ≡ script
spelled_script hrp word script h = of_output script (spelled_is word (address hrp script) h)
  where
    of_output : (script : List ℕ) → IsSpelled word (address hrp script) → script_of (values_of hrp word) ≡ script
    of_output [] is = absurd (let a = (address_is hrp [] is.text is.is).output in cc)
    of_output (operation ∷ []) is = absurd (let a = (address_is hrp (operation ∷ []) is.text is.is).output in cc)
    of_output (operation ∷ size ∷ program) is =
        let a = address_is hrp (operation ∷ size ∷ program) is.text is.is in
        let o = output_is operation size program a.output in
        let version = version_of operation in
        let vs = values hrp version (groups_of program) in
        let small = values_small hrp operation program o.pushes in
        let check = check_values hrp version (version ∷ groups_of program) in
        let back = script_back operation size program check o (check_length hrp version (version ∷ groups_of program)) in
        elim is.either [
          | inl e ↦ ap (λ w. script_of (values_of hrp w)) (e ∙ a.same) ∙ ap script_of (values_of_small hrp vs small) ∙ back
          | inr e ↦ ap (λ w. script_of (values_of hrp w)) (e ∙ ap str_to_ascii_uppercase a.same) ∙ ap script_of (values_of_capitals hrp vs small) ∙ back
        ]

reads_give : (hrp word script : List ℕ) → reads hrp word script ≡ true → read_address hrp word ≡ Some script
unfolding read_address
reads_give hrp word script h =
    let e = spelled_script hrp word script h in
    ap (λ s. if reads hrp word s then Some s else None) e ∙ ap (λ t. if t then Some script else None) h

given_reads : (hrp word script : List ℕ) → read_address hrp word ≡ Some script → reads hrp word script ≡ true
unfolding read_address
given_reads hrp word script h = by (reads hrp word spelled) refl h
  where
    spelled : List ℕ
    spelled = script_of (values_of hrp word)

    by : (t : Bool) → reads hrp word spelled ≡ t → (if t then Some spelled else None) ≡ Some script → reads hrp word script ≡ true
    by true e h = subst (λ s. reads hrp word s ≡ true) (some_is spelled script h) e
    by false e h = absurd cc

pub read_exactly : ReadExactly
read_exactly hrp word script = (given_reads hrp word script, reads_give hrp word script)

pub one_script : OneScript
one_script hrp word one other h k = some_is one other (sym (reads_give hrp word one h) ∙ reads_give hrp word other k)

pub addresses_are_read_back : AddressesAreReadBack
addresses_are_read_back hrp script text h =
    reads_give hrp text script (ap (spells text) h ∙ ap (λ t. t || bytes_eq text (str_to_ascii_uppercase text)) ((bytes_eq-Decides text text).1 refl))

-- ---- shown again

hrp_is_small : (hrp : List ℕ) → list_all spec.is_hrp_character hrp ≡ true → map to_ascii_lowercase hrp ≡ hrp
hrp_is_small [] h = refl
hrp_is_small (b ∷ hrp) h =
    let p = and_parts (spec.is_hrp_character b) (list_all spec.is_hrp_character hrp) h in
    λ j. small_character b (p.0) j ∷ hrp_is_small hrp (p.1) j
  where
    small_character : (b : ℕ) → spec.is_hrp_character b ≡ true → to_ascii_lowercase b ≡ b
    small_character b h = grind (arith, h)

-- a text whose human-readable part has no capitals has none
text_is_small : (hrp vs : List ℕ) → list_all spec.is_hrp_character hrp ≡ true → AreSmall vs
    → str_to_ascii_lowercase (hrp ++ separator ∷ map letter_of vs) ≡ hrp ++ separator ∷ map letter_of vs
text_is_small hrp vs h small =
    map-append to_ascii_lowercase hrp (separator ∷ map letter_of vs) ∙ (λ j. hrp_is_small hrp h j ++ separator ∷ letters_are_small vs small j)

small_of_capitals : (text : List ℕ) → str_to_ascii_lowercase (str_to_ascii_uppercase text) ≡ str_to_ascii_lowercase text
small_of_capitals [] = refl
small_of_capitals (b ∷ text) = λ j. lowercase-uppercase b j ∷ small_of_capitals text j

address_is_small : (hrp script text : List ℕ) → list_all spec.is_hrp_character hrp ≡ true → IsAddress hrp script text → str_to_ascii_lowercase text ≡ text
address_is_small hrp [] text h a = absurd (let o = a.output in cc)
address_is_small hrp (operation ∷ []) text h a = absurd (let o = a.output in cc)
address_is_small hrp (operation ∷ size ∷ program) text h a =
    let o = output_is operation size program a.output in
    let small = values_small hrp operation program o.pushes in
    ap str_to_ascii_lowercase a.same ∙ text_is_small hrp (values hrp (version_of operation) (groups_of program)) h small ∙ sym a.same

hrp_characters : (hrp : List ℕ) → spec.is_hrp hrp ≡ true → (length hrp ≤ 18) × (list_all spec.is_hrp_character hrp ≡ true)
hrp_characters hrp h =
    let p = and_parts (nat_le 1 (length hrp)) (nat_le (length hrp) 18 && list_all spec.is_hrp_character hrp) h in
    let q = and_parts (nat_le (length hrp) 18) (list_all spec.is_hrp_character hrp) p.1 in
    let n = q.0 in
    (grind (arith, n), q.1)

pub read_is_shown : ReadIsShown
read_is_shown hrp word script hrp_is h =
    let is = spelled_is word (address hrp script) h in
    let small = address_is_small hrp script is.text ((hrp_characters hrp hrp_is).1) (address_is hrp script is.text is.is) in
    let lower : str_to_ascii_lowercase word ≡ is.text =
    elim is.either [
      | inl e ↦ ap str_to_ascii_lowercase e ∙ small
      | inr e ↦ ap str_to_ascii_lowercase e ∙ small_of_capitals is.text ∙ small
    ] in
    is.is ∙ ap (λ (t : List ℕ). Some t) (sym lower)

-- ---- one network

record IsSplit (hrp text : List ℕ) : Type 0 where
  letters : List ℕ
  same : text ≡ hrp ++ separator ∷ letters
  none : HasNoSeparator letters

split_is : (hrp script text : List ℕ) → IsAddress hrp script text → IsSplit hrp text
split_is hrp [] text a = absurd (let o = a.output in cc)
split_is hrp (operation ∷ []) text a = absurd (let o = a.output in cc)
split_is hrp (operation ∷ size ∷ program) text a =
    let vs = values hrp (version_of operation) (groups_of program) in
    let o = output_is operation size program a.output in
    record { letters = map letter_of vs; same = a.same; none = letters_have_none vs (values_small hrp operation program o.pushes) }

pub one_network : OneNetwork
one_network one other word script script' h k reads_one reads_other =
    let small = str_to_ascii_lowercase word in
    let a = split_is one script small (address_is one script small (read_is_shown one word script h reads_one)) in
    let b = split_is other script' small (address_is other script' small (read_is_shown other word script' k reads_other)) in
    before_last one other a.letters b.letters a.none b.none (sym a.same ∙ b.same)

-- ---- each script has one

program_length : (version size : ℕ) → is_program_size version size ≡ true → size ≤ 40
program_length version size h = grind (arith, h)

text_length : (hrp : List ℕ) (version : ℕ) (groups : List ℕ) → length (text_of hrp version groups) ≡ length hrp + (length groups + 8)
text_length hrp version groups =
    let vs = values hrp version groups in
    let check = check_values hrp version (version ∷ groups) in
    let a : length (text_of hrp version groups) ≡ length hrp + suc (length (map letter_of vs)) = length-append hrp (separator ∷ map letter_of vs) in
    let b : length (map letter_of vs) ≡ suc (length (groups ++ check)) = length_map letter_of vs in
    let c : length (groups ++ check) ≡ length groups + length check = length-append groups check in
    let d = check_length hrp version (version ∷ groups) in
    omega (arith, a, b, c, d)

le_true : (a b : ℕ) → a ≤ b → nat_le a b ≡ true
le_true a b h = grind (arith, h)

address_of : (hrp script : List ℕ) → is_witness_output script ≡ true
    → nat_le (length (text_of hrp (version_of (slice_index script 0)) (groups_of (drop 2 script)))) 90 ≡ true
    → address hrp script ≡ Some (text_of hrp (version_of (slice_index script 0)) (groups_of (drop 2 script)))
unfolding address
address_of hrp script h k =
    let text = text_of hrp (version_of (slice_index script 0)) (groups_of (drop 2 script)) in
    ap (λ t. if t then short text else None) h ∙ ap (λ t. if t then Some text else None) k

pub each_has_address : EachHasAddress
each_has_address hrp [] hrp_is h = absurd cc
each_has_address hrp (operation ∷ []) hrp_is h = absurd cc
each_has_address hrp (operation ∷ size ∷ program) hrp_is h =
    let o = output_is operation size program h in
    let most = program_length (version_of operation) size o.fits in
    let few = (hrp_characters hrp hrp_is).0 in
    let count = length_groups program in
    let n = text_length hrp (version_of operation) (groups_of program) in
    let all : length (text_of hrp (version_of operation) (groups_of program)) ≤ 90 = omega (arith, n, count, o.sized, most, few) in
    ap is_some (address_of hrp (operation ∷ size ∷ program) h (le_true (length (text_of hrp (version_of operation) (groups_of program))) 90 all))

-- ---- how long a word is that is read

spelled_length : (word text : List ℕ) → (word ≡ text) ⊎ (word ≡ str_to_ascii_uppercase text) → length word ≡ length text
spelled_length word text (inl e) = ap length e
spelled_length word text (inr e) = ap length e ∙ length_map to_ascii_uppercase text

address_is_short : (hrp script text : List ℕ) → address hrp script ≡ Some text → length text ≤ 90
unfolding address
address_is_short hrp script text h = by (is_witness_output script) (nat_le (length given) 90) refl h
  where
    given : List ℕ
    given = text_of hrp (version_of (slice_index script 0)) (groups_of (drop 2 script))

    by : (output few : Bool) → nat_le (length given) 90 ≡ few → (if output then (if few then Some given else None) else None) ≡ Some text → length text ≤ 90
    by true true e h = let n = ap (length {A = ℕ}) (some_is given text h) in grind (arith, n, e)
    by true false e h = absurd cc
    by false few e h = absurd cc

pub read_is_short : ReadIsShort
read_is_short hrp word script h =
    let is = spelled_is word (address hrp script) h in
    subst (λ n. n ≤ 90) (sym (spelled_length word is.text is.either)) (address_is_short hrp script is.text is.is)
