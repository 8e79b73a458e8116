-- The keys and hashes of a deal that is taken are of bytes, and its deposits lie at places that a transaction can name.
use Rattle.std.proofs.Common.{◌≡◌, ℕ, zero, suc, ◌+◌, ◌^◌, List, [], ◌∷◌, ◌++◌, length, map, Bool, true, false, Option, Some, None}
use Rattle.std.proofs.Common.{◌<◌, ◌≤◌, refl, sym, ◌∙◌, subst, cond, arith, lit<, inl, inr}
use Rattle.std.specs.Prelude.{◌⊎◌, ◌&&◌, ◌||◌, ◌==◌, nat_le, nat_lt, Result, Ok, Err, codes, reverse, replicate, take, drop, slice_index}
use Rattle.std.specs.Prelude.{if◌then◌else◌}
use Rattle.std.specs.List.{find, flat_map}
use Rattle.std.specs.Option.{option_map}
use Rattle.std.specs.Str.{bytes_eq}
use Rattle.std.proofs.lemmas.Bool.{eqb-true, and_parts}
use Rattle.std.proofs.lemmas.Bool.Decides.{nat_tests}
use Rattle.std.proofs.lemmas.List.{length-reverse, reverse-append}
use Rattle.spec_data.specs.Digits.{read_hex}
use Rattle.spec_data.specs.Hashes.{IsBytes}
use Rattle.spec_data.proofs.ByteLemmas.{IsBytes-append}
use Rattle.spec_data.specs.Lists.{or_else, look_up}
use Rattle.spec_terms.specs.Advert.{Advert}
use Rattle.spec_terms.specs.Parties.{participants}
use Rattle.spec_compiler.specs.Keyed.OwnScripts.{pays_to_key_hash, key_hash_code}
use Rattle.spec_compiler.specs.Keyed.Statements.{IsPayable, ArePayable}
use Rattle.spec_address.specs.Groups.{groups_of}
use Rattle.spec_address.specs.Address.{is_hrp, pushes_version, version_of, is_program_size, are_bytes, is_witness_output, text_of, short}
use Rattle.spec_address.specs.Address.{address, spells, read_address}
use Rattle.theory_address.proofs.Addresses.{read_exactly}
use Rattle.spec_bitcoin.specs.declared.label.Label.{Label}
use Rattle.spec_bitcoin.specs.declared.tx.OutPoint.{OutPoint}
use Rattle.spec_bitcoin.specs.Spelling.{IsPlace}
use Rattle.spec_text.specs.Lines.{lines_of, words_of}
use Rattle.spec_text.specs.Words.{◌>>=◌, given, small, one_of, digest}
use Rattle.spec_deal.specs.declared.deal.Deal.{Deal}
use Rattle.spec_deal.specs.declared.deal.Needed.{Needed}
use Rattle.spec_deal.specs.declared.deal.Needed.TheVariants as needs
use Rattle.spec_deal.specs.declared.entry.Value.{Value}
use Rattle.spec_deal.specs.declared.entry.Value.TheVariants.{Key as key, Place as place, Wallet as wallet, Hash as hash}
use Rattle.spec_deal.specs.declared.entry.Value.TheVariants.{Network as hrp, Script as script}
use Rattle.spec_deal.specs.declared.entry.Entry.{Entry}
use Rattle.spec_deal.specs.declared.fault.DealReason.TheVariants as reasons
use Rattle.spec_deal.specs.declared.fault.DealFault.{DealFault}
use Rattle.spec_deal.specs.declared.fault.DealFault.TheVariants as faults
use Rattle.spec_deal.specs.DealFile.{is_key, key_of_word, outpoint_of_words, place_of_words, hash_of_word, label_of_word, spelled_script}
use Rattle.spec_deal.specs.DealFile.{Line, empty, bad, gives, given_once, with_value, with_needed, key_line, deposit_line, hash_line}
use Rattle.spec_deal.specs.DealFile.{network_line, payee_line, line_says, network_of_word, wallet_of_words, payee_of_word}
use Rattle.spec_deal.specs.DealFile.{file_network, read_entries, no_place, value_for, key_or_none, place_or_none, hash_or_none}
use Rattle.spec_deal.specs.DealFile.{with_key, with_script, wallet_given, script_given, read_deal}
use Rattle.spec_deal.specs.Payable.{is_program, pays_to_script_hash, has_taproot_form, pays_to_taproot, pays_to_wallet}
use Rattle.spec_deal.specs.Payable.{pays_to_older_key_hash, script_hash_code, pays_to_older_script_hash, is_payable}
use Rattle.spec_deal.specs.Needed.{needed_labels, needed_deposits, needed_secrets, same_needed, same_label}
use Rattle.spec_deal.specs.Setting.{key_at, deal_keys}
use Rattle.spec_deal.specs.Verifier.{Verifier}
use Rattle.theory_bitcoin.proofs.Exact.{bytes_none, bytes_cons}
use Rattle.theory_calculus.specs.Members.{Is_in}
use Rattle.theory_calculus.proofs.Members.{in_append, found}
use Rattle.theory_text.proofs.Lines.Decimals.{number_less}
use Rattle.theory_text.proofs.Lines.Hex.{read_hex_is}
use Rattle.theory_psbt_listed.proofs.Digests.{BytesIn}
use Rattle.theory_deal.proofs.ReadDeals.{is_of}
use Rattle.theory_deal.proofs.Widths.ScriptBytes.{KeysOfBytes, AreBrought}

-- ---- bytes

reversed : (bytes : List ℕ) → IsBytes bytes → IsBytes (reverse bytes)
reversed [] h = bytes_none
reversed (b ∷ bytes) h =
    subst IsBytes (sym (reverse-append (b ∷ []) bytes))
    (IsBytes-append (reverse bytes) (b ∷ []) (reversed bytes (λ i. h (suc i))) (bytes_cons b [] (h zero) bytes_none))

zeros : (n : ℕ) → IsBytes (replicate n 0)
zeros zero = bytes_none
zeros (suc n) = bytes_cons 0 (replicate n 0) (lit< tt) (zeros n)

-- ---- what a line gives

-- a value of bytes, a place that can be named, and a script that isn't long
abbrev IsFine : Value → Type 0
IsFine (key bytes) = IsBytes bytes
IsFine (place outpoint) = IsPlace outpoint
IsFine (wallet outpoint own) = IsPlace outpoint × IsPayable own
IsFine (hash bytes) = IsBytes bytes
IsFine (hrp part) = Unit {0}
IsFine (script bytes) = IsPayable bytes

abbrev IfFine : Option Value → Type 0
IfFine None = Unit {0}
IfFine (Some value) = IsFine value

abbrev LineFine : Line → Type 0
LineFine empty = Unit {0}
LineFine (bad reason) = Unit {0}
LineFine (gives e) = IsFine e.value

once_fine : (a b : Option Entry) (e : Entry) → IsFine e.value → LineFine (given_once a b e)
once_fine (Some earlier) b e h = tt
once_fine None (Some other) e h = tt
once_fine None None e h = h

value_fine_at : (entries : List Entry) (n : ℕ) (what : Needed) (value : Option Value) → IfFine value
    → LineFine (with_value entries n what value)
value_fine_at entries n what None h = tt
value_fine_at entries n what (Some value) h = once_fine _ _ (record { line = n; needed = what; value = value }) h

needed_fine : (entries : List Entry) (n : ℕ) (what : Option Needed) (value : Option Value) → IfFine value
    → LineFine (with_needed entries n what value)
needed_fine entries n None value h = tt
needed_fine entries n (Some what) value h = value_fine_at entries n what value h

key_fine : (v : Verifier) (word : List ℕ) → IfFine (key_of_word v word)
key_fine v word = by_hex (read_hex word) refl
  where
    by_key : (bytes : List ℕ) (b : Bool) → IsBytes bytes → IfFine (given b (key bytes))
    by_key bytes true h = h
    by_key bytes false h = tt

    by_hex : (o : Option (List ℕ)) → read_hex word ≡ o → IfFine (o >>= λ bytes. given (is_key v bytes) (key bytes))
    by_hex None e = tt
    by_hex (Some bytes) e = by_key bytes (is_key v bytes) (read_hex_is word bytes e).bytes

-- a digest that was read
record IsRead (text : List ℕ) : Type 0 where
  each : IsBytes text
  size : length text ≡ 32

abbrev IfRead : Option (List ℕ) → Type 0
IfRead None = Unit {0}
IfRead (Some bytes) = IsRead bytes

digest_read : (word : List ℕ) → IfRead (digest word)
digest_read word = by_hex (read_hex word) refl
  where
    by_size : (bytes : List ℕ) (b : Bool) → (length bytes == 32) ≡ b → IsBytes bytes → IfRead (given b bytes)
    by_size bytes true e h = record { each = h; size = eqb-true (length bytes) 32 e }
    by_size bytes false e h = tt

    by_hex : (o : Option (List ℕ)) → read_hex word ≡ o → IfRead (o >>= λ bytes. given (length bytes == 32) bytes)
    by_hex None e = tt
    by_hex (Some bytes) e = by_size bytes (length bytes == 32) refl (read_hex_is word bytes e).bytes

hash_fine : (word : List ℕ) → IfFine (hash_of_word word)
hash_fine word = by_digest (digest word) (digest_read word)
  where
    by_digest : (o : Option (List ℕ)) → IfRead o → IfFine (option_map hash o)
    by_digest None h = tt
    by_digest (Some bytes) h = h.each

abbrev IfPlace : Option OutPoint → Type 0
IfPlace None = Unit {0}
IfPlace (Some outpoint) = IsPlace outpoint

outpoint_fine : (txid vout : List ℕ) → IfPlace (outpoint_of_words txid vout)
outpoint_fine txid vout = by_both (digest txid) (digest_read txid) (small vout) refl
  where
    by_both : (o : Option (List ℕ)) → IfRead o → (n : Option ℕ) → small vout ≡ n
        → IfPlace (o >>= λ bytes. n >>= λ number. Some (record { txid = reverse bytes; vout = number }))
    by_both None h n e = tt
    by_both (Some bytes) h None e = tt
    by_both (Some bytes) h (Some number) e = record {
      txid = reversed bytes h.each;
      size = length-reverse bytes ∙ h.size;
      vout = number_less (2 ^ 32) vout number e;
    }

place_fine : (txid vout : List ℕ) → IfFine (place_of_words txid vout)
place_fine txid vout = by_outpoint (outpoint_of_words txid vout) (outpoint_fine txid vout)
  where
    by_outpoint : (o : Option OutPoint) → IfPlace o → IfFine (option_map place o)
    by_outpoint None h = tt
    by_outpoint (Some outpoint) h = h

-- ---- scripts

abbrev IfScript : Option (List ℕ) → Type 0
IfScript None = Unit {0}
IfScript (Some bytes) = IsBytes bytes

are_of_bytes : (bytes : List ℕ) → are_bytes bytes ≡ true → IsBytes bytes
are_of_bytes [] h = bytes_none
are_of_bytes (b ∷ bytes) h =
    let p = and_parts (nat_lt b 256) (are_bytes bytes) h in
    bytes_cons b bytes (grind (arith, nat_tests, p.0)) (are_of_bytes bytes p.1)

-- the bytes of a witness output script
witness_bytes : (bytes : List ℕ) → is_witness_output bytes ≡ true → IsBytes bytes
witness_bytes [] h = bytes_none
witness_bytes (a ∷ []) h = cc
witness_bytes (a ∷ (b ∷ program)) h =
    let p = and_parts (pushes_version a) (b == length program && (is_program_size (version_of a) b && are_bytes program)) h in
    let q = and_parts (b == length program) (is_program_size (version_of a) b && are_bytes program) p.1 in
    let r = and_parts (is_program_size (version_of a) b) (are_bytes program) q.1 in
    bytes_cons a (b ∷ program) (version_small p.0) (bytes_cons b program (size_small (version_of a) b r.0) (are_of_bytes program r.1))
  where
    version_small : pushes_version a ≡ true → a < 256
    version_small k = by_test (a == 0) refl k
      where
        by_test : (t : Bool) → (a == 0) ≡ t → (t || (nat_le 81 a && nat_le a 96)) ≡ true → a < 256
        by_test true e m = grind (arith, nat_tests, e)
        by_test false e m = let n = (and_parts (nat_le 81 a) (nat_le a 96) m).1 in grind (arith, nat_tests, n)

    size_small : (version size : ℕ) → is_program_size version size ≡ true → size < 256
    size_small version size k = by_test (version == 0) k
      where
        by_two : (t : Bool) → (size == 20) ≡ t → (t || size == 32) ≡ true → size < 256
        by_two true e m = grind (arith, nat_tests, e)
        by_two false e m = grind (arith, nat_tests, m)

        by_test : (t : Bool) → (if t then size == 20 || size == 32 else nat_le 2 size && nat_le size 40) ≡ true → size < 256
        by_test true m = by_two (size == 20) refl m
        by_test false m = let n = (and_parts (nat_le 2 size) (nat_le size 40) m).1 in grind (arith, nat_tests, n)

-- a script that an address is of
addressed : (part word bytes : List ℕ) → read_address part word ≡ Some bytes → IsBytes bytes
unfolding address
addressed part word bytes e = witness_bytes bytes (output (address part bytes) refl ((read_exactly part word bytes).0 e))
  where
    by_test : (b : Bool) → is_witness_output bytes ≡ b
        → (if b then short (text_of part (version_of (slice_index bytes 0)) (groups_of (drop 2 bytes))) else None) ≡ None ⊎ (is_witness_output bytes ≡ true)
    by_test true e = inr e
    by_test false e = inl refl

    of_address : (address part bytes ≡ None) ⊎ (is_witness_output bytes ≡ true)
    of_address = by_test (is_witness_output bytes) refl

    by_address : (address part bytes ≡ None) ⊎ (is_witness_output bytes ≡ true) → (o : Option (List ℕ)) → address part bytes ≡ o
        → spells word o ≡ true → is_witness_output bytes ≡ true
    by_address (inr h) o k m = h
    by_address (inl h) None k m = cc
    by_address (inl h) (Some text) k m = let no : None ≡ Some text = sym h ∙ k in cc

    output : (o : Option (List ℕ)) → address part bytes ≡ o → spells word o ≡ true → is_witness_output bytes ≡ true
    output o k m = by_address of_address o k m

spelled_bytes : (network : Option (List ℕ)) (word : List ℕ) → IfScript (spelled_script network word)
spelled_bytes network word = by_hex (read_hex word) refl network
  where
    by_address : (part : List ℕ) (o : Option (List ℕ)) → read_address part word ≡ o → IfScript o
    by_address part None e = tt
    by_address part (Some bytes) e = addressed part word bytes e

    by_hex : (o : Option (List ℕ)) → read_hex word ≡ o → (n : Option (List ℕ)) → IfScript (or_else o (n >>= λ part. read_address part word))
    by_hex (Some bytes) e n = (read_hex_is word bytes e).bytes
    by_hex None e None = tt
    by_hex None e (Some part) = by_address part (read_address part word) refl

-- kinds of scripts are short
program_few : (operation size : ℕ) (bytes : List ℕ) → size ≤ 32 → is_program operation size bytes ≡ true → length bytes ≤ 34
program_few operation size [] l h = cc
program_few operation size (a ∷ []) l h = cc
program_few operation size (a ∷ (b ∷ program)) l h =
    let p = (and_parts (a == operation) (b == size && length program == size) h).1 in
    let q = eqb-true (length program) size (and_parts (b == size) (length program == size) p).1 in
    omega (arith, q, l)

hash_few : (bytes : List ℕ) → pays_to_key_hash bytes ≡ true → length bytes ≤ 34
hash_few [] h = cc
hash_few (a ∷ []) h = cc
hash_few (a ∷ (b ∷ program)) h =
    let p = (and_parts (a == 0) (b == 20 && length program == 20) h).1 in
    let q = eqb-true (length program) 20 (and_parts (b == 20) (length program == 20) p).1 in
    omega (arith, q)

wallet_few : (v : Verifier) (bytes : List ℕ) → pays_to_wallet v bytes ≡ true → length bytes ≤ 34
wallet_few v bytes h = by_hash (pays_to_key_hash bytes) refl h
  where
    by_script : (b : Bool) → pays_to_script_hash bytes ≡ b → (b || pays_to_taproot v bytes) ≡ true → length bytes ≤ 34
    by_script true e m = program_few 0 32 bytes (omega arith) e
    by_script false e m =
        program_few 81 32 bytes (omega arith) (and_parts (has_taproot_form bytes) (v.is_point (2 ∷ drop 2 bytes)) m).0

    by_hash : (b : Bool) → pays_to_key_hash bytes ≡ b → (b || (pays_to_script_hash bytes || pays_to_taproot v bytes)) ≡ true
        → length bytes ≤ 34
    by_hash true e m = hash_few bytes e
    by_hash false e m = by_script (pays_to_script_hash bytes) refl m

payee_few : (v : Verifier) (bytes : List ℕ) → is_payable v bytes ≡ true → length bytes ≤ 34
payee_few v bytes h = by_hash (pays_to_key_hash bytes) refl h
  where
    by_old : (b : Bool) → pays_to_older_key_hash bytes ≡ b → (b || pays_to_older_script_hash bytes) ≡ true → length bytes ≤ 34
    by_old true e m =
        let q = eqb-true (length bytes) 25
        (and_parts (length bytes == 25) (bytes_eq bytes (key_hash_code (take 20 (drop 3 bytes)))) e).0 in
        omega (arith, q)
    by_old false e m =
        let q = eqb-true (length bytes) 23
        (and_parts (length bytes == 23) (bytes_eq bytes (script_hash_code (take 20 (drop 2 bytes)))) m).0 in
        omega (arith, q)

    by_taproot : (b : Bool) → pays_to_taproot v bytes ≡ b → (b || (pays_to_older_key_hash bytes || pays_to_older_script_hash bytes)) ≡ true
        → length bytes ≤ 34
    by_taproot true e m =
        program_few 81 32 bytes (omega arith) (and_parts (has_taproot_form bytes) (v.is_point (2 ∷ drop 2 bytes)) e).0
    by_taproot false e m = by_old (pays_to_older_key_hash bytes) refl m

    by_script : (b : Bool) → pays_to_script_hash bytes ≡ b
        → (b || (pays_to_taproot v bytes || (pays_to_older_key_hash bytes || pays_to_older_script_hash bytes))) ≡ true → length bytes ≤ 34
    by_script true e m = program_few 0 32 bytes (omega arith) e
    by_script false e m = by_taproot (pays_to_taproot v bytes) refl m

    by_hash : (b : Bool) → pays_to_key_hash bytes ≡ b
        → (b || (pays_to_script_hash bytes || (pays_to_taproot v bytes || (pays_to_older_key_hash bytes || pays_to_older_script_hash bytes))))
        ≡ true
        → length bytes ≤ 34
    by_hash true e m = hash_few bytes e
    by_hash false e m = by_script (pays_to_script_hash bytes) refl m

wallet_fine : (v : Verifier) (network : Option (List ℕ)) (txid vout word : List ℕ) → IfFine (wallet_of_words v network txid vout word)
wallet_fine v network txid vout word =
    by_both (outpoint_of_words txid vout) (outpoint_fine txid vout) (spelled_script network word) (spelled_bytes network word)
  where
    by_test : (outpoint : OutPoint) (bytes : List ℕ) → IsPlace outpoint → IsBytes bytes → (b : Bool) → pays_to_wallet v bytes ≡ b
        → IfFine (given b (wallet outpoint bytes))
    by_test outpoint bytes h k true e = (h, record { bytes = k; few = wallet_few v bytes e })
    by_test outpoint bytes h k false e = tt

    by_both : (o : Option OutPoint) → IfPlace o → (m : Option (List ℕ)) → IfScript m
        → IfFine (o >>= λ outpoint. m >>= λ bytes. given (pays_to_wallet v bytes) (wallet outpoint bytes))
    by_both None h m k = tt
    by_both (Some outpoint) h None k = tt
    by_both (Some outpoint) h (Some bytes) k = by_test outpoint bytes h k (pays_to_wallet v bytes) refl

payee_fine : (v : Verifier) (network : Option (List ℕ)) (word : List ℕ) → IfFine (payee_of_word v network word)
payee_fine v network word = by_script (spelled_script network word) (spelled_bytes network word)
  where
    by_test : (bytes : List ℕ) → IsBytes bytes → (b : Bool) → is_payable v bytes ≡ b → IfFine (given b (script bytes))
    by_test bytes k true e = record { bytes = k; few = payee_few v bytes e }
    by_test bytes k false e = tt

    by_script : (o : Option (List ℕ)) → IfScript o → IfFine (o >>= λ bytes. given (is_payable v bytes) (script bytes))
    by_script None k = tt
    by_script (Some bytes) k = by_test bytes k (is_payable v bytes) refl

network_fine : (word : List ℕ) → IfFine (network_of_word word)
network_fine word = by_test (is_hrp word)
  where
    by_test : (b : Bool) → IfFine (given b (hrp word))
    by_test true = tt
    by_test false = tt

-- ---- lines

module _ (v : Verifier) (network : Option (List ℕ)) (advert : Advert) where
  key_line_fine : (entries : List Entry) (n : ℕ) (words : List (List ℕ)) → LineFine (key_line v advert entries n words)
  key_line_fine entries n [] = tt
  key_line_fine entries n (word ∷ []) = tt
  key_line_fine entries n (word ∷ (value ∷ [])) =
      needed_fine entries n (option_map needs.Key (label_of_word advert word)) (key_of_word v value) (key_fine v value)
  key_line_fine entries n (word ∷ (value ∷ (next ∷ words))) = tt

  hash_line_fine : (entries : List Entry) (n : ℕ) (words : List (List ℕ)) → LineFine (hash_line advert entries n words)
  hash_line_fine entries n [] = tt
  hash_line_fine entries n (word ∷ []) = tt
  hash_line_fine entries n (word ∷ (value ∷ [])) =
      needed_fine entries n (option_map needs.Hash (one_of (needed_secrets advert) word)) (hash_of_word value) (hash_fine value)
  hash_line_fine entries n (word ∷ (value ∷ (next ∷ words))) = tt

  deposit_line_fine : (entries : List Entry) (n : ℕ) (words : List (List ℕ)) → LineFine (deposit_line v network advert entries n words)
  deposit_line_fine entries n [] = tt
  deposit_line_fine entries n (word ∷ []) = tt
  deposit_line_fine entries n (word ∷ (txid ∷ [])) = tt
  deposit_line_fine entries n (word ∷ (txid ∷ (vout ∷ []))) =
      needed_fine entries n (option_map needs.Deposit (one_of (needed_deposits advert) word)) (place_of_words txid vout)
      (place_fine txid vout)
  deposit_line_fine entries n (word ∷ (txid ∷ (vout ∷ (own ∷ [])))) =
      needed_fine entries n (option_map needs.Deposit (one_of (needed_deposits advert) word)) (wallet_of_words v network txid vout own)
      (wallet_fine v network txid vout own)
  deposit_line_fine entries n (word ∷ (txid ∷ (vout ∷ (own ∷ (next ∷ words))))) = tt

  network_line_fine : (entries : List Entry) (n : ℕ) (words : List (List ℕ)) → LineFine (network_line entries n words)
  network_line_fine entries n [] = tt
  network_line_fine entries n (word ∷ []) = value_fine_at entries n needs.Network (network_of_word word) (network_fine word)
  network_line_fine entries n (word ∷ (next ∷ words)) = tt

  payee_line_fine : (entries : List Entry) (n : ℕ) (words : List (List ℕ)) → LineFine (payee_line v network advert entries n words)
  payee_line_fine entries n [] = tt
  payee_line_fine entries n (word ∷ []) = tt
  payee_line_fine entries n (word ∷ (value ∷ [])) =
      needed_fine entries n (option_map needs.Payee (one_of (participants advert) word)) (payee_of_word v network value)
      (payee_fine v network value)
  payee_line_fine entries n (word ∷ (value ∷ (next ∷ words))) = tt

  line_fine : (entries : List Entry) (n : ℕ) (words : List (List ℕ)) → LineFine (line_says v network advert entries n words)
  line_fine entries n [] = tt
  line_fine entries n (word ∷ words) =
      by_test (bytes_eq word (codes "key")) (bytes_eq word (codes "deposit")) (bytes_eq word (codes "hash"))
      (bytes_eq word (codes "network")) (bytes_eq word (codes "pay"))
    where
      by_test : (a b c d e : Bool)
          → LineFine (cond a (key_line v advert entries n words)
          (cond b (deposit_line v network advert entries n words) (cond c (hash_line advert entries n words)
          (cond d (network_line entries n words) (cond e (payee_line v network advert entries n words) (bad reasons.Form))))))
      by_test true b c d e = key_line_fine entries n words
      by_test false true c d e = deposit_line_fine entries n words
      by_test false false true d e = hash_line_fine entries n words
      by_test false false false true e = network_line_fine entries n words
      by_test false false false false true = payee_line_fine entries n words
      by_test false false false false false = tt

  abbrev AllFine : List Entry → Type 0
  AllFine entries = (e : Entry) → Is_in e entries → IsFine e.value

  abbrev IfAllFine : Result (List Entry) DealFault → Type 0
  IfAllFine (Ok entries) = AllFine entries
  IfAllFine (Err fault) = Unit {0}

  one_more : (entries : List Entry) (e : Entry) → AllFine entries → IsFine e.value → AllFine (entries ++ e ∷ [])
  one_more entries e h k x i = by_place (in_append x entries (e ∷ []) i)
    where
      by_place : Is_in x entries ⊎ Is_in x (e ∷ []) → IsFine x.value
      by_place (inl a) = h x a
      by_place (inr (inl same)) = subst (λ (y : Entry). IsFine y.value) (sym same) k
      by_place (inr (inr a)) = absurd a

  entries_fine : (entries : List Entry) (n : ℕ) (lines : List (List ℕ)) → AllFine entries → IfAllFine (read_entries v network advert entries n lines)
  entries_fine entries n [] h = h
  entries_fine entries n (line ∷ lines) h =
      by_line (line_says v network advert entries n (words_of line)) (line_fine entries n (words_of line)) (entries_fine entries (n + 1) lines h)
      (λ e k. entries_fine (entries ++ e ∷ []) (n + 1) lines (one_more entries e h k))
    where
      by_line : (l : Line) → LineFine l → IfAllFine (read_entries v network advert entries (n + 1) lines)
          → ((e : Entry) → IsFine e.value → IfAllFine (read_entries v network advert (entries ++ e ∷ []) (n + 1) lines))
          → IfAllFine (elim l [
            | empty ↦ read_entries v network advert entries (n + 1) lines
            | bad reason ↦ Err (faults.Line n reason)
            | gives e ↦ read_entries v network advert (entries ++ e ∷ []) (n + 1) lines
          ])
      by_line empty k same more = same
      by_line (bad reason) k same more = tt
      by_line (gives e) k same more = more e k

  -- ---- the deal

  module _ (entries : List Entry) (all : AllFine entries) where
    value_fine : (what : Needed) → IfFine (value_for entries what)
    value_fine what = by_found (find (λ (e : Entry). same_needed e.needed what) entries) refl
      where
        by_found : (o : Option Entry) → find (λ (e : Entry). same_needed e.needed what) entries ≡ o
            → IfFine (option_map (λ (e : Entry). e.value) o)
        by_found None e = tt
        by_found (Some x) e = all x (found (λ (y : Entry). same_needed y.needed what) entries x e).0

    key_bytes : (o : Option Value) → IfFine o → IsBytes (key_or_none o)
    key_bytes None h = zeros 33
    key_bytes (Some (key bytes)) h = h
    key_bytes (Some (place outpoint)) h = zeros 33
    key_bytes (Some (hash bytes)) h = zeros 33
    key_bytes (Some (wallet outpoint own)) h = zeros 33
    key_bytes (Some (hrp part)) h = zeros 33
    key_bytes (Some (script bytes)) h = zeros 33

    hash_bytes : (o : Option Value) → IfFine o → IsBytes (hash_or_none o)
    hash_bytes None h = zeros 32
    hash_bytes (Some (hash bytes)) h = h
    hash_bytes (Some (place outpoint)) h = zeros 32
    hash_bytes (Some (key bytes)) h = zeros 32
    hash_bytes (Some (wallet outpoint own)) h = zeros 32
    hash_bytes (Some (hrp part)) h = zeros 32
    hash_bytes (Some (script bytes)) h = zeros 32

    nowhere : IsPlace no_place
    nowhere = record { txid = zeros 32; size = refl; vout = lit< tt }

    is_place : (o : Option Value) → IfFine o → IsPlace (place_or_none o)
    is_place None h = nowhere
    is_place (Some (place outpoint)) h = h
    is_place (Some (key bytes)) h = nowhere
    is_place (Some (hash bytes)) h = nowhere
    is_place (Some (wallet outpoint own)) h = h.0
    is_place (Some (hrp part)) h = nowhere
    is_place (Some (script bytes)) h = nowhere

    keys_fine : (ls : List Label) (label : Label)
        → IsBytes (key_at (flat_map (λ l. with_key l (value_for entries (needs.Key l))) ls) label)
    keys_fine [] label = zeros 33
    keys_fine (l ∷ ls) label = by_value (value_for entries (needs.Key l)) (value_fine (needs.Key l)) (keys_fine ls label)
      where
        rest : List (Label × List ℕ)
        rest = flat_map (λ x. with_key x (value_for entries (needs.Key x))) ls

        by_test : (value : Value) (b : Bool) → IfFine (Some value) → IsBytes (key_at rest label)
            → IsBytes (cond b (key_or_none (Some value)) (key_at rest label))
        by_test value true h ih = key_bytes (Some value) h
        by_test value false h ih = ih

        by_value : (o : Option Value) → IfFine o → IsBytes (key_at rest label) → IsBytes (key_at (with_key l o ++ rest) label)
        by_value None h ih = ih
        by_value (Some value) h ih = by_test value (same_label l label) h ih

    -- ---- scripts

    abbrev AllPayable : List (List ℕ × List ℕ) → Type 0
    AllPayable ps = (name bytes : List ℕ) → look_up name ps ≡ Some bytes → IsPayable bytes

    one_payable : (name : List ℕ) (o : Option (List ℕ)) (rest : List (List ℕ × List ℕ))
        → ((bytes : List ℕ) → o ≡ Some bytes → IsPayable bytes) → AllPayable rest → AllPayable (with_script name o ++ rest)
    one_payable name None rest h k other bytes e = k other bytes e
    one_payable name (Some own) rest h k other bytes e = by_test (bytes_eq name other) e
      where
        by_test : (b : Bool) → cond b (Some own) (look_up other rest) ≡ Some bytes → IsPayable bytes
        by_test true m = let same : own ≡ bytes = cc in subst IsPayable same (h own refl)
        by_test false m = k other bytes m

    wallet_script : (o : Option Value) → IfFine o → (bytes : List ℕ) → wallet_given o ≡ Some bytes → IsPayable bytes
    wallet_script None h bytes e = cc
    wallet_script (Some (wallet outpoint own)) h bytes e = let same : own ≡ bytes = cc in subst IsPayable same h.1
    wallet_script (Some (place outpoint)) h bytes e = cc
    wallet_script (Some (key other)) h bytes e = cc
    wallet_script (Some (hash other)) h bytes e = cc
    wallet_script (Some (hrp part)) h bytes e = cc
    wallet_script (Some (script other)) h bytes e = cc

    payee_script : (o : Option Value) → IfFine o → (bytes : List ℕ) → script_given o ≡ Some bytes → IsPayable bytes
    payee_script None h bytes e = cc
    payee_script (Some (script own)) h bytes e = let same : own ≡ bytes = cc in subst IsPayable same h
    payee_script (Some (place outpoint)) h bytes e = cc
    payee_script (Some (wallet outpoint own)) h bytes e = cc
    payee_script (Some (key other)) h bytes e = cc
    payee_script (Some (hash other)) h bytes e = cc
    payee_script (Some (hrp part)) h bytes e = cc

    wallets_fine : (ns : List (List ℕ))
        → AllPayable (flat_map (λ name. with_script name (wallet_given (value_for entries (needs.Deposit name)))) ns)
    wallets_fine [] name bytes e = cc
    wallets_fine (n ∷ ns) name bytes e =
        one_payable n (wallet_given (value_for entries (needs.Deposit n))) _
        (wallet_script (value_for entries (needs.Deposit n)) (value_fine (needs.Deposit n))) (wallets_fine ns) name bytes e

    payees_fine : (ns : List (List ℕ))
        → AllPayable (flat_map (λ party. with_script party (script_given (value_for entries (needs.Payee party)))) ns)
    payees_fine [] name bytes e = cc
    payees_fine (n ∷ ns) name bytes e =
        one_payable n (script_given (value_for entries (needs.Payee n))) _
        (payee_script (value_for entries (needs.Payee n)) (value_fine (needs.Payee n))) (payees_fine ns) name bytes e

    hashes_fine : (ns : List (List ℕ)) → BytesIn (map (λ n. (n, hash_or_none (value_for entries (needs.Hash n)))) ns)
    hashes_fine [] = tt
    hashes_fine (n ∷ ns) = (hash_bytes (value_for entries (needs.Hash n)) (value_fine (needs.Hash n)), hashes_fine ns)

-- what is known of the numbers of a deal
pub record HasWidths (hash_of : List ℕ → List ℕ) (advert : Advert) (deal : Deal) : Type 0 where
  pub keys : KeysOfBytes hash_of (deal_keys deal)
  pub hashes : BytesIn deal.hashes
  pub places : (d : List ℕ × OutPoint) → Is_in d deal.deposits → IsPlace (d.1)
  pub wallets : AreBrought (deal_keys deal)
  pub payees : ArePayable (deal_keys deal)

pub deal_widths : (v : Verifier) (hash_of : List ℕ → List ℕ) (advert : Advert) (text : List ℕ) (deal : Deal) → read_deal v advert text ≡ Ok deal
    → HasWidths hash_of advert deal
deal_widths v hash_of advert text deal e =
    let d = is_of v advert text deal e in
    let network = file_network (lines_of text) in
    let all : AllFine v network advert d.entries =
    subst (IfAllFine v network advert) d.read (entries_fine v network advert [] 1 (lines_of text) (λ x i. absurd i)) in
    subst (HasWidths hash_of advert) d.same (record {
      keys = λ label. keys_fine v network advert d.entries all (needed_labels advert) label;
      hashes = hashes_fine v network advert d.entries all (needed_secrets advert);
      places = by_name v network advert d.entries all (needed_deposits advert);
      wallets = wallets_fine v network advert d.entries all (needed_deposits advert);
      payees = payees_fine v network advert d.entries all (participants advert);
    })
  where
    by_name : (v : Verifier) (network : Option (List ℕ)) (advert : Advert) (entries : List Entry) (all : AllFine v network advert entries)
        (ns : List (List ℕ))
        → (d : List ℕ × OutPoint) → Is_in d (map (λ n. (n, place_or_none (value_for entries (needs.Deposit n)))) ns) → IsPlace (d.1)
    by_name v network advert entries all [] d i = absurd i
    by_name v network advert entries all (n ∷ ns) d (inl same) =
        subst (λ x. IsPlace (x.1)) (sym same)
        (is_place v network advert entries all (value_for entries (needs.Deposit n)) (value_fine v network advert entries all (needs.Deposit n)))
    by_name v network advert entries all (n ∷ ns) d (inr i) = by_name v network advert entries all ns d i
