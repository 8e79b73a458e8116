-- What a line of a chain file says, by the words that it has.
use Rattle.std.proofs.Common.{◌≡◌, ℕ, ◌+◌, ◌<◌, ◌≤◌, List, [], ◌∷◌, Bool, true, false, Option, Some, None, refl, sym, ap, subst, ◌∙◌, cond, arith, inl, inr}
use Rattle.std.specs.Prelude.{◌==◌, ◌^◌, nat_le, nat_lt, Result, Ok, Err, codes}
use Rattle.std.specs.Fmt.{decimal}
use Rattle.std.specs.Str.{bytes_eq}
use Rattle.std.proofs.lemmas.Bool.Decides.{nat_tests}
use Rattle.std.proofs.lemmas.Slice.Eq.{bytes_eq-Decides}
use Rattle.spec_data.specs.Digits.{is_plain, decimal_value, below, read_hex}
use Rattle.spec_data.specs.Ranges.{last_height}
use Rattle.spec_bitcoin.specs.declared.tx.Tx.{Tx}
use Rattle.spec_bitcoin.specs.Reading.{transaction_of}
use Rattle.spec_bitcoin.specs.Spelling.{Spells}
use Rattle.theory_bitcoin.proofs.Top.{read_is_spelled, spelled_is_read}
use Rattle.theory_text.proofs.Lines.Decimals.{decimal-value, number_word, number_less, small_back}
use Rattle.theory_text.proofs.Lines.Hex.{read_hex_is}
use Rattle.spec_chain.specs.declared.fault.ChainReason.{ChainReason}
use Rattle.spec_chain.specs.declared.fault.ChainReason.TheVariants as reasons
use Rattle.spec_chain.specs.declared.reading.Line.{Line}
use Rattle.spec_chain.specs.declared.reading.Line.TheVariants.{Empty, Bad, Rises, Confirms}
use Rattle.spec_chain.specs.ChainFile.{height_of, rises_to, with_bytes, if_spelled, tx_line, pair_says, line_says}
use Rattle.theory_chain.specs.Files.{GivesHeight, GivesTx, IsNoLine, IsBad}

-- ---- heights that are written are read

plain_if : (b : Bool) (o : Option ℕ) (n : ℕ) → cond b o None ≡ Some n → b ≡ true
plain_if true o n e = refl
plain_if false o n e = absurd (none n e)
  where
    none : (n : ℕ) → None ≡ Some n → ⊥
    none n k = cc

plain_back : (n : ℕ) → n ≤ last_height → is_plain (decimal n) ≡ true
plain_back n h =
    plain_if (is_plain (decimal n)) (below (2 ^ 32) (decimal_value (decimal n))) n (small_back n (omega (arith, h)))

lt_true : (m n : ℕ) → m < n → nat_lt m n ≡ true
lt_true m n h = grind (arith, nat_tests)

pub height_back : (n : ℕ) → n ≤ last_height → height_of (decimal n) ≡ Some n
height_back n h =
    ap (λ (b : Bool). cond b (below (last_height + 1) (decimal_value (decimal n))) None) (plain_back n h)
    ∙ ap (below (last_height + 1)) (decimal-value n (omega (arith, h)))
    ∙ ap (λ (b : Bool). cond b (Some n) None) (lt_true n (last_height + 1) (omega (arith, h)))

le_true : (m n : ℕ) → m ≤ n → nat_le m n ≡ true
le_true m n h = grind (arith, nat_tests)

le_from : (m n : ℕ) → nat_le m n ≡ true → m ≤ n
le_from m n h = grind (arith, nat_tests)

module _ (height : ℕ) where
  -- what is claimed of a line that says this
  abbrev pub Says : List (List ℕ) → Line → Type 0
  Says words Empty = words ≡ []
  Says words (Rises next) = GivesHeight height words next
  Says words (Confirms tx) = GivesTx height words tx
  Says words (Bad reason) = IsBad height words reason

  -- ---- a height

  height_says : (value : List ℕ) (o : Option ℕ) → height_of value ≡ o → Says (codes "height" ∷ value ∷ []) (rises_to height o)
  height_says value None e =
      inl (value, refl, λ next same within rises. by_none next (sym (height_back next within) ∙ ap height_of (sym same) ∙ e))
    where
      by_none : (next : ℕ) → Some next ≡ None → ⊥
      by_none next k = cc
  height_says value (Some next) e = by_test (nat_le height next) refl
    where
      by_test : (b : Bool) → nat_le height next ≡ b
          → Says (codes "height" ∷ value ∷ []) (cond b (Rises next) (Bad reasons.Height))
      by_test true k = record {
        said = ap (λ w. codes "height" ∷ w ∷ []) (sym (number_word (last_height + 1) value next (omega arith) e));
        within = (let less = number_less (last_height + 1) value next e in omega (arith, less));
        rises = le_from height next k;
      }
      by_test false k = inl (
        value,
        refl,
        λ other same within rises.
            by_other other (sym (height_back other within) ∙ ap height_of (sym same) ∙ e) rises,
      )
        where
          by_other : (other : ℕ) → Some other ≡ Some next → height ≤ other → ⊥
          by_other other s rises =
              let t : nat_le height other ≡ true = le_true height other rises in
              let same : other ≡ next = cc in
              let f : nat_le height other ≡ false = ap (nat_le height) same ∙ k in
              cc

  -- ---- a transaction

  read_says : (value bytes : List ℕ) → read_hex value ≡ Some bytes → 0 < height → (r : Result Tx ℕ) → transaction_of bytes ≡ r
      → Says (codes "tx" ∷ value ∷ []) (if_spelled r)
  read_says value bytes e begun (Ok tx) k = record {
    word = value;
    bytes = bytes;
    said = refl;
    digits = e;
    spelled = read_is_spelled bytes tx (read_hex_is value bytes e).bytes k;
    begun = begun;
  }
  read_says value bytes e begun (Err place) k =
      (value, refl, begun, λ other tx digits spelled. by_read other tx (sym e ∙ digits) (spelled_is_read other tx spelled))
    where
      by_read : (other : List ℕ) (tx : Tx) → Some bytes ≡ Some other → transaction_of other ≡ Ok tx → ⊥
      by_read other tx same read =
          let here : bytes ≡ other = cc in
          let there : transaction_of bytes ≡ Ok tx = ap transaction_of here ∙ read in
          cc

  bytes_say : (value : List ℕ) → 0 < height → (o : Option (List ℕ)) → read_hex value ≡ o
      → Says (codes "tx" ∷ value ∷ []) (with_bytes o)
  bytes_say value begun None e = (value, refl, begun, λ bytes tx digits spelled. by_none bytes (sym digits ∙ e))
    where
      by_none : (bytes : List ℕ) → Some bytes ≡ None → ⊥
      by_none bytes k = cc
  bytes_say value begun (Some bytes) e = read_says value bytes e begun (transaction_of bytes) refl

  tx_says : (value : List ℕ) → Says (codes "tx" ∷ value ∷ []) (tx_line height value)
  tx_says value = by_test (height == 0) refl
    where
      by_test : (b : Bool) → (height == 0) ≡ b
          → Says (codes "tx" ∷ value ∷ []) (cond b (Bad reasons.Height) (with_bytes (read_hex value)))
      by_test true k = inr (value, refl, zero k)
        where
          zero : (height == 0) ≡ true → height ≡ 0
          zero z = grind (arith, nat_tests)
      by_test false k = bytes_say value (above k) (read_hex value) refl
        where
          above : (height == 0) ≡ false → 0 < height
          above z = grind (arith, nat_tests)

  -- ---- two words

  other_word : (word value : List ℕ) → bytes_eq word (codes "height") ≡ false → bytes_eq word (codes "tx") ≡ false
      → IsNoLine (word ∷ value ∷ [])
  other_word word value h t = record {
    some = λ e. by_nil e;
    no_height = λ v e. by_word (codes "height") v h e;
    no_tx = λ v e. by_word (codes "tx") v t e;
  }
    where
      by_nil : word ∷ (value ∷ []) ≡ [] → ⊥
      by_nil e = cc

      by_word : (first v : List ℕ) → bytes_eq word first ≡ false → word ∷ (value ∷ []) ≡ first ∷ (v ∷ []) → ⊥
      by_word first v f e =
          let same : word ≡ first = cc in
          let there : bytes_eq word first ≡ true = (bytes_eq-Decides word first).1 same in
          cc

  pair_said : (word value : List ℕ) → Says (word ∷ value ∷ []) (pair_says height word value)
  pair_said word value = by_height (bytes_eq word (codes "height")) refl
    where
      by_tx : (b : Bool) → bytes_eq word (codes "height") ≡ false → bytes_eq word (codes "tx") ≡ b
          → Says (word ∷ value ∷ []) (cond b (tx_line height value) (Bad reasons.Form))
      by_tx true f e =
          subst (λ (w : List ℕ). Says (w ∷ value ∷ []) (tx_line height value)) (sym ((bytes_eq-Decides word (codes "tx")).0 e)) (tx_says value)
      by_tx false f e = other_word word value f e

      by_height : (b : Bool) → bytes_eq word (codes "height") ≡ b
          → Says (word ∷ value ∷ [])
          (cond b (rises_to height (height_of value)) (cond (bytes_eq word (codes "tx")) (tx_line height value) (Bad reasons.Form)))
      by_height true e =
          subst (λ (w : List ℕ). Says (w ∷ value ∷ []) (rises_to height (height_of value)))
          (sym ((bytes_eq-Decides word (codes "height")).0 e)) (height_says value (height_of value) refl)
      by_height false e = by_tx (bytes_eq word (codes "tx")) e refl

  -- ---- all lines

  one_word : (word : List ℕ) → IsNoLine (word ∷ [])
  one_word word = record { some = λ e. by_nil e; no_height = λ v e. by_two (codes "height") v e; no_tx = λ v e. by_two (codes "tx") v e }
    where
      by_nil : word ∷ [] ≡ [] → ⊥
      by_nil e = cc

      by_two : (first v : List ℕ) → word ∷ [] ≡ first ∷ (v ∷ []) → ⊥
      by_two first v e = cc

  more_words : (a b c : List ℕ) (words : List (List ℕ)) → IsNoLine (a ∷ b ∷ c ∷ words)
  more_words a b c words =
      record { some = λ e. by_nil e; no_height = λ v e. by_two (codes "height") v e; no_tx = λ v e. by_two (codes "tx") v e }
    where
      by_nil : a ∷ (b ∷ (c ∷ words)) ≡ [] → ⊥
      by_nil e = cc

      by_two : (first v : List ℕ) → a ∷ (b ∷ (c ∷ words)) ≡ first ∷ (v ∷ []) → ⊥
      by_two first v e = cc

  -- what a line says is so
  pub said : (words : List (List ℕ)) → Says words (line_says height words)
  said [] = refl
  said (a ∷ []) = one_word a
  said (a ∷ (b ∷ [])) = pair_said a b
  said (a ∷ (b ∷ (c ∷ words))) = more_words a b c words

  -- ---- and what is so is said

  pub height_said : (words : List (List ℕ)) (next : ℕ) → GivesHeight height words next → line_says height words ≡ Rises next
  height_said words next g =
      ap (line_says height) g.said ∙ ap (rises_to height) (height_back next g.within)
      ∙ ap (λ (b : Bool). cond b (Rises next) (Bad reasons.Height)) (le_true height next g.rises)

  pub tx_said : (words : List (List ℕ)) (tx : Tx) → GivesTx height words tx → line_says height words ≡ Confirms tx
  tx_said words tx g =
      ap (line_says height) g.said
      ∙ ap (λ (b : Bool). cond b (Bad reasons.Height) (with_bytes (read_hex g.word))) (not_zero g.begun)
      ∙ ap with_bytes g.digits ∙ ap if_spelled (spelled_is_read g.bytes tx g.spelled)
    where
      not_zero : 0 < height → (height == 0) ≡ false
      not_zero h = grind (arith, nat_tests)

  pub empty_said : (words : List (List ℕ)) → words ≡ [] → line_says height words ≡ Empty
  empty_said words e = ap (line_says height) e

  -- ---- bad lines

  no_line_said : (words : List (List ℕ)) → IsNoLine words → line_says height words ≡ Bad reasons.Form
  no_line_said [] n = absurd (n.some refl)
  no_line_said (a ∷ []) n = refl
  no_line_said (a ∷ (b ∷ [])) n = by_height (bytes_eq a (codes "height")) refl
    where
      by_tx : (t : Bool) → bytes_eq a (codes "tx") ≡ t → cond t (tx_line height b) (Bad reasons.Form) ≡ Bad reasons.Form
      by_tx true e = absurd (n.no_tx b (ap (λ (w : List ℕ). w ∷ b ∷ []) ((bytes_eq-Decides a (codes "tx")).0 e)))
      by_tx false e = refl

      by_height : (t : Bool) → bytes_eq a (codes "height") ≡ t
          → cond t (rises_to height (height_of b)) (cond (bytes_eq a (codes "tx")) (tx_line height b) (Bad reasons.Form))
          ≡ Bad reasons.Form
      by_height true e = absurd (n.no_height b (ap (λ (w : List ℕ). w ∷ b ∷ []) ((bytes_eq-Decides a (codes "height")).0 e)))
      by_height false e = by_tx (bytes_eq a (codes "tx")) refl
  no_line_said (a ∷ (b ∷ (c ∷ words))) n = refl

  no_height_said : (value : List ℕ) → ((next : ℕ) → value ≡ decimal next → next ≤ last_height → height ≤ next → ⊥)
      → rises_to height (height_of value) ≡ Bad reasons.Height
  no_height_said value none = by_number (height_of value) refl
    where
      by_number : (o : Option ℕ) → height_of value ≡ o → rises_to height o ≡ Bad reasons.Height
      by_number None e = refl
      by_number (Some next) e = by_test (nat_le height next) refl
        where
          by_test : (b : Bool) → nat_le height next ≡ b → cond b (Rises next) (Bad reasons.Height) ≡ Bad reasons.Height
          by_test true k =
              let less = number_less (last_height + 1) value next e in
              absurd (none next (sym (number_word (last_height + 1) value next (omega arith) e)) (omega (arith, less)) (le_from height next k))
          by_test false k = refl

  no_tx_said : (value : List ℕ) → ((bytes : List ℕ) (tx : Tx) → read_hex value ≡ Some bytes → Spells bytes tx → ⊥)
      → with_bytes (read_hex value) ≡ Bad reasons.Tx
  no_tx_said value none = by_bytes (read_hex value) refl
    where
      by_bytes : (o : Option (List ℕ)) → read_hex value ≡ o → with_bytes o ≡ Bad reasons.Tx
      by_bytes None e = refl
      by_bytes (Some bytes) e = by_read (transaction_of bytes) refl
        where
          by_read : (r : Result Tx ℕ) → transaction_of bytes ≡ r → if_spelled r ≡ Bad reasons.Tx
          by_read (Ok tx) k = absurd (none bytes tx e (read_is_spelled bytes tx (read_hex_is value bytes e).bytes k))
          by_read (Err place) k = refl

  pub bad_said : (words : List (List ℕ)) (reason : ChainReason) → IsBad height words reason → line_says height words ≡ Bad reason
  bad_said words reasons.Form n = no_line_said words n
  bad_said words reasons.Height (inl h) = ap (line_says height) h.1 ∙ no_height_said h.0 h.2
  bad_said words reasons.Height (inr h) =
      ap (line_says height) h.1
      ∙ ap (λ (b : Bool). cond b (Bad reasons.Height) (with_bytes (read_hex h.0))) (zero h.2)
    where
      zero : height ≡ 0 → (height == 0) ≡ true
      zero e = grind (arith, nat_tests)
  bad_said words reasons.Tx h =
      ap (line_says height) h.1
      ∙ ap (λ (b : Bool). cond b (Bad reasons.Height) (with_bytes (read_hex h.0))) (above h.2)
      ∙ no_tx_said h.0 h.3
    where
      above : 0 < height → (height == 0) ≡ false
      above e = grind (arith, nat_tests)
  bad_said words (reasons.Input k) h = absurd h
  bad_said words (reasons.Foreign k) h = absurd h
  bad_said words reasons.Lock h = absurd h
  bad_said words (reasons.Witness k) h = absurd h
  bad_said words reasons.Branch h = absurd h
