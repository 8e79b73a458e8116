-- The words of a line are read as the event that they spell, and only as that.
use Rattle.std.proofs.Common.{◌≡◌, ℕ, ◌+◌, ◌≤◌, ◌<◌, ◌^◌, Bool, true, false, ◌==◌, List, [], ◌∷◌, ◌++◌, map, Option, Some, None}
use Rattle.std.proofs.Common.{refl, sym, ap, subst, ◌∙◌, inl, inr, arith}
use Rattle.std.specs.Prelude.{◌&&◌, nat_le, flat_map, codes}
use Rattle.std.specs.List.{AllByRecursion, list_all}
use Rattle.std.specs.Str.{bytes_eq}
use Rattle.std.proofs.lemmas.Bool.{and_parts}
use Rattle.std.proofs.lemmas.Bool.Decides.{nat_tests}
use Rattle.spec_bitcoin.specs.Keys.{label_text}
use Rattle.spec_bitcoin.specs.declared.label.Label.{Label}
use Rattle.spec_bitcoin.specs.declared.label.Label.TheVariants.{Deposit, Branch}
use Rattle.spec_terms.specs.Readable.{is_letter, is_name_byte, is_word, is_name}
use Rattle.spec_run.specs.declared.event.Event.{Event}
use Rattle.spec_run.specs.declared.event.Event.TheVariants as events
use Rattle.spec_data.specs.Digits.{read_hex}
use Rattle.spec_text.specs.EventLines.{advertise, commit, contract_and_party, authorise, reveal, bytes_event, sign, before_arrow, at_arrow}
use Rattle.spec_text.specs.EventLines.{shares, is_some_list, give, fire, mine, event_by, event_of}
use Rattle.spec_text.specs.Lines.{parts_of}
use Rattle.spec_text.specs.RunText.{output_text}
use Rattle.spec_text.specs.Words.{◌>>=◌, given, small, amount, output, a_name, one_of, digest, two_parts, named, all_of, path, label_of, label}
use Rattle.theory_text.proofs.ListFacts.{by_test}
use Rattle.theory_text.proofs.Options.{some, some_is, none_some, came, onto_is, given_is}
use Rattle.theory_text.proofs.Lines.Decimals.{small_back, amount_back}
use Rattle.theory_text.proofs.Lines.Labels.{label_is}
use Rattle.theory_text.proofs.Lines.LabelsBack.{label_back}
use Rattle.theory_text.proofs.Lines.LabelsBack as labels
use Rattle.theory_text.proofs.Lines.PrintedWords.{same_bytes, two_is, two_joined, binding_word, label_word}
use Rattle.theory_text.proofs.Lines.Separated.{Lacks, part_more, part_last}
use Rattle.theory_play_text.proofs.WordsBack.{named_back, output_no_sign}
use Rattle.theory_commands.specs.LineForms.{IsSmall, IsName, IsHexDigit, AreHex, SpellsBinding}
use Rattle.theory_commands.specs.LineForms.{SpellsNamedDigest, HasName, share_words, IsShare, SpellsEvent, SpellsNoEvent}
use Rattle.theory_commands.proofs.LineWords.{small_spelled, amount_spelled, output_spelled, output_back, one_spelled, one_back, name_spelled}
use Rattle.theory_commands.proofs.LineWords.{name_back, bytes_spelled, bytes_back, digest_spelled, digest_back, all_spelled, all_back}

-- ---- names with outputs and with digests

binding_spelled : (word : List ℕ) (b : List ℕ × ℕ) → named output word ≡ some b → SpellsBinding word b
binding_spelled word b h =
    let c = came (two_parts (parts_of (λ x. x == 61) word)) (λ p. a_name (p.0) >>= λ x. output (p.1) >>= λ v. some (x, v)) b h in
    let d = came (a_name (c.first.0)) (λ x. output (c.first.1) >>= λ v. some (x, v)) b c.then' in
    let e = came (output (c.first.1)) (λ v. some (d.first, v)) b d.then' in
    let is : (d.first, e.first) ≡ b = some_is (d.first, e.first) b e.then' in (
      sym (binding_word word b h),
      subst (λ (x : List ℕ × ℕ). IsName (x.0)) is (name_spelled (c.first.0) d.first d.is).name,
      subst (λ (x : List ℕ × ℕ). IsSmall (x.1)) is (output_spelled (c.first.1) e.first e.is).less,
    )

wide : (n : ℕ) → IsSmall n → n < 2 ^ 64
wide n h = omega (arith, h)

binding_back : (word : List ℕ) (b : List ℕ × ℕ) → SpellsBinding word b → named output word ≡ some b
binding_back word b (e, name, less) =
    ap (named output) e ∙ named_back output output_text b name (output_no_sign (b.1) (wide (b.1) less)) (output_back (b.1) less)

digit_no_sign : (c v : ℕ) → IsHexDigit c v → (c == 61) ≡ false
digit_no_sign c v (inl h) = low c v (h.0) (h.1)
  where
    low : (c v : ℕ) → v < 10 → c ≡ 48 + v → (c == 61) ≡ false
    low c v less e = grind (arith, nat_tests)
digit_no_sign c v (inr (more, less, inl e)) = letter c v more e
  where
    letter : (c v : ℕ) → 10 ≤ v → c ≡ 87 + v → (c == 61) ≡ false
    letter c v more e = grind (arith, nat_tests)
digit_no_sign c v (inr (more, less, inr e)) = letter c v more e
  where
    letter : (c v : ℕ) → 10 ≤ v → c ≡ 55 + v → (c == 61) ≡ false
    letter c v more e = grind (arith, nat_tests)

hex_no_sign : (hex bytes : List ℕ) → AreHex hex bytes → Lacks (λ b. b == 61) hex
hex_no_sign [] bytes h = tt
hex_no_sign (c ∷ []) bytes h = absurd h
hex_no_sign (c ∷ d ∷ cs) bytes (high, low, rest, e, first, second, more) =
    (digit_no_sign c high first, (digit_no_sign d low second, hex_no_sign cs rest more))

named_spelled : (word : List ℕ) (d : List ℕ × List ℕ) → named digest word ≡ some d → SpellsNamedDigest word d
named_spelled word d h =
    let c = came (two_parts (parts_of (λ x. x == 61) word)) (λ p. a_name (p.0) >>= λ x. digest (p.1) >>= λ v. some (x, v)) d h in
    let e = came (a_name (c.first.0)) (λ x. digest (c.first.1) >>= λ v. some (x, v)) d c.then' in
    let f = came (digest (c.first.1)) (λ v. some (e.first, v)) d e.then' in
    let whole = two_joined 61 word c.first.0 c.first.1 (two_is (parts_of (λ x. x == 61) word) c.first c.is).are in
    let name = name_spelled (c.first.0) e.first e.is in
    subst (SpellsNamedDigest word) (some_is (e.first, f.first) d f.then') (
      c.first.1,
      sym whole ∙ ap (λ (x : List ℕ). x ++ 61 ∷ c.first.1) name.word',
      name.name,
      digest_spelled (c.first.1) f.first f.is,
    )

name_no_sign : (name : List ℕ) → IsName name → Lacks (λ b. b == 61) name
unfolding is_name
name_no_sign name h = word_lacks name (and_parts (is_word name) _ h).0
  where
    byte_lacks : (b : ℕ) → is_name_byte b ≡ true → (b == 61) ≡ false
    byte_lacks b h = grind (arith, nat_tests)

    all_lack : (xs : List ℕ) → list_all is_name_byte xs ≡ true → Lacks (λ b. b == 61) xs
    all_lack [] h = tt
    all_lack (x ∷ xs) h = let p = and_parts (is_name_byte x) (list_all is_name_byte xs) h in (byte_lacks x p.0, all_lack xs p.1)

    word_lacks : (x : List ℕ) → is_word x ≡ true → Lacks (λ b. b == 61) x
    word_lacks [] h = tt
    word_lacks (b ∷ rest) h = let p = and_parts (is_letter b) (list_all is_name_byte rest) h in (letter_lacks b p.0, all_lack rest p.1)
      where
        letter_lacks : (b : ℕ) → is_letter b ≡ true → (b == 61) ≡ false
        letter_lacks b h = grind (arith, nat_tests)

named_digest_back : (word : List ℕ) (d : List ℕ × List ℕ) → SpellsNamedDigest word d → named digest word ≡ some d
named_digest_back word d (hex, e, name, spelled) =
    let cut : parts_of (λ b. b == 61) (d.0 ++ 61 ∷ hex) ≡ d.0 ∷ hex ∷ [] =
    part_more (λ b. b == 61) (d.0) 61 hex (name_no_sign (d.0) name) refl
    ∙ ap (λ (ps : List (List ℕ)). d.0 ∷ ps) (part_last (λ b. b == 61) hex (hex_no_sign hex (d.1) (spelled.0.0))) in
    ap (named digest) e ∙ rw (cut, name, digest_back hex (d.1) spelled) refl

-- ---- labels

label_named : (word : List ℕ) (l : Label) → label word ≡ some l → HasName l
label_named word l h = parts_named (parts_of (λ b. b == 58) word) l h
  where
    parts_named : (parts : List (List ℕ)) (l : Label) → label_of parts ≡ some l → HasName l
    parts_named [] l h = absurd (none_some l h)
    parts_named (kind ∷ []) l h = absurd (none_some l h)
    parts_named (kind ∷ party ∷ []) l h =
        let c = came (given (bytes_eq kind (codes "D")) party) (λ word. a_name word >>= λ p. some (Deposit p)) l h in
        let d = came (a_name c.first) (λ p. some (Deposit p)) l c.then' in
        subst HasName (some_is (Deposit d.first) l d.then') (name_spelled c.first d.first d.is).name
    parts_named (kind ∷ contract ∷ place ∷ []) l h = absurd (none_some l h)
    parts_named (kind ∷ contract ∷ place ∷ party ∷ []) l h =
        let c = came (given (bytes_eq kind (codes "B")) contract)
        (λ word. small word >>= λ k. path place >>= λ q. a_name party >>= λ p. some (Branch k q p)) l h in
        let d = came (small c.first) (λ k. path place >>= λ q. a_name party >>= λ p. some (Branch k q p)) l c.then' in
        let e = came (path place) (λ q. a_name party >>= λ p. some (Branch d.first q p)) l d.then' in
        let f = came (a_name party) (λ p. some (Branch d.first e.first p)) l e.then' in
        subst HasName (some_is (Branch d.first e.first f.first) l f.then') (name_spelled party f.first f.is).name
    parts_named (kind ∷ contract ∷ place ∷ party ∷ more ∷ parts) l h = absurd (none_some l h)

has_name : (l : Label) → HasName l → labels.HasName l
has_name (Deposit party) h = h
has_name (Branch contract path party) h = h

-- ---- one line

module _ (parties : List (List ℕ)) where
  abbrev Spells : List ℕ → List (List ℕ) → Event → Type 0
  Spells word words e = SpellsEvent parties (word ∷ words) e

  advertise_spelled : (words : List (List ℕ)) (e : Event) → advertise parties words ≡ some e → Spells (codes "advertise") words e
  advertise_spelled [] e h = absurd (none_some e h)
  advertise_spelled (k ∷ bs) e h =
      let c = came (small k) (λ n. all_of (named output) bs >>= λ l. some (events.Advertise n l)) e h in
      let d = came (all_of (named output) bs) (λ l. some (events.Advertise c.first l)) e c.then' in
      let n = small_spelled k c.first c.is in
      subst (Spells (codes "advertise") (k ∷ bs)) (some_is (events.Advertise c.first d.first) e d.then') (
        bs,
        ap (λ (w : List ℕ). codes "advertise" ∷ w ∷ bs) n.word',
        n.less,
        all_spelled (named output) SpellsBinding binding_spelled bs d.first d.is,
      )

  commit_spelled : (words : List (List ℕ)) (e : Event) → commit parties words ≡ some e → Spells (codes "commit") words e
  commit_spelled [] e h = absurd (none_some e h)
  commit_spelled (k ∷ []) e h = absurd (none_some e h)
  commit_spelled (k ∷ a ∷ ws) e h =
      let c = came (small k) (λ n. one_of parties a >>= λ p. all_of (named digest) ws >>= λ l. some (events.Commit n p l)) e h in
      let d = came (one_of parties a) (λ p. all_of (named digest) ws >>= λ l. some (events.Commit c.first p l)) e c.then' in
      let f = came (all_of (named digest) ws) (λ l. some (events.Commit c.first d.first l)) e d.then' in
      let n = small_spelled k c.first c.is in
      let p = one_spelled parties a d.first d.is in
      subst (Spells (codes "commit") (k ∷ a ∷ ws)) (some_is (events.Commit c.first d.first f.first) e f.then') (
        ws,
        (λ i. codes "commit" ∷ n.word' i ∷ p.word' i ∷ ws),
        n.less,
        p.there,
        all_spelled (named digest) SpellsNamedDigest named_spelled ws f.first f.is,
      )

  endorse_spelled : (words : List (List ℕ)) (e : Event) → contract_and_party events.Endorse parties words ≡ some e
      → Spells (codes "endorse") words e
  endorse_spelled [] e h = absurd (none_some e h)
  endorse_spelled (k ∷ []) e h = absurd (none_some e h)
  endorse_spelled (k ∷ a ∷ []) e h =
      let c = came (small k) (λ n. one_of parties a >>= λ p. some (events.Endorse n p)) e h in
      let d = came (one_of parties a) (λ p. some (events.Endorse c.first p)) e c.then' in
      let n = small_spelled k c.first c.is in
      let p = one_spelled parties a d.first d.is in
      subst (Spells (codes "endorse") (k ∷ a ∷ [])) (some_is (events.Endorse c.first d.first) e d.then')
      ((λ i. codes "endorse" ∷ n.word' i ∷ p.word' i ∷ []), n.less, p.there)
  endorse_spelled (k ∷ a ∷ b ∷ ws) e h = absurd (none_some e h)

  init_spelled : (words : List (List ℕ)) (e : Event) → contract_and_party events.Init parties words ≡ some e → Spells (codes "init") words e
  init_spelled [] e h = absurd (none_some e h)
  init_spelled (k ∷ []) e h = absurd (none_some e h)
  init_spelled (k ∷ a ∷ []) e h =
      let c = came (small k) (λ n. one_of parties a >>= λ p. some (events.Init n p)) e h in
      let d = came (one_of parties a) (λ p. some (events.Init c.first p)) e c.then' in
      let n = small_spelled k c.first c.is in
      let p = one_spelled parties a d.first d.is in
      subst (Spells (codes "init") (k ∷ a ∷ [])) (some_is (events.Init c.first d.first) e d.then')
      ((λ i. codes "init" ∷ n.word' i ∷ p.word' i ∷ []), n.less, p.there)
  init_spelled (k ∷ a ∷ b ∷ ws) e h = absurd (none_some e h)

  authorise_spelled : (words : List (List ℕ)) (e : Event) → authorise parties words ≡ some e → Spells (codes "authorise") words e
  authorise_spelled [] e h = absurd (none_some e h)
  authorise_spelled (a ∷ []) e h = absurd (none_some e h)
  authorise_spelled (a ∷ n ∷ []) e h = absurd (none_some e h)
  authorise_spelled (a ∷ n ∷ b ∷ []) e h =
      let c = came (one_of parties a) (λ p. output n >>= λ o. small b >>= λ j. some (events.Authorise p o j)) e h in
      let d = came (output n) (λ o. small b >>= λ j. some (events.Authorise c.first o j)) e c.then' in
      let f = came (small b) (λ j. some (events.Authorise c.first d.first j)) e d.then' in
      let p = one_spelled parties a c.first c.is in
      let o = output_spelled n d.first d.is in
      let j = small_spelled b f.first f.is in
      subst (Spells (codes "authorise") (a ∷ n ∷ b ∷ [])) (some_is (events.Authorise c.first d.first f.first) e f.then')
      ((λ i. codes "authorise" ∷ p.word' i ∷ o.word' i ∷ j.word' i ∷ []), p.there, o.less, j.less)
  authorise_spelled (a ∷ n ∷ b ∷ x ∷ ws) e h = absurd (none_some e h)

  reveal_spelled : (words : List (List ℕ)) (e : Event) → reveal parties words ≡ some e → Spells (codes "reveal") words e
  reveal_spelled [] e h = absurd (none_some e h)
  reveal_spelled (k ∷ []) e h = absurd (none_some e h)
  reveal_spelled (k ∷ a ∷ []) e h = absurd (none_some e h)
  reveal_spelled (k ∷ a ∷ x ∷ []) e h =
      let c = came (small k) (λ n. one_of parties a >>= λ p. a_name x >>= λ y. some (events.Reveal n p y)) e h in
      let d = came (one_of parties a) (λ p. a_name x >>= λ y. some (events.Reveal c.first p y)) e c.then' in
      let f = came (a_name x) (λ y. some (events.Reveal c.first d.first y)) e d.then' in
      let n = small_spelled k c.first c.is in
      let p = one_spelled parties a d.first d.is in
      let s = name_spelled x f.first f.is in
      subst (Spells (codes "reveal") (k ∷ a ∷ x ∷ [])) (some_is (events.Reveal c.first d.first f.first) e f.then')
      ((λ i. codes "reveal" ∷ n.word' i ∷ p.word' i ∷ s.word' i ∷ []), n.less, p.there, s.name)
  reveal_spelled (k ∷ a ∷ x ∷ y ∷ ws) e h = absurd (none_some e h)

  post_spelled : (words : List (List ℕ)) (e : Event) → bytes_event events.Post parties words ≡ some e → Spells (codes "post") words e
  post_spelled [] e h = absurd (none_some e h)
  post_spelled (w ∷ []) e h =
      let c = came (read_hex w) (λ bytes. some (events.Post bytes)) e h in
      subst (Spells (codes "post") (w ∷ [])) (some_is (events.Post c.first) e c.then') (w, refl, bytes_spelled w c.first c.is)
  post_spelled (w ∷ v ∷ ws) e h = absurd (none_some e h)

  append_spelled : (words : List (List ℕ)) (e : Event) → bytes_event events.Append parties words ≡ some e → Spells (codes "append") words e
  append_spelled [] e h = absurd (none_some e h)
  append_spelled (w ∷ []) e h =
      let c = came (read_hex w) (λ bytes. some (events.Append bytes)) e h in
      subst (Spells (codes "append") (w ∷ [])) (some_is (events.Append c.first) e c.then') (w, refl, bytes_spelled w c.first c.is)
  append_spelled (w ∷ v ∷ ws) e h = absurd (none_some e h)

  sign_spelled : (words : List (List ℕ)) (e : Event) → sign parties words ≡ some e → Spells (codes "sign") words e
  sign_spelled [] e h = absurd (none_some e h)
  sign_spelled (a ∷ []) e h = absurd (none_some e h)
  sign_spelled (a ∷ l ∷ []) e h = absurd (none_some e h)
  sign_spelled (a ∷ l ∷ w ∷ []) e h =
      let c = came (one_of parties a) (λ p. label l >>= λ m. digest w >>= λ d. some (events.Sign p m d)) e h in
      let d = came (label l) (λ m. digest w >>= λ d. some (events.Sign c.first m d)) e c.then' in
      let f = came (digest w) (λ d'. some (events.Sign c.first d.first d')) e d.then' in
      let p = one_spelled parties a c.first c.is in
      let q : l ≡ label_text d.first = sym (label_word l d.first d.is) in
      subst (Spells (codes "sign") (a ∷ l ∷ w ∷ [])) (some_is (events.Sign c.first d.first f.first) e f.then') (
        w,
        (λ i. codes "sign" ∷ p.word' i ∷ q i ∷ w ∷ []),
        p.there,
        label_is l d.first d.is,
        label_named l d.first d.is,
        digest_spelled w f.first f.is,
      )
  sign_spelled (a ∷ l ∷ w ∷ v ∷ ws) e h = absurd (none_some e h)

  fire_spelled : (words : List (List ℕ)) (e : Event) → fire parties words ≡ some e → Spells (codes "fire") words e
  fire_spelled [] e h = absurd (none_some e h)
  fire_spelled (w ∷ []) e h = absurd (none_some e h)
  fire_spelled (w ∷ n ∷ []) e h =
      by_test (bytes_eq w (codes "init")) _ _ (some e) (Spells (codes "fire") (w ∷ n ∷ []) e) h
      (λ same h1.
      let c = came (small n) (λ k. some (events.FireInit k)) e h1 in
      let p = same_bytes w (codes "init") same in
      let k = small_spelled n c.first c.is in
      subst (Spells (codes "fire") (w ∷ n ∷ [])) (some_is (events.FireInit c.first) e c.then')
      ((λ i. codes "fire" ∷ p i ∷ k.word' i ∷ []), k.less))
      (λ h1.
      let c = came (output w) (λ o. small n >>= λ j. some (events.Fire o j)) e h1 in
      let d = came (small n) (λ j. some (events.Fire c.first j)) e c.then' in
      let o = output_spelled w c.first c.is in
      let j = small_spelled n d.first d.is in
      subst (Spells (codes "fire") (w ∷ n ∷ [])) (some_is (events.Fire c.first d.first) e d.then')
      ((λ i. codes "fire" ∷ o.word' i ∷ j.word' i ∷ []), o.less, j.less))
  fire_spelled (w ∷ n ∷ v ∷ ws) e h = absurd (none_some e h)

  mine_spelled : (words : List (List ℕ)) (e : Event) → mine parties words ≡ some e → Spells (codes "mine") words e
  mine_spelled [] e h = absurd (none_some e h)
  mine_spelled (w ∷ []) e h =
      let c = came (small w) (λ n. given (nat_le 1 n) (events.Mine n)) e h in
      let g = given_is (nat_le 1 c.first) (events.Mine c.first) e c.then' in
      let n = small_spelled w c.first c.is in
      subst (Spells (codes "mine") (w ∷ [])) g.same ((λ i. codes "mine" ∷ n.word' i ∷ []), n.less, le c.first g.holds)
    where
      le : (n : ℕ) → nat_le 1 n ≡ true → 1 ≤ n
      le n h = grind (arith, nat_tests)
  mine_spelled (w ∷ v ∷ ws) e h = absurd (none_some e h)

  -- ---- gifts

  abbrev Split : Type 0
  Split = List (List ℕ) × List (List ℕ)

  abbrev with_arrow : Split → List (List ℕ)
  with_arrow p = p.0 ++ codes "->" ∷ p.1

  split_is : (t : Bool) (word : List ℕ) (words : List (List ℕ)) (later : Option Split) (p : Split) → bytes_eq word (codes "->") ≡ t
      → before_arrow t word words later ≡ some p → ((q : Split) → later ≡ some q → with_arrow q ≡ words) → with_arrow p ≡ word ∷ words
  split_is true word words later p same h f =
      ap with_arrow (sym (some_is ([], words) p h)) ∙ ap (λ (w : List ℕ). w ∷ words) (sym (same_bytes word (codes "->") same))
  split_is false word words None p same h f = absurd (none_some p h)
  split_is false word words (Some q) p same h f =
      ap with_arrow (sym (some_is (word ∷ q.0, q.1) p h)) ∙ ap (λ (ws : List (List ℕ)). word ∷ ws) (f q refl)

  arrow_words : (words : List (List ℕ)) (p : Split) → at_arrow words ≡ some p → with_arrow p ≡ words
  arrow_words [] p h = absurd (none_some p h)
  arrow_words (w ∷ ws) p h = split_is (bytes_eq w (codes "->")) w ws (at_arrow ws) p refl h (arrow_words ws)

  -- inputs, which are words of their own
  record AreOutputs (words : List (List ℕ)) (ns : List ℕ) : Type 0 where
    words' : words ≡ map output_text ns
    less : AllByRecursion IsSmall ns

  outputs_spelled : (words : List (List ℕ)) (ns : List ℕ) → all_of output words ≡ some ns → AreOutputs words ns
  outputs_spelled [] ns h = subst (AreOutputs []) (some_is [] ns h) (record { words' = refl; less = tt })
  outputs_spelled (word ∷ words) ns h =
      let o = onto_is (output word) (all_of output words) ns h in
      let first = output_spelled word o.first o.is in
      let others = outputs_spelled words o.others o.are in
      subst (AreOutputs (word ∷ words)) (sym o.all)
      (record { words' = λ i. first.word' i ∷ others.words' i; less = (first.less, others.less) })

  outputs_back : (ns : List ℕ) → AllByRecursion IsSmall ns → all_of output (map output_text ns) ≡ some ns
  outputs_back [] h = refl
  outputs_back (n ∷ ns) h = rw (output_back n (h.0), outputs_back ns (h.1)) refl

  -- parties with amounts
  record AreShares (words : List (List ℕ)) (os : List (List ℕ × ℕ)) : Type 0 where
    words' : words ≡ flat_map share_words os
    each : AllByRecursion (IsShare parties) os

  share_spelled : (a v : List ℕ) (o : List ℕ × ℕ) → (one_of parties a >>= λ p. amount v >>= λ n. some (p, n)) ≡ some o
      → (a ∷ v ∷ [] ≡ share_words o) × IsShare parties o
  share_spelled a v o h =
      let c = came (one_of parties a) (λ p. amount v >>= λ n. some (p, n)) o h in
      let d = came (amount v) (λ n. some (c.first, n)) o c.then' in
      let p = one_spelled parties a c.first c.is in
      let n = amount_spelled v d.first d.is in
      subst (λ (x : List ℕ × ℕ). (a ∷ v ∷ [] ≡ share_words x) × IsShare parties x) (some_is (c.first, d.first) o d.then')
      ((λ i. p.word' i ∷ n.word' i ∷ []), (p.there, n.less))

  shares_spelled : (words : List (List ℕ)) (os : List (List ℕ × ℕ)) → shares parties words ≡ some os → AreShares words os
  shares_spelled [] os h = subst (AreShares []) (some_is [] os h) (record { words' = refl; each = tt })
  shares_spelled (a ∷ []) os h = absurd (none_some os h)
  shares_spelled (a ∷ v ∷ ws) os h =
      let o = onto_is (one_of parties a >>= λ p. amount v >>= λ n. some (p, n)) (shares parties ws) os h in
      let first = share_spelled a v o.first o.is in
      let others = shares_spelled ws o.others o.are in
      subst (AreShares (a ∷ v ∷ ws)) (sym o.all)
      (record { words' = λ i. first.0 i ++ others.words' i; each = (first.1, others.each) })

  shares_back : (os : List (List ℕ × ℕ)) → AllByRecursion (IsShare parties) os → shares parties (flat_map share_words os) ≡ some os
  shares_back [] h = refl
  shares_back (o ∷ os) (share, others) = rw (one_back parties (o.0) (share.0), amount_back (o.1) (share.1), shares_back os others) refl

  is_some : {A : Type 0} (xs : List A) → is_some_list xs ≡ true → xs ≡ [] → ⊥
  is_some xs h e = absurd (let n = ap (is_some_list) (sym e) ∙ h in cc)

  some_list : {A : Type 0} (xs : List A) → (xs ≡ [] → ⊥) → is_some_list xs ≡ true
  some_list [] h = absurd (h refl)
  some_list (x ∷ xs) h = refl

  give_spelled : (words : List (List ℕ)) (e : Event) → give parties words ≡ some e → Spells (codes "give") words e
  give_spelled [] e h = absurd (none_some e h)
  give_spelled (a ∷ ws) e h =
      let c = came (one_of parties a) (λ p. at_arrow ws >>= λ q. all_of output (q.0) >>= λ is. shares parties (q.1) >>= λ os. given (is_some_list is && is_some_list os) (events.Give p is os)) e h in
      let d = came (at_arrow ws) (λ q. all_of output (q.0) >>= λ is. shares parties (q.1) >>= λ os. given (is_some_list is && is_some_list os) (events.Give c.first is os)) e c.then' in
      let f = came (all_of output (d.first.0)) (λ is. shares parties (d.first.1) >>= λ os. given (is_some_list is && is_some_list os) (events.Give c.first is os)) e d.then' in
      let g = came (shares parties (d.first.1)) (λ os. given (is_some_list f.first && is_some_list os) (events.Give c.first f.first os)) e f.then' in
      let t = given_is (is_some_list f.first && is_some_list g.first) (events.Give c.first f.first g.first) e g.then' in
      let both = and_parts (is_some_list f.first) (is_some_list g.first) t.holds in
      let p = one_spelled parties a c.first c.is in
      let ns = outputs_spelled d.first.0 f.first f.is in
      let os = shares_spelled d.first.1 g.first g.is in
      subst (Spells (codes "give") (a ∷ ws)) t.same (
        (λ i. codes "give" ∷ p.word' i ∷ sym (arrow_words ws d.first d.is) i)
            ∙ (λ i. codes "give" ∷ c.first ∷ (ns.words' i ++ codes "->" ∷ os.words' i)),
        p.there,
        is_some f.first (both.0),
        ns.less,
        is_some g.first (both.1),
        os.each,
      )

  -- no output is the arrow
  no_arrow : (ns : List ℕ) (rest : List (List ℕ)) → at_arrow (map output_text ns ++ codes "->" ∷ rest) ≡ some (map output_text ns, rest)
  no_arrow [] rest = refl
  no_arrow (n ∷ ns) rest = rw (no_arrow ns rest) refl

  -- ---- all events

  event_by_spelled : (word : List ℕ) (words : List (List ℕ)) (e : Event) → event_by word parties words ≡ some e → Spells word words e
  event_by_spelled word words e h =
      let P : Type 0 = Spells word words e in
      by_test (bytes_eq word (codes "advertise")) _ _ (some e) P h (λ w x. is (codes "advertise") w (advertise_spelled words e x)) (λ h1.
      by_test (bytes_eq word (codes "commit")) _ _ (some e) P h1 (λ w x. is (codes "commit") w (commit_spelled words e x)) (λ h2.
      by_test (bytes_eq word (codes "endorse")) _ _ (some e) P h2 (λ w x. is (codes "endorse") w (endorse_spelled words e x)) (λ h3.
      by_test (bytes_eq word (codes "init")) _ _ (some e) P h3 (λ w x. is (codes "init") w (init_spelled words e x)) (λ h4.
      by_test (bytes_eq word (codes "authorise")) _ _ (some e) P h4 (λ w x. is (codes "authorise") w (authorise_spelled words e x)) (λ h5.
      by_test (bytes_eq word (codes "reveal")) _ _ (some e) P h5 (λ w x. is (codes "reveal") w (reveal_spelled words e x)) (λ h6.
      by_test (bytes_eq word (codes "post")) _ _ (some e) P h6 (λ w x. is (codes "post") w (post_spelled words e x)) (λ h7.
      by_test (bytes_eq word (codes "sign")) _ _ (some e) P h7 (λ w x. is (codes "sign") w (sign_spelled words e x)) (λ h8.
      by_test (bytes_eq word (codes "give")) _ _ (some e) P h8 (λ w x. is (codes "give") w (give_spelled words e x)) (λ h9.
      by_test (bytes_eq word (codes "append")) _ _ (some e) P h9 (λ w x. is (codes "append") w (append_spelled words e x)) (λ h10.
      by_test (bytes_eq word (codes "fire")) _ _ (some e) P h10 (λ w x. is (codes "fire") w (fire_spelled words e x)) (λ h11.
      by_test (bytes_eq word (codes "mine")) _ _ (some e) P h11 (λ w x. is (codes "mine") w (mine_spelled words e x))
      (λ h12. absurd (none_some e h12)))))))))))))
    where
      is : (name : List ℕ) → bytes_eq word name ≡ true → Spells name words e → Spells word words e
      is name same s = subst (λ (w : List ℕ). Spells w words e) (sym (same_bytes word name same)) s

  pub event_spelled : (words : List (List ℕ)) (e : Event) → event_of parties words ≡ some e → SpellsEvent parties words e
  event_spelled [] e h = absurd (none_some e h)
  event_spelled (word ∷ words) e h = event_by_spelled word words e h

  abbrev read : List (List ℕ) → Option Event
  read words = event_of parties words

  le_one : (n : ℕ) → 1 ≤ n → nat_le 1 n ≡ true
  le_one n h = grind (arith, nat_tests)

  pub event_back : (words : List (List ℕ)) (e : Event) → SpellsEvent parties words e → event_of parties words ≡ some e
  event_back words (events.Advertise k bindings) (bound, e, less, each) =
      ap read e ∙ rw (small_back k less, all_back (named output) SpellsBinding binding_back bound bindings each) refl
  event_back words (events.Commit k a digests) (digits, e, less, there, each) =
      ap read e
      ∙ rw (small_back k less, one_back parties a there, all_back (named digest) SpellsNamedDigest named_digest_back digits digests each) refl
  event_back words (events.Endorse k a) (e, less, there) = ap read e ∙ rw (small_back k less, one_back parties a there) refl
  event_back words (events.Init k a) (e, less, there) = ap read e ∙ rw (small_back k less, one_back parties a there) refl
  event_back words (events.Authorise a n j) (e, there, number, less) =
      ap read e ∙ rw (one_back parties a there, output_back n number, small_back j less) refl
  event_back words (events.Reveal k a s) (e, less, there, name) =
      ap read e ∙ rw (small_back k less, one_back parties a there, name_back s name) refl
  event_back words (events.Post bytes) (hex, e, spelled) = ap read e ∙ rw (bytes_back hex bytes spelled) refl
  event_back words (events.Sign b l d) (hex, e, there, is_label, has, spelled) =
      ap read e ∙ rw (one_back parties b there, label_back l is_label (has_name l has), digest_back hex d spelled) refl
  event_back words (events.Give a inputs outputs) (e, there, some_in, less, some_out, each) =
      ap read e
      ∙ rw (
        one_back parties a there,
        no_arrow inputs (flat_map share_words outputs),
        outputs_back inputs less,
        shares_back outputs each,
        some_list inputs some_in,
        some_list outputs some_out,
      ) refl
  event_back words (events.Append bytes) (hex, e, spelled) = ap read e ∙ rw (bytes_back hex bytes spelled) refl
  event_back words (events.FireInit k) (e, less) = ap read e ∙ rw (small_back k less) refl
  event_back words (events.Fire n j) (e, number, less) = ap read e ∙ rw (output_back n number, small_back j less) refl
  event_back words (events.Mine n) (e, less, more) = ap read e ∙ rw (small_back n less, le_one n more) refl

  -- and none otherwise
  pub none_spelled : (words : List (List ℕ)) → event_of parties words ≡ None → SpellsNoEvent parties words
  none_spelled words h e s = none_some e (sym h ∙ event_back words e s)

  pub none_back : (words : List (List ℕ)) → SpellsNoEvent parties words → event_of parties words ≡ None
  none_back words h = by_event (event_of parties words) refl
    where
      by_event : (o : Option Event) → event_of parties words ≡ o → event_of parties words ≡ None
      by_event None e = e
      by_event (Some event) e = absurd (h event (event_spelled words event e))
