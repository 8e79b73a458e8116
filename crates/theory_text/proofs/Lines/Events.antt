-- The canonical line of an event is read as that event.
use Rattle.std.proofs.Common.{◌≡◌, ℕ, Bool, true, false, List, [], ◌∷◌, ◌++◌, Option, Some, None, refl, sym, ap, subst, ◌∙◌, append_assoc}
use Rattle.std.specs.Prelude.{◌&&◌, nat_le, codes}
use Rattle.std.specs.Fmt.{decimal}
use Rattle.std.specs.List.{AllZip}
use Rattle.std.specs.Str.{bytes_eq}
use Rattle.std.proofs.lemmas.List.{append-nil}
use Rattle.spec_bitcoin.specs.declared.label.Label.{Label}
use Rattle.spec_data.specs.Digits.{hex_text, read_hex}
use Rattle.spec_run.specs.declared.event.Event.{Event}
use Rattle.spec_run.specs.declared.event.Event.TheVariants as events
use Rattle.spec_text.specs.Words.{◌>>=◌, given, small, amount, output, a_name, one_of, digest, named, all_of, label}
use Rattle.spec_text.specs.EventLines.{advertise, commit, contract_and_party, authorise, reveal, bytes_event, sign, before_arrow, at_arrow, shares, is_some_list, give, fire, mine, event_by, event_of}
use Rattle.spec_text.specs.RunText.{output_text, digests_text, shares_text, contract_party_text, event_text}
use Rattle.theory_text.proofs.ListFacts.{by_test}
use Rattle.theory_text.proofs.Options.{some, some_is, none_some, came, onto_is, given_is}
use Rattle.theory_text.proofs.Lines.HexBack.{read_hex_back}
use Rattle.theory_text.proofs.Lines.Separated.{spaced, each_spaced}
use Rattle.theory_text.proofs.Lines.PrintedWords.{same_bytes, small_word, amount_word, output_word, one_word, name_word, binding_text, binding_word, all_words, label_word}
use Rattle.theory_text.proofs.Lines.Digests.{Twin, same_twin, same_twins, hex_twin, digest_back, digests_back}

-- words of the canonical line of an event, in place of those from which it was read
pub record Canonical (parties words : List (List ℕ)) (e : Event) : Type 0 where
  pub again : List (List ℕ)
  pub text : event_text e ≡ spaced again
  pub read : event_of parties again ≡ some e
  pub twins : AllZip Twin words again

-- the line of these words behind this first one is canonical
abbrev Said : List ℕ → List (List ℕ) → Event → Type 0
Said name words e = event_text e ≡ spaced (name ∷ words)

as_is : (parties words : List (List ℕ)) (word name : List ℕ) (e : Event) → bytes_eq word name ≡ true → event_of parties (word ∷ words)
    ≡ some e → Said name words e → Canonical parties (word ∷ words) e
as_is parties words word name e same h text =
    record {
      again = word ∷ words;
      text = text
          ∙ ap (λ (w : List ℕ). spaced (w ∷ words)) (sym (same_bytes word name same));
      read = h;
      twins = same_twins (word ∷ words);
    }

-- what stands at the end of a line
at_end : (xs word : List ℕ) → xs ≡ word → xs ≡ word ++ []
at_end xs word h = h ∙ sym (append-nil word)

-- ---- lines that are canonical but for their spaces

advertise_said : (parties words : List (List ℕ)) (e : Event) → advertise parties words ≡ some e → Said (codes "advertise") words e
advertise_said parties [] e h = absurd (none_some e h)
advertise_said parties (k ∷ bs) e h =
    let c = came (small k) (λ n. all_of (named output) bs >>= λ l. some (events.Advertise n l)) e h in
    let d = came (all_of (named output) bs) (λ l. some (events.Advertise c.first l)) e c.then' in
    let p = small_word k c.first c.is in
    let q = all_words (named output) binding_text binding_word bs d.first d.is in
    ap event_text (sym (some_is (events.Advertise c.first d.first) e d.then')) ∙ (λ i. codes "advertise " ++ (p i ++ q i))

-- a contract and a party as two words
two_text : (k : ℕ) (a word party rest : List ℕ) → decimal k ≡ word → a ≡ party → contract_party_text k a ++ rest ≡ word ++ (codes " " ++ (party ++ rest))
two_text k a word party rest p q = append_assoc (decimal k) (codes " " ++ a) rest ∙ (λ i. p i ++ (codes " " ++ (q i ++ rest)))

two_last : (k : ℕ) (a word party : List ℕ) → decimal k ≡ word → a ≡ party → contract_party_text k a ≡ word ++ (codes " " ++ (party ++ []))
two_last k a word party p q = λ i. p i ++ (codes " " ++ at_end a party q i)

endorse_said : (parties words : List (List ℕ)) (e : Event) → contract_and_party events.Endorse parties words ≡ some e → Said (codes "endorse") words e
endorse_said parties [] e h = absurd (none_some e h)
endorse_said parties (k ∷ []) e h = absurd (none_some e h)
endorse_said parties (k ∷ a ∷ []) e h =
    let c = came (small k) (λ n. one_of parties a >>= λ p. some (events.Endorse n p)) e h in
    let d = came (one_of parties a) (λ p. some (events.Endorse c.first p)) e c.then' in
    let p = two_last c.first d.first k a (small_word k c.first c.is) (one_word parties a d.first d.is) in
    ap event_text (sym (some_is (events.Endorse c.first d.first) e d.then')) ∙ (λ i. codes "endorse " ++ p i)
endorse_said parties (k ∷ a ∷ b ∷ ws) e h = absurd (none_some e h)

init_said : (parties words : List (List ℕ)) (e : Event) → contract_and_party events.Init parties words ≡ some e → Said (codes "init") words e
init_said parties [] e h = absurd (none_some e h)
init_said parties (k ∷ []) e h = absurd (none_some e h)
init_said parties (k ∷ a ∷ []) e h =
    let c = came (small k) (λ n. one_of parties a >>= λ p. some (events.Init n p)) e h in
    let d = came (one_of parties a) (λ p. some (events.Init c.first p)) e c.then' in
    let p = two_last c.first d.first k a (small_word k c.first c.is) (one_word parties a d.first d.is) in
    ap event_text (sym (some_is (events.Init c.first d.first) e d.then')) ∙ (λ i. codes "init " ++ p i)
init_said parties (k ∷ a ∷ b ∷ ws) e h = absurd (none_some e h)

authorise_said : (parties words : List (List ℕ)) (e : Event) → authorise parties words ≡ some e → Said (codes "authorise") words e
authorise_said parties [] e h = absurd (none_some e h)
authorise_said parties (a ∷ []) e h = absurd (none_some e h)
authorise_said parties (a ∷ n ∷ []) e h = absurd (none_some e h)
authorise_said parties (a ∷ n ∷ b ∷ []) e h =
    let c = came (one_of parties a) (λ p. output n >>= λ o. small b >>= λ j. some (events.Authorise p o j)) e h in
    let d = came (output n) (λ o. small b >>= λ j. some (events.Authorise c.first o j)) e c.then' in
    let f = came (small b) (λ j. some (events.Authorise c.first d.first j)) e d.then' in
    let p = one_word parties a c.first c.is in
    let q = output_word n d.first d.is in
    let r = at_end (decimal f.first) b (small_word b f.first f.is) in
    ap event_text (sym (some_is (events.Authorise c.first d.first f.first) e f.then'))
    ∙ (λ i. codes "authorise " ++ (p i ++ (codes " " ++ (q i ++ (codes " " ++ r i)))))
authorise_said parties (a ∷ n ∷ b ∷ x ∷ ws) e h = absurd (none_some e h)

reveal_said : (parties words : List (List ℕ)) (e : Event) → reveal parties words ≡ some e → Said (codes "reveal") words e
reveal_said parties [] e h = absurd (none_some e h)
reveal_said parties (k ∷ []) e h = absurd (none_some e h)
reveal_said parties (k ∷ a ∷ []) e h = absurd (none_some e h)
reveal_said parties (k ∷ a ∷ x ∷ []) e h =
    let c = came (small k) (λ n. one_of parties a >>= λ p. a_name x >>= λ y. some (events.Reveal n p y)) e h in
    let d = came (one_of parties a) (λ p. a_name x >>= λ y. some (events.Reveal c.first p y)) e c.then' in
    let f = came (a_name x) (λ y. some (events.Reveal c.first d.first y)) e d.then' in
    let p = two_text c.first d.first k a (codes " " ++ f.first) (small_word k c.first c.is) (one_word parties a d.first d.is) in
    let q = at_end f.first x (name_word x f.first f.is) in
    ap event_text (sym (some_is (events.Reveal c.first d.first f.first) e f.then'))
    ∙ ((λ i. codes "reveal " ++ p i) ∙ (λ i. codes "reveal " ++ (k ++ (codes " " ++ (a ++ (codes " " ++ q i))))))
reveal_said parties (k ∷ a ∷ x ∷ y ∷ ws) e h = absurd (none_some e h)

fire_said : (parties words : List (List ℕ)) (e : Event) → fire parties words ≡ some e → Said (codes "fire") words e
fire_said parties [] e h = absurd (none_some e h)
fire_said parties (w ∷ []) e h = absurd (none_some e h)
fire_said parties (w ∷ n ∷ []) e h =
    by_test (bytes_eq w (codes "init")) _ _ (some e) (Said (codes "fire") (w ∷ n ∷ []) e) h
    (λ same h1.
    let c = came (small n) (λ k. some (events.FireInit k)) e h1 in
    let p = sym (same_bytes w (codes "init") same) in
    let q = at_end (decimal c.first) n (small_word n c.first c.is) in
    ap event_text (sym (some_is (events.FireInit c.first) e c.then')) ∙ (λ i. codes "fire " ++ (p i ++ (codes " " ++ q i))))
    (λ h1.
    let c = came (output w) (λ o. small n >>= λ j. some (events.Fire o j)) e h1 in
    let d = came (small n) (λ j. some (events.Fire c.first j)) e c.then' in
    let p = output_word w c.first c.is in
    let q = at_end (decimal d.first) n (small_word n d.first d.is) in
    ap event_text (sym (some_is (events.Fire c.first d.first) e d.then')) ∙ (λ i. codes "fire " ++ (p i ++ (codes " " ++ q i))))
fire_said parties (w ∷ n ∷ v ∷ ws) e h = absurd (none_some e h)

mine_said : (parties words : List (List ℕ)) (e : Event) → mine parties words ≡ some e → Said (codes "mine") words e
mine_said parties [] e h = absurd (none_some e h)
mine_said parties (w ∷ []) e h =
    let c = came (small w) (λ n. given (nat_le 1 n) (events.Mine n)) e h in
    let g = given_is (nat_le 1 c.first) (events.Mine c.first) e c.then' in
    let p = at_end (decimal c.first) w (small_word w c.first c.is) in
    ap event_text (sym g.same) ∙ (λ i. codes "mine " ++ p i)
mine_said parties (w ∷ v ∷ ws) e h = absurd (none_some e h)

-- ---- gifts

abbrev Split : Type 0
Split = List (List ℕ) × List (List ℕ)

abbrev with_arrow : Split → List (List ℕ)
with_arrow p = p.0 ++ codes "->" ∷ p.1

split_is : (t : Bool) (word : List ℕ) (words : List (List ℕ)) (later : Option Split) (p : Split) → bytes_eq word (codes "->") ≡ t
    → before_arrow t word words later ≡ some p → ((q : Split) → later ≡ some q → with_arrow q ≡ words) → with_arrow p ≡ word ∷ words
split_is true word words later p same h f =
    ap with_arrow (sym (some_is ([], words) p h)) ∙ ap (λ (w : List ℕ). w ∷ words) (sym (same_bytes word (codes "->") same))
split_is false word words None p same h f = absurd (none_some p h)
split_is false word words (Some q) p same h f = ap with_arrow (sym (some_is (word ∷ q.0, q.1) p h)) ∙ ap (λ (ws : List (List ℕ)). word ∷ ws) (f q refl)

arrow_words : (words : List (List ℕ)) (p : Split) → at_arrow words ≡ some p → with_arrow p ≡ words
arrow_words [] p h = absurd (none_some p h)
arrow_words (w ∷ ws) p h = split_is (bytes_eq w (codes "->")) w ws (at_arrow ws) p refl h (arrow_words ws)

each_append : (xs ys : List (List ℕ)) → each_spaced (xs ++ ys) ≡ each_spaced xs ++ each_spaced ys
each_append [] ys = refl
each_append (x ∷ xs) ys =
    ap (λ (rest : List ℕ). codes " " ++ (x ++ rest)) (each_append xs ys)
    ∙ ap (λ (rest : List ℕ). codes " " ++ rest) (sym (append_assoc x (each_spaced xs) (each_spaced ys)))

abbrev Share : Type 0
Share = List ℕ × ℕ

abbrev share_text : Share → List ℕ
share_text p = p.0 ++ (codes " " ++ decimal p.1)

share_words : (parties : List (List ℕ)) (a v : List ℕ) (o : Share)
    → (one_of parties a >>= λ p. amount v >>= λ n. some (p, n)) ≡ some o → share_text o ≡ a ++ (codes " " ++ v)
share_words parties a v o h =
    let c = came (one_of parties a) (λ p. amount v >>= λ n. some (p, n)) o h in
    let d = came (amount v) (λ n. some (c.first, n)) o c.then' in
    let p = one_word parties a c.first c.is in
    let q = amount_word v d.first d.is in
    ap share_text (sym (some_is (c.first, d.first) o d.then')) ∙ (λ i. p i ++ (codes " " ++ q i))

shares_words : (parties words : List (List ℕ)) (outputs : List Share) → shares parties words ≡ some outputs → shares_text outputs ≡ each_spaced words
shares_words parties [] outputs h = ap shares_text (sym (some_is [] outputs h))
shares_words parties (a ∷ []) outputs h = absurd (none_some outputs h)
shares_words parties (a ∷ v ∷ ws) outputs h =
    let o = onto_is (one_of parties a >>= λ p. amount v >>= λ n. some (p, n)) (shares parties ws) outputs h in
    let first = share_words parties a v o.first o.is in
    let others = shares_words parties ws o.others o.are in
    ap shares_text o.all ∙ ((λ i. 32 ∷ (first i ++ others i)) ∙ ap (λ (rest : List ℕ). 32 ∷ rest) (append_assoc a (codes " " ++ v) (each_spaced ws)))

give_said : (parties words : List (List ℕ)) (e : Event) → give parties words ≡ some e → Said (codes "give") words e
give_said parties [] e h = absurd (none_some e h)
give_said parties (a ∷ ws) e h =
    let c = came (one_of parties a) (λ p. at_arrow ws >>= λ q. all_of output (q.0)
    >>= λ is. shares parties (q.1) >>= λ os. given (is_some_list is && is_some_list os) (events.Give p is os)) e h in
    let d = came (at_arrow ws) (λ q. all_of output (q.0)
    >>= λ is. shares parties (q.1) >>= λ os. given (is_some_list is && is_some_list os) (events.Give c.first is os)) e c.then' in
    let f = came (all_of output (d.first.0))
    (λ is. shares parties (d.first.1) >>= λ os. given (is_some_list is && is_some_list os) (events.Give c.first is os)) e d.then' in
    let g = came (shares parties (d.first.1)) (λ os. given (is_some_list f.first && is_some_list os) (events.Give c.first f.first os)) e f.then' in
    let t = given_is (is_some_list f.first && is_some_list g.first) (events.Give c.first f.first g.first) e g.then' in
    let p = one_word parties a c.first c.is in
    let q = all_words output output_text output_word d.first.0 f.first f.is in
    let r = shares_words parties d.first.1 g.first g.is in
    let words : each_spaced d.first.0 ++ (codes " ->" ++ each_spaced d.first.1) ≡ each_spaced ws =
    sym (each_append d.first.0 (codes "->" ∷ d.first.1)) ∙ ap each_spaced (arrow_words ws d.first d.is) in
    ap event_text (sym t.same) ∙ ((λ i. codes "give " ++ (p i ++ (q i ++ (codes " ->" ++ r i)))) ∙ ap (λ (rest : List ℕ). codes "give " ++ (a ++ rest)) words)

-- ---- lines with digits that may be capital letters

-- in place of the name itself a word that is the same
named_first : (parties words : List (List ℕ)) (word name : List ℕ) (e : Event) → bytes_eq word name ≡ true
    → Canonical parties (name ∷ words) e → Canonical parties (word ∷ words) e
named_first parties words word name e same h = subst (λ (w : List ℕ). Canonical parties (w ∷ words) e) (sym (same_bytes word name same)) h

commit_read : (parties again : List (List ℕ)) (k a p : List ℕ) (n : ℕ) (l : List (List ℕ × List ℕ)) → small k ≡ some n → one_of parties a
    ≡ some p → all_of (named digest) again ≡ some l → commit parties (k ∷ a ∷ again) ≡ some (events.Commit n p l)
commit_read parties again k a p n l x y z = rw (x, y, z) refl

commit_again : (parties words : List (List ℕ)) (e : Event) → commit parties words ≡ some e → Canonical parties (codes "commit" ∷ words) e
commit_again parties [] e h = absurd (none_some e h)
commit_again parties (k ∷ []) e h = absurd (none_some e h)
commit_again parties (k ∷ a ∷ ws) e h =
    let c = came (small k) (λ n. one_of parties a >>= λ p. all_of (named digest) ws >>= λ l. some (events.Commit n p l)) e h in
    let d = came (one_of parties a) (λ p. all_of (named digest) ws >>= λ l. some (events.Commit c.first p l)) e c.then' in
    let f = came (all_of (named digest) ws) (λ l. some (events.Commit c.first d.first l)) e d.then' in
    let ds = digests_back ws f.first f.is in
    let p = two_text c.first d.first k a (digests_text f.first) (small_word k c.first c.is) (one_word parties a d.first d.is) in
    subst (Canonical parties (codes "commit" ∷ k ∷ a ∷ ws)) (some_is (events.Commit c.first d.first f.first) e f.then') (record {
      again = codes "commit" ∷ k ∷ a ∷ ds.again;
      text = (λ i. codes "commit " ++ p i) ∙ ap (λ (rest : List ℕ). codes "commit " ++ (k ++ (codes " " ++ (a ++ rest)))) ds.text;
      read = commit_read parties ds.again k a d.first c.first f.first c.is d.is ds.read;
      twins = (same_twin (codes "commit"), (same_twin k, (same_twin a, ds.twins)));
    })

post_again : (parties words : List (List ℕ)) (e : Event) → bytes_event events.Post parties words ≡ some e → Canonical parties (codes "post" ∷ words) e
post_again parties [] e h = absurd (none_some e h)
post_again parties (w ∷ []) e h =
    let c = came (read_hex w) (λ bytes. some (events.Post bytes)) e h in
    subst (Canonical parties (codes "post" ∷ w ∷ [])) (some_is (events.Post c.first) e c.then') (record {
      again = codes "post" ∷ hex_text c.first ∷ [];
      text = ap (λ (rest : List ℕ). codes "post " ++ rest) (at_end (hex_text c.first) (hex_text c.first) refl);
      read = ap (λ (o : Option (List ℕ)). o >>= λ bytes. some (events.Post bytes)) (read_hex_back w c.first c.is).read;
      twins = (same_twin (codes "post"), (hex_twin w c.first c.is, tt));
    })
post_again parties (w ∷ v ∷ ws) e h = absurd (none_some e h)

append_again : (parties words : List (List ℕ)) (e : Event) → bytes_event events.Append parties words ≡ some e → Canonical parties (codes "append" ∷ words) e
append_again parties [] e h = absurd (none_some e h)
append_again parties (w ∷ []) e h =
    let c = came (read_hex w) (λ bytes. some (events.Append bytes)) e h in
    subst (Canonical parties (codes "append" ∷ w ∷ [])) (some_is (events.Append c.first) e c.then') (record {
      again = codes "append" ∷ hex_text c.first ∷ [];
      text = ap (λ (rest : List ℕ). codes "append " ++ rest) (at_end (hex_text c.first) (hex_text c.first) refl);
      read = ap (λ (o : Option (List ℕ)). o >>= λ bytes. some (events.Append bytes)) (read_hex_back w c.first c.is).read;
      twins = (same_twin (codes "append"), (hex_twin w c.first c.is, tt));
    })
append_again parties (w ∷ v ∷ ws) e h = absurd (none_some e h)

sign_read : (parties : List (List ℕ)) (a l w p d : List ℕ) (m : Label) → one_of parties a ≡ some p → label l ≡ some m → digest w ≡ some d
    → sign parties (a ∷ l ∷ w ∷ []) ≡ some (events.Sign p m d)
sign_read parties a l w p d m x y z = rw (x, y, z) refl

sign_again : (parties words : List (List ℕ)) (e : Event) → sign parties words ≡ some e → Canonical parties (codes "sign" ∷ words) e
sign_again parties [] e h = absurd (none_some e h)
sign_again parties (a ∷ []) e h = absurd (none_some e h)
sign_again parties (a ∷ l ∷ []) e h = absurd (none_some e h)
sign_again parties (a ∷ l ∷ w ∷ []) e h =
    let c = came (one_of parties a) (λ p. label l >>= λ m. digest w >>= λ d. some (events.Sign p m d)) e h in
    let d = came (label l) (λ m. digest w >>= λ d. some (events.Sign c.first m d)) e c.then' in
    let f = came (digest w) (λ d'. some (events.Sign c.first d.first d')) e d.then' in
    let back = digest_back w f.first f.is in
    let p = one_word parties a c.first c.is in
    let q = label_word l d.first d.is in
    let r = at_end (hex_text f.first) (hex_text f.first) refl in
    subst (Canonical parties (codes "sign" ∷ a ∷ l ∷ w ∷ [])) (some_is (events.Sign c.first d.first f.first) e f.then') (record {
      again = codes "sign" ∷ a ∷ l ∷ hex_text f.first ∷ [];
      text = λ i. codes "sign " ++ (p i ++ (codes " " ++ (q i ++ (codes " " ++ r i))));
      read = sign_read parties a l (hex_text f.first) c.first f.first d.first c.is d.is back.read;
      twins = (same_twin (codes "sign"), (same_twin a, (same_twin l, (hex_twin w f.first back.hex, tt))));
    })
sign_again parties (a ∷ l ∷ w ∷ v ∷ ws) e h = absurd (none_some e h)

-- ---- all events

event_by_again : (parties : List (List ℕ)) (word : List ℕ) (words : List (List ℕ)) (e : Event) → event_by word parties words ≡ some e
    → Canonical parties (word ∷ words) e
event_by_again parties word words e h =
    let P = Canonical parties (word ∷ words) e in
    by_test (bytes_eq word (codes "advertise")) _ _ (some e) P h (λ w x. as_is parties words word _ e w h (advertise_said parties words e x)) (λ h1.
    by_test (bytes_eq word (codes "commit")) _ _ (some e) P h1 (λ w x. named_first parties words word _ e w (commit_again parties words e x)) (λ h2.
    by_test (bytes_eq word (codes "endorse")) _ _ (some e) P h2 (λ w x. as_is parties words word _ e w h (endorse_said parties words e x)) (λ h3.
    by_test (bytes_eq word (codes "init")) _ _ (some e) P h3 (λ w x. as_is parties words word _ e w h (init_said parties words e x)) (λ h4.
    by_test (bytes_eq word (codes "authorise")) _ _ (some e) P h4 (λ w x. as_is parties words word _ e w h (authorise_said parties words e x)) (λ h5.
    by_test (bytes_eq word (codes "reveal")) _ _ (some e) P h5 (λ w x. as_is parties words word _ e w h (reveal_said parties words e x)) (λ h6.
    by_test (bytes_eq word (codes "post")) _ _ (some e) P h6 (λ w x. named_first parties words word _ e w (post_again parties words e x)) (λ h7.
    by_test (bytes_eq word (codes "sign")) _ _ (some e) P h7 (λ w x. named_first parties words word _ e w (sign_again parties words e x)) (λ h8.
    by_test (bytes_eq word (codes "give")) _ _ (some e) P h8 (λ w x. as_is parties words word _ e w h (give_said parties words e x)) (λ h9.
    by_test (bytes_eq word (codes "append")) _ _ (some e) P h9 (λ w x. named_first parties words word _ e w (append_again parties words e x)) (λ h10.
    by_test (bytes_eq word (codes "fire")) _ _ (some e) P h10 (λ w x. as_is parties words word _ e w h (fire_said parties words e x)) (λ h11.
    by_test (bytes_eq word (codes "mine")) _ _
    (some e) P h11 (λ w x. as_is parties words word _ e w h (mine_said parties words e x)) (λ h12. absurd (none_some e h12)))))))))))))

-- the canonical words of an event
pub event_again : (parties words : List (List ℕ)) (e : Event) → event_of parties words ≡ some e → Canonical parties words e
event_again parties [] e h = absurd (none_some e h)
event_again parties (word ∷ words) e h = event_by_again parties word words e h
