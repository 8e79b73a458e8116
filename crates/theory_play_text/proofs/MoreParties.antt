-- What is read for some parties is read for more.
use Rattle.std.proofs.Common.{◌≡◌, ℕ, Bool, true, false, List, [], ◌∷◌, sym, ap, ◌∙◌}
use Rattle.std.specs.Prelude.{◌&&◌, codes, if◌then◌else◌}
use Rattle.std.specs.List.{AllByRecursion}
use Rattle.std.specs.Str.{bytes_eq}
use Rattle.spec_data.specs.Lists.{is_among}
use Rattle.spec_data.specs.Digits.{onto}
use Rattle.spec_run.specs.declared.event.Event.{Event}
use Rattle.spec_run.specs.declared.event.Event.TheVariants as events
use Rattle.spec_text.specs.Lines.{words_of}
use Rattle.spec_text.specs.RunText.{event_text}
use Rattle.spec_text.specs.Words.{◌>>=◌, given, small, amount, output, a_name, one_of, digest, named, all_of, label}
use Rattle.spec_text.specs.EventLines.{commit, contract_and_party, authorise, reveal, sign, at_arrow, shares, is_some_list, give}
use Rattle.spec_text.specs.EventLines.{event_by, event_of}
use Rattle.theory_text.proofs.Options.{some, none_some, came, onto_is, given_is}
use Rattle.theory_play_text.specs.Lines.{Said}
use Rattle.theory_play_text.specs.Lines as line
use Rattle.theory_play_text.specs.Printable.{IsSaid}

-- the same test leads to the same on both sides
by_both : {A : Type 0} (t : Bool) (x y u v : A) (z : A) → (x ≡ z → u ≡ z) → (y ≡ z → v ≡ z) → (if t then x else y) ≡ z
    → (if t then u else v) ≡ z
by_both true x y u v z f g h = f h
by_both false x y u v z f g h = g h

module _ (parties names : List (List ℕ)) (more : (w : List ℕ) → is_among w parties ≡ true → is_among w names ≡ true) where
  one_more : (w a : List ℕ) → one_of parties w ≡ some a → one_of names w ≡ some a
  one_more w a h = let g = given_is (is_among w parties) w a h in rw (more w g.holds) (ap some g.same)

  commit_more : (words : List (List ℕ)) (e : Event) → commit parties words ≡ some e → commit names words ≡ some e
  commit_more [] e h = absurd (none_some e h)
  commit_more (k ∷ []) e h = absurd (none_some e h)
  commit_more (k ∷ a ∷ ds) e h =
      let c = came (small k) (λ n. one_of parties a >>= λ p. all_of (named digest) ds >>= λ l. some (events.Commit n p l)) e h in
      let d = came (one_of parties a) (λ p. all_of (named digest) ds >>= λ l. some (events.Commit c.first p l)) e c.then' in
      ap (λ o. small k >>= λ n. o >>= λ p. all_of (named digest) ds >>= λ l. some (events.Commit n p l))
      (one_more a d.first d.is ∙ sym d.is) ∙ h

  two_more : (make : ℕ → List ℕ → Event) (words : List (List ℕ)) (e : Event) → contract_and_party make parties words ≡ some e
      → contract_and_party make names words ≡ some e
  two_more make [] e h = absurd (none_some e h)
  two_more make (k ∷ []) e h = absurd (none_some e h)
  two_more make (k ∷ a ∷ []) e h =
      let c = came (small k) (λ n. one_of parties a >>= λ p. some (make n p)) e h in
      let d = came (one_of parties a) (λ p. some (make c.first p)) e c.then' in
      ap (λ o. small k >>= λ n. o >>= λ p. some (make n p)) (one_more a d.first d.is ∙ sym d.is) ∙ h
  two_more make (k ∷ a ∷ b ∷ ws) e h = absurd (none_some e h)

  authorise_more : (words : List (List ℕ)) (e : Event) → authorise parties words ≡ some e → authorise names words ≡ some e
  authorise_more [] e h = absurd (none_some e h)
  authorise_more (a ∷ []) e h = absurd (none_some e h)
  authorise_more (a ∷ n ∷ []) e h = absurd (none_some e h)
  authorise_more (a ∷ n ∷ i ∷ []) e h =
      let c = came (one_of parties a) (λ p. output n >>= λ o. small i >>= λ b. some (events.Authorise p o b)) e h in
      ap (λ o. o >>= λ p. output n >>= λ m. small i >>= λ b. some (events.Authorise p m b)) (one_more a c.first c.is ∙ sym c.is) ∙ h
  authorise_more (a ∷ n ∷ i ∷ x ∷ ws) e h = absurd (none_some e h)

  reveal_more : (words : List (List ℕ)) (e : Event) → reveal parties words ≡ some e → reveal names words ≡ some e
  reveal_more [] e h = absurd (none_some e h)
  reveal_more (k ∷ []) e h = absurd (none_some e h)
  reveal_more (k ∷ a ∷ []) e h = absurd (none_some e h)
  reveal_more (k ∷ a ∷ x ∷ []) e h =
      let c = came (small k) (λ n. one_of parties a >>= λ p. a_name x >>= λ y. some (events.Reveal n p y)) e h in
      let d = came (one_of parties a) (λ p. a_name x >>= λ y. some (events.Reveal c.first p y)) e c.then' in
      ap (λ o. small k >>= λ n. o >>= λ p. a_name x >>= λ y. some (events.Reveal n p y)) (one_more a d.first d.is ∙ sym d.is) ∙ h
  reveal_more (k ∷ a ∷ x ∷ y ∷ ws) e h = absurd (none_some e h)

  sign_more : (words : List (List ℕ)) (e : Event) → sign parties words ≡ some e → sign names words ≡ some e
  sign_more [] e h = absurd (none_some e h)
  sign_more (a ∷ []) e h = absurd (none_some e h)
  sign_more (a ∷ l ∷ []) e h = absurd (none_some e h)
  sign_more (a ∷ l ∷ w ∷ []) e h =
      let c = came (one_of parties a) (λ p. label l >>= λ m. digest w >>= λ d. some (events.Sign p m d)) e h in
      ap (λ o. o >>= λ p. label l >>= λ m. digest w >>= λ d. some (events.Sign p m d)) (one_more a c.first c.is ∙ sym c.is) ∙ h
  sign_more (a ∷ l ∷ w ∷ v ∷ ws) e h = absurd (none_some e h)

  abbrev Share : Type 0
  Share = List ℕ × ℕ

  share_more : (a v : List ℕ) (o : Share) → (one_of parties a >>= λ p. amount v >>= λ n. some (p, n)) ≡ some o
      → (one_of names a >>= λ p. amount v >>= λ n. some (p, n)) ≡ some o
  share_more a v o h =
      let c = came (one_of parties a) (λ p. amount v >>= λ n. some (p, n)) o h in
      ap (λ x. x >>= λ p. amount v >>= λ n. some (p, n)) (one_more a c.first c.is ∙ sym c.is) ∙ h

  shares_more : (words : List (List ℕ)) (os : List Share) → shares parties words ≡ some os → shares names words ≡ some os
  shares_more [] os h = h
  shares_more (a ∷ []) os h = absurd (none_some os h)
  shares_more (a ∷ v ∷ ws) os h =
      let o = onto_is (one_of parties a >>= λ p. amount v >>= λ n. some (p, n)) (shares parties ws) os h in
      let first = share_more a v o.first o.is in
      let others = shares_more ws o.others o.are in
      (λ i. onto (first i) (others i)) ∙ ap some (sym o.all)

  give_more : (words : List (List ℕ)) (e : Event) → give parties words ≡ some e → give names words ≡ some e
  give_more [] e h = absurd (none_some e h)
  give_more (a ∷ ws) e h =
      let c = came (one_of parties a) (λ p. at_arrow ws >>= λ q. all_of output (q.0) >>= λ is. shares parties (q.1) >>= λ os.
      given (is_some_list is && is_some_list os) (events.Give p is os)) e h in
      let d = came (at_arrow ws) (λ q. all_of output (q.0) >>= λ is. shares parties (q.1) >>= λ os.
      given (is_some_list is && is_some_list os) (events.Give c.first is os)) e c.then' in
      let f = came (all_of output (d.first.0)) (λ is. shares parties (d.first.1) >>= λ os.
      given (is_some_list is && is_some_list os) (events.Give c.first is os)) e d.then' in
      let g = came (shares parties (d.first.1))
      (λ os. given (is_some_list f.first && is_some_list os) (events.Give c.first f.first os)) e f.then' in
      ap (λ x. x >>= λ p. at_arrow ws >>= λ q. all_of output (q.0) >>= λ is. shares names (q.1) >>= λ os.
      given (is_some_list is && is_some_list os) (events.Give p is os)) (one_more a c.first c.is)
      ∙ (ap (λ x. x >>= λ q. all_of output (q.0) >>= λ is. shares names (q.1) >>= λ os.
      given (is_some_list is && is_some_list os) (events.Give c.first is os)) d.is
      ∙ (ap (λ x. x >>= λ is. shares names (d.first.1) >>= λ os. given (is_some_list is && is_some_list os)
      (events.Give c.first is os)) f.is
      ∙ (ap (λ x. x >>= λ os. given (is_some_list f.first && is_some_list os) (events.Give c.first f.first os))
      (shares_more (d.first.1) g.first g.is) ∙ g.then')))

  by_word : (word : List ℕ) (words : List (List ℕ)) (e : Event) → event_by word parties words ≡ some e → event_by word names words ≡ some e
  by_word word words e =
      by_both (bytes_eq word (codes "advertise")) _ _ _ _ (some e) (λ h. h)
      (by_both (bytes_eq word (codes "commit")) _ _ _ _ (some e) (commit_more words e)
      (by_both (bytes_eq word (codes "endorse")) _ _ _ _ (some e) (two_more events.Endorse words e)
      (by_both (bytes_eq word (codes "init")) _ _ _ _ (some e) (two_more events.Init words e)
      (by_both (bytes_eq word (codes "authorise")) _ _ _ _ (some e) (authorise_more words e)
      (by_both (bytes_eq word (codes "reveal")) _ _ _ _ (some e) (reveal_more words e)
      (by_both (bytes_eq word (codes "post")) _ _ _ _ (some e) (λ h. h)
      (by_both (bytes_eq word (codes "sign")) _ _ _ _ (some e) (sign_more words e)
      (by_both (bytes_eq word (codes "give")) _ _ _ _ (some e) (give_more words e)
      (λ h. h)))))))))

  event_more : (words : List (List ℕ)) (e : Event) → event_of parties words ≡ some e → event_of names words ≡ some e
  event_more [] e h = absurd (none_some e h)
  event_more (word ∷ words) e h = by_word word words e h

  said_more : (l : Said) → IsSaid parties l → IsSaid names l
  said_more (line.start n a v) h = h
  said_more (line.event i e) h =
      (h.0, record { read = event_more (words_of (event_text e)) e (h.1).read; one_line = (h.1).one_line })
  said_more (line.outcome o) h = h
  said_more (line.step s made) h = h
  said_more line.ending h = h
  said_more (line.tip n) h = h
  said_more (line.live o) h = h
  said_more (line.time n) h = h
  said_more (line.deposit d) h = h
  said_more (line.contract a) h = h
  said_more (line.secret x) h = h
  said_more (line.offer e) h = h
  said_more (line.guessed a x) h = h
  said_more (line.collided x y) h = h

  -- lines that may be said may be said for more parties
  pub all_more : (ls : List Said) → AllByRecursion (IsSaid parties) ls → AllByRecursion (IsSaid names) ls
  all_more [] h = tt
  all_more (l ∷ ls) h = (said_more l h.0, all_more ls h.1)
