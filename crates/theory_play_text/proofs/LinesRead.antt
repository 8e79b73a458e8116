-- Each line of a played run's text is read as what it says.
use Rattle.std.proofs.Common.{◌≡◌, ℕ, Bool, true, false, List, [], ◌∷◌, ◌++◌, map, Option, Some, None, refl, sym, ap, subst, ◌∙◌}
use Rattle.std.specs.Prelude.{codes}
use Rattle.std.specs.Fmt.{decimal}
use Rattle.std.specs.List.{AllByRecursion}
use Rattle.spec_bitcoin.specs.Keys.{path_text}
use Rattle.spec_data.specs.Digits.{hex_text}
use Rattle.spec_calculus.specs.declared.parts.Deposit.{Deposit}
use Rattle.spec_calculus.specs.declared.parts.ActiveContract.{ActiveContract}
use Rattle.spec_calculus.specs.declared.step.Step.{Step}
use Rattle.spec_run.specs.declared.event.Event.{Event}
use Rattle.spec_run.specs.declared.event.Event.TheVariants as events
use Rattle.spec_run.specs.declared.outcome.Outcome.{Outcome}
use Rattle.spec_run.specs.declared.outcome.Outcome.TheVariants.{Done, Accepted, Refused}
use Rattle.spec_text.specs.Canonical.{joined}
use Rattle.spec_text.specs.Lines.{parts_of, words_of, lines_of}
use Rattle.spec_text.specs.Words.{◌>>=◌, a_name, path, all_of}
use Rattle.spec_text.specs.EventLines.{event_of}
use Rattle.spec_text.specs.RunText.{output_text, event_text}
use Rattle.spec_text.specs.OutcomeText.{reason_text}
use Rattle.spec_text.specs.StepText.{owner_text, length_text, step_words}
use Rattle.spec_text.specs.PlayText.{shown_word}
use Rattle.theory_text.proofs.Options.{some}
use Rattle.theory_text.proofs.Lines.LineBytes.{ends_line, lined, lines_again}
use Rattle.theory_text.proofs.Lines.PathsBack.{path_back}
use Rattle.theory_text.proofs.Lines.Separated.{Lacks, lacks_append, part_more, parts_joined}
use Rattle.theory_play_text.specs.Lines.{Said, ShownSecret, Words, number, an_output, an_owner, a_length, is_shown, said, said_by}
use Rattle.theory_play_text.specs.Lines.{accepted_of, reason_of, step_of, Stepped, offered, by_digits}
use Rattle.theory_play_text.specs.Lines as line
use Rattle.theory_play_text.specs.Printable.{IsWide, IsNamed, IsOwner, IsSpelledEvent, IsOutcome, IsOffered, IsSecret, IsSaid, IsShownStep}
use Rattle.theory_play_text.specs.Printable.{made_beside}
use Rattle.theory_play_text.proofs.LineWords.{is_blank, IsPlain, ArePlain, known_word, lacks_where, line_of, cut_line, line_ends}
use Rattle.theory_play_text.proofs.Paths.{path_plain}
use Rattle.theory_play_text.proofs.Reasons.{IsRead, reason_read, accepted_read, accepted_is}
use Rattle.theory_play_text.proofs.StepsRead.{step_read}
use Rattle.theory_play_text.proofs.Texts.{said_line}
use Rattle.theory_play_text.proofs.WordsBack.{number_back, number_plain, output_back, output_plain, owner_back, owner_plain}
use Rattle.theory_play_text.proofs.WordsBack.{length_back, length_plain, name_back, name_plain, bytes_back, bytes_plain}

abbrev says : Said → Option Said
says l = Some l

module _ (parties : List (List ℕ)) where
  -- a line that is one line, and is read as what it says
  record ReadsBack (l : Said) : Type 0 where
    one : Lacks ends_line (said_line l)
    back : said_by parties (said_line l) ≡ says l

  -- by its words
  by_words : (l : Said) (word : List ℕ) (words : Words) → said_line l ≡ line_of (word ∷ words) → ArePlain (word ∷ words)
      → said parties (word ∷ words) ≡ says l → ReadsBack l
  by_words l word words are plain back = record {
    one = subst (Lacks ends_line) (sym are) (line_ends (word ∷ words) plain);
    back = ap (said_by parties) are ∙ (ap (said parties) (cut_line word words plain) ∙ back);
  }

  -- by its first word and what is read behind it
  by_read : {A : Type 0} (read : Words → Option A) (text : List ℕ) (x : A) (make : A → Said) (first : List ℕ) → IsRead read text x
      → said_line (make x) ≡ first ++ (32 ∷ text) → IsPlain first
      → ((w : List ℕ) (ws : Words) → said parties (first ∷ w ∷ ws) ≡ (read (w ∷ ws) >>= λ y. says (make y))) → ReadsBack (make x)
  by_read read text x make first r is plain by =
      by_words (make x) first (r.word ∷ r.words) (is ∙ ap (λ (t : List ℕ). first ++ (32 ∷ t)) r.are) (plain, r.plain)
      (by r.word r.words ∙ ap (λ o. o >>= λ y. says (make y)) r.back)

  -- ---- events

  event_back : (i : ℕ) (e : Event) → IsWide i → IsSpelledEvent parties e → ReadsBack (line.event i e)
  event_back i e h s =
      let words = parts_of is_blank (event_text e) in
      let n = number_plain i h in
      let cut : parts_of is_blank (decimal i ++ (32 ∷ event_text e)) ≡ decimal i ∷ words =
      part_more is_blank (decimal i) 32 (event_text e) n.spaces refl in
      let prefix : (rest : List ℕ) → Lacks ends_line rest → Lacks ends_line (codes "event " ++ rest) =
      λ rest k. (refl, (refl, (refl, (refl, (refl, (refl, k)))))) in
      record {
        one = prefix (decimal i ++ (32 ∷ event_text e))
            (lacks_append ends_line (decimal i) (32 ∷ event_text e) n.ends (refl, lacks_where ends_line (event_text e) s.one_line));
        back = ap (λ (ws : Words). said parties (codes "event" ∷ ws)) cut
            ∙ (ap (λ o. o >>= λ j. event_of parties (words_of (joined (codes " ") words)) >>= λ d. says (line.event j d)) (number_back i h)
            ∙ (ap (λ (t : List ℕ). event_of parties (words_of t) >>= λ d. says (line.event i d)) (parts_joined 32 (event_text e))
            ∙ ap (λ o. o >>= λ d. says (line.event i d)) s.read));
      }

  -- ---- outcomes and steps

  outcome_back : (o : Outcome) → IsOutcome o → ReadsBack (line.outcome o)
  outcome_back Done h = by_words _ (codes "done") [] refl (known_word (codes "done") refl, tt) refl
  outcome_back (Accepted spent made lock) h =
      by_read accepted_of _ (Accepted spent made lock) (λ o. line.outcome o) (codes "accepted") (accepted_read spent made lock h.0 h.1 h.2)
      (accepted_is spent made lock) (known_word (codes "accepted") refl) (λ w ws. refl)
  outcome_back (Refused r) h =
      by_read reason_of (reason_text r) r (λ q. line.outcome (Refused q)) (codes "refused") (reason_read r h) refl
      (known_word (codes "refused") refl) (λ w ws. refl)

  step_back : (s : Step) (made : List ℕ) → IsShownStep s → made_beside made s ≡ made → AllByRecursion IsWide made
      → ReadsBack (line.step s made)
  step_back s made h same all =
      by_read step_of (step_words made s) (s, made) (λ (p : Stepped). line.step (p.0) (p.1)) (codes "step")
      (step_read s made h same all) refl
      (known_word (codes "step") refl) (λ w ws. refl)

  -- ---- the end

  one_back : (make : ℕ → Said) (word : List ℕ) (n : ℕ) → said_line (make n) ≡ word ++ (32 ∷ decimal n) → IsPlain word
      → said parties (word ∷ decimal n ∷ []) ≡ (number (decimal n) >>= λ m. says (make m)) → IsWide n → ReadsBack (make n)
  one_back make word n are plain by h =
      by_words (make n) word (decimal n ∷ []) are (plain, (number_plain n h, tt))
      (by ∙ ap (λ o. o >>= λ m. says (make m)) (number_back n h))

  start_back : (n : ℕ) (a : List ℕ) (v : ℕ) → IsWide n → IsNamed a → IsWide v → ReadsBack (line.start n a v)
  start_back n a v h i j =
      by_words _ (codes "start") (output_text n ∷ a ∷ decimal v ∷ []) refl
      (known_word (codes "start") refl, (output_plain n h, (name_plain a i, (number_plain v j, tt))))
      (ap (λ o. o >>= λ m. a_name a >>= λ b. number (decimal v) >>= λ w. says (line.start m b w)) (output_back n h)
      ∙ (ap (λ o. o >>= λ b. number (decimal v) >>= λ w. says (line.start n b w)) (name_back a i)
      ∙ ap (λ o. o >>= λ w. says (line.start n a w)) (number_back v j)))

  live_back : (o : ℕ × ℕ) → IsWide (o.0) → IsWide (o.1) → ReadsBack (line.live o)
  live_back o h i =
      by_words _ (codes "live") (output_text o.0 ∷ decimal o.1 ∷ []) refl
      (known_word (codes "live") refl, (output_plain (o.0) h, (number_plain (o.1) i, tt)))
      (ap (λ p. p >>= λ n. number (decimal o.1) >>= λ v. says (line.live (n, v))) (output_back (o.0) h)
      ∙ ap (λ p. p >>= λ v. says (line.live (o.0, v))) (number_back (o.1) i))

  deposit_back : (d : Deposit) → IsWide d.number → IsOwner d.owner → IsWide d.value → ReadsBack (line.deposit d)
  deposit_back d h i j =
      by_words _ (codes "deposit") (output_text d.number ∷ owner_text d.owner ∷ decimal d.value ∷ []) refl
      (known_word (codes "deposit") refl, (output_plain d.number h, (owner_plain d.owner i, (number_plain d.value j, tt))))
      (ap (λ p. p >>= λ n. an_owner (owner_text d.owner) >>= λ o. number (decimal d.value) >>= λ v.
      says (line.deposit (record { number = n; owner = o; value = v }))) (output_back d.number h)
      ∙ (ap (λ p. p >>= λ o. number (decimal d.value) >>= λ v.
      says (line.deposit (record { number = d.number; owner = o; value = v }))) (owner_back d.owner i)
      ∙ ap (λ p. p >>= λ v. says (line.deposit (record { number = d.number; owner = d.owner; value = v }))) (number_back d.value j)))

  contract_back : (a : ActiveContract) → IsSaid parties (line.contract a) → ReadsBack (line.contract a)
  contract_back a h =
      by_words _ (codes "contract") (output_text a.number ∷ decimal a.contract ∷ path_text a.position ∷ decimal a.balance ∷ []) refl (
        known_word (codes "contract") refl,
        (output_plain a.number h.0, (number_plain a.contract h.1, (path_plain a.position h.2, (number_plain a.balance h.3, tt)))),
      )
      (ap (λ p. p >>= λ n. number (decimal a.contract) >>= λ k. path (path_text a.position) >>= λ q. number (decimal a.balance) >>= λ v.
      says (line.contract (record { number = n; contract = k; position = q; balance = v }))) (output_back a.number h.0)
      ∙ (ap (λ p. p >>= λ k. path (path_text a.position) >>= λ q. number (decimal a.balance) >>= λ v.
      says (line.contract (record { number = a.number; contract = k; position = q; balance = v }))) (number_back a.contract h.1)
      ∙ (ap (λ p. p >>= λ q. number (decimal a.balance) >>= λ v.
      says (line.contract (record { number = a.number; contract = a.contract; position = q; balance = v }))) (path_back a.position h.2)
      ∙ ap (λ p. p >>= λ v.
      says (line.contract (record { number = a.number; contract = a.contract; position = a.position; balance = v })))
      (number_back a.balance h.3))))

  abbrev some_truth : Bool → Option Bool
  some_truth b = Some b

  shown_back : (b : Bool) → is_shown (shown_word b) ≡ some_truth b
  shown_back true = refl
  shown_back false = refl

  shown_plain : (b : Bool) → IsPlain (shown_word b)
  shown_plain true = known_word (codes "revealed") refl
  shown_plain false = known_word (codes "hidden") refl

  a_secret : ℕ → List ℕ → List ℕ → Option ℕ → Bool → Option Said
  a_secret k a x n b = None

  secret_back : (x : ShownSecret) → IsSecret x → ReadsBack (line.secret x)
  secret_back x h =
      let shows : ℕ → List ℕ → List ℕ → Option ℕ → Bool → Option Said =
      λ k a y n b. says (line.secret (record { contract = k; party = a; name = y; length = n; revealed = b })) in
      by_words _ (codes "secret") (decimal x.contract ∷ x.party ∷ x.name ∷ length_text x.length ∷ shown_word x.revealed ∷ []) refl (
        known_word (codes "secret") refl,
        (
          number_plain x.contract h.0,
          (
            name_plain x.party h.1,
            (name_plain x.name h.2, (length_plain x.length h.3, (shown_plain x.revealed, tt))),
          ),
        ),
      )
      (ap (λ p. p >>= λ k. a_name x.party >>= λ a. a_name x.name >>= λ y. a_length (length_text x.length) >>= λ n.
      is_shown (shown_word x.revealed) >>= λ b. shows k a y n b) (number_back x.contract h.0)
      ∙ (ap (λ p. p >>= λ a. a_name x.name >>= λ y. a_length (length_text x.length) >>= λ n.
      is_shown (shown_word x.revealed) >>= λ b. shows x.contract a y n b) (name_back x.party h.1)
      ∙ (ap (λ p. p >>= λ y. a_length (length_text x.length) >>= λ n.
      is_shown (shown_word x.revealed) >>= λ b. shows x.contract x.party y n b) (name_back x.name h.2)
      ∙ (ap (λ p. p >>= λ n. is_shown (shown_word x.revealed) >>= λ b. shows x.contract x.party x.name n b) (length_back x.length h.3)
      ∙ ap (λ p. p >>= λ b. shows x.contract x.party x.name x.length b) (shown_back x.revealed)))))

  offer_back : (e : Event) → IsOffered e → ReadsBack (line.offer e)
  offer_back (events.Advertise k bs) h = absurd h
  offer_back (events.Commit k a ds) h = absurd h
  offer_back (events.Endorse k a) h = absurd h
  offer_back (events.Init k a) h = absurd h
  offer_back (events.Authorise a n i) h = absurd h
  offer_back (events.Reveal k a s) h = absurd h
  offer_back (events.Post bytes) h = absurd h
  offer_back (events.Sign b l d) h = absurd h
  offer_back (events.Give a inputs outputs) h = absurd h
  offer_back (events.Append bytes) h = absurd h
  offer_back (events.FireInit k) h =
      by_words _ (codes "offer") (codes "fire" ∷ codes "init" ∷ decimal k ∷ []) refl
      (known_word (codes "offer") refl, (known_word (codes "fire") refl, (known_word (codes "init") refl, (number_plain k h, tt))))
      (ap (λ p. (p >>= λ n. some (events.FireInit n)) >>= λ e. says (line.offer e)) (number_back k h))
  offer_back (events.Fire n i) h =
      by_words _ (codes "offer") (codes "fire" ∷ output_text n ∷ decimal i ∷ []) refl
      (known_word (codes "offer") refl, (known_word (codes "fire") refl, (output_plain n h.0, (number_plain i h.1, tt))))
      (ap (λ p. (p >>= λ m. number (decimal i) >>= λ j. some (events.Fire m j)) >>= λ e. says (line.offer e)) (output_back n h.0)
      ∙ ap (λ p. (p >>= λ j. some (events.Fire n j)) >>= λ e. says (line.offer e)) (number_back i h.1))
  offer_back (events.Mine n) h = absurd h

  guessed_back : (a x : List ℕ) → IsNamed a → IsNamed x → ReadsBack (line.guessed a x)
  guessed_back a x h i =
      by_words _ (codes "guessed") (a ∷ x ∷ []) refl (known_word (codes "guessed") refl, (name_plain a h, (name_plain x i, tt)))
      (ap (λ p. p >>= λ b. a_name x >>= λ y. says (line.guessed b y)) (name_back a h)
      ∙ ap (λ p. p >>= λ y. says (line.guessed a y)) (name_back x i))

  collided_back : (x y : List ℕ) → ReadsBack (line.collided x y)
  collided_back x y =
      by_words _ (codes "collided") (hex_text x ∷ hex_text y ∷ []) refl
      (known_word (codes "collided") refl, (bytes_plain x, (bytes_plain y, tt)))
      (ap (λ p. p >>= λ a. by_digits (hex_text y) >>= λ b. says (line.collided a b)) (bytes_back x)
      ∙ ap (λ p. p >>= λ b. says (line.collided x b)) (bytes_back y))

  line_back : (l : Said) → IsSaid parties l → ReadsBack l
  line_back (line.start n a v) h = start_back n a v h.0 h.1 h.2
  line_back (line.event i e) h = event_back i e h.0 h.1
  line_back (line.outcome o) h = outcome_back o h
  line_back (line.step s made) h = step_back s made h.0 h.1 h.2
  line_back line.ending h = by_words _ (codes "end") [] refl (known_word (codes "end") refl, tt) refl
  line_back (line.tip n) h = one_back (λ m. line.tip m) (codes "tip") n refl (known_word (codes "tip") refl) refl h
  line_back (line.live o) h = live_back o h.0 h.1
  line_back (line.time n) h = one_back (λ m. line.time m) (codes "time") n refl (known_word (codes "time") refl) refl h
  line_back (line.deposit d) h = deposit_back d h.0 h.1 h.2
  line_back (line.contract a) h = contract_back a h
  line_back (line.secret x) h = secret_back x h
  line_back (line.offer e) h = offer_back e h
  line_back (line.guessed a x) h = guessed_back a x h.0 h.1
  line_back (line.collided x y) h = collided_back x y

  -- ---- all lines

  abbrev AreSaid : List Said → Type 0
  AreSaid ls = AllByRecursion (IsSaid parties) ls

  lines_end : (ls : List Said) → AreSaid ls → AllByRecursion (Lacks ends_line) (map said_line ls)
  lines_end [] h = tt
  lines_end (l ∷ ls) h = ((line_back l h.0).one, lines_end ls h.1)

  lines_back : (ls : List Said) → AreSaid ls → all_of (said_by parties) (map said_line ls) ≡ some ls
  lines_back [] h = refl
  lines_back (l ∷ ls) h = rw ((line_back l h.0).back, lines_back ls h.1) refl

  -- the lines of their text are read as what they say
  pub text_back : (ls : List Said) → AreSaid ls → all_of (said_by parties) (lines_of (lined (map said_line ls))) ≡ some ls
  text_back ls h = ap (all_of (said_by parties)) (lines_again (map said_line ls) (lines_end ls h)) ∙ lines_back ls h
