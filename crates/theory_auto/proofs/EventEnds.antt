-- No canonical line of an event that some line spells has a byte that ends a line.
use Rattle.std.proofs.Common.{◌≡◌, ℕ, ◌^◌, Bool, true, false, List, [], ◌∷◌, ◌++◌, Option, refl, sym, subst, arith}
use Rattle.std.specs.Prelude.{◌&&◌, ◌||◌, ◌==◌, not, if◌then◌else◌, nat_le, flat_map, codes}
use Rattle.std.specs.Fmt.{decimal}
use Rattle.std.specs.List.{list_all, AllByRecursion}
use Rattle.std.specs.Str.{bytes_eq}
use Rattle.spec_data.specs.Lists.{is_among}
use Rattle.spec_data.specs.Digits.{hex_text, read_hex}
use Rattle.spec_terms.specs.Readable.{is_name}
use Rattle.spec_terms.specs.declared.path.PathStep.{PathStep}
use Rattle.spec_terms.specs.declared.path.PathStep.TheVariants.{Branch as To, Part as Into}
use Rattle.spec_bitcoin.specs.declared.label.Label.{Label}
use Rattle.spec_bitcoin.specs.declared.label.Label.TheVariants.{Deposit, Branch}
use Rattle.spec_bitcoin.specs.Keys.{IsStep, IsLabel, step_text, path_text, label_text}
use Rattle.spec_run.specs.declared.event.Event.{Event}
use Rattle.spec_run.specs.declared.event.Event.TheVariants as events
use Rattle.spec_text.specs.Lines.{parts_of}
use Rattle.spec_text.specs.Words.{◌>>=◌, given, small, amount, output, a_name, one_of}
use Rattle.spec_text.specs.Words.{digest, two_parts, named, all_of, path, label_of, label}
use Rattle.spec_text.specs.EventLines.{advertise, commit, contract_and_party, authorise, reveal, bytes_event, sign, at_arrow, shares}
use Rattle.spec_text.specs.EventLines.{is_some_list, give, fire, mine, event_by, event_of}
use Rattle.spec_text.specs.RunText.{output_text, outputs_text, bindings_text, digests_text, shares_text, contract_party_text, event_text}
use Rattle.theory_text.proofs.ListFacts.{and_left, and_right, by_test}
use Rattle.theory_text.proofs.Options.{some, some_is, none_some, came, onto_is, given_is}
use Rattle.theory_text.proofs.Lines.Decimals.{guarded, number_less}
use Rattle.theory_text.proofs.Lines.Digests.{digest_back}
use Rattle.theory_text.proofs.Lines.Hex.{read_hex_is}
use Rattle.theory_text.proofs.Lines.HexBack.{read_hex_back}
use Rattle.theory_text.proofs.Lines.Labels.{label_is}
use Rattle.theory_text.proofs.Lines.LineBytes.{ends_line, name_line, decimal_line, hex_line}
use Rattle.theory_text.proofs.Lines.PrintedWords.{same_bytes}
use Rattle.theory_text.proofs.Lines.Separated.{Lacks, lacks_append}
use Rattle.theory_generator.proofs.NumberWords.{lacks_by}

abbrev pub EndsNowhere : List ℕ → Type 0
EndsNowhere bytes = Lacks ends_line bytes

join : (xs ys : List ℕ) → EndsNowhere xs → EndsNowhere ys → EndsNowhere (xs ++ ys)
join xs ys h k = lacks_append ends_line xs ys h k

-- behind bytes that are known
behind : (prefix rest : List ℕ) → list_all (λ b. not (ends_line b)) prefix ≡ true → EndsNowhere rest → EndsNowhere (prefix ++ rest)
behind prefix rest h k = join prefix rest (lacks_by ends_line prefix h) k

-- ---- words

small_ends : (word : List ℕ) (n : ℕ) → small word ≡ some n → EndsNowhere (decimal n)
small_ends word n h = let less = number_less (2 ^ 32) word n h in (decimal_line n (omega (arith, less))).ends

amount_ends : (word : List ℕ) (n : ℕ) → amount word ≡ some n → EndsNowhere (decimal n)
amount_ends word n h = (decimal_line n (number_less (2 ^ 64) word n h)).ends

output_ends : (word : List ℕ) (n : ℕ) → output word ≡ some n → EndsNowhere (output_text n)
output_ends [] n h = absurd (none_some n h)
output_ends (b ∷ bytes) n h = (refl, small_ends bytes n (guarded (b == 35) (small bytes) n h).then')

pub among_named : (a : List ℕ) (names : List (List ℕ)) → list_all is_name names ≡ true → is_among a names ≡ true → is_name a ≡ true
among_named a [] h k = cc
among_named a (x ∷ xs) h k =
    by_test (bytes_eq x a) true (is_among a xs) true (is_name a ≡ true) (either (bytes_eq x a) (is_among a xs) k)
    (λ e f. subst (λ (y : List ℕ). is_name y ≡ true) (same_bytes x a e) (and_left _ _ h))
    (λ f. among_named a xs (and_right (is_name x) _ h) f)
  where
    either : (s t : Bool) → (s || t) ≡ true → (if s then true else t) ≡ true
    either true t e = refl
    either false t e = e

one_ends : (names : List (List ℕ)) → list_all is_name names ≡ true → (word a : List ℕ) → one_of names word ≡ some a → EndsNowhere a
one_ends names are word a h =
    let g = given_is (is_among word names) word a h in
    subst EndsNowhere g.same (name_line word (among_named word names are g.holds)).ends

name_ends : (word x : List ℕ) → a_name word ≡ some x → EndsNowhere x
name_ends word x h = let g = given_is (is_name word) word x h in subst EndsNowhere g.same (name_line word g.holds).ends

hex_ends : (word bytes : List ℕ) → read_hex word ≡ some bytes → EndsNowhere (hex_text bytes)
hex_ends word bytes h = (hex_line bytes (read_hex_is word bytes h).bytes (read_hex_back word bytes h).read).ends

digest_ends : (word bytes : List ℕ) → digest word ≡ some bytes → EndsNowhere (hex_text bytes)
digest_ends word bytes h = hex_ends word bytes (digest_back word bytes h).hex

-- ---- words with a name, and many words

module _ {A : Type 0} (read : List ℕ → Option A) (text : A → List ℕ) (f : (word : List ℕ) (x : A) → read word ≡ some x
    → EndsNowhere (text x)) where
  abbrev named_text : List ℕ × A → List ℕ
  named_text p = codes " " ++ (p.0 ++ (codes "=" ++ text p.1))

  named_ends : (word : List ℕ) (p : List ℕ × A) → named read word ≡ some p → EndsNowhere (named_text p)
  named_ends word p h =
      let c = came (two_parts (parts_of (λ b. b == 61) word)) (λ q. a_name (q.0) >>= λ x. read (q.1) >>= λ v. some (x, v)) p h in
      let d = came (a_name (c.first.0)) (λ x. read (c.first.1) >>= λ v. some (x, v)) p c.then' in
      let e = came (read (c.first.1)) (λ v. some (d.first, v)) p d.then' in
      let one : EndsNowhere (named_text (d.first, e.first)) =
      (refl, join d.first (codes "=" ++ text e.first) (name_ends c.first.0 d.first d.is) (refl, f c.first.1 e.first e.is)) in
      subst (λ (q : List ℕ × A). EndsNowhere (named_text q)) (some_is (d.first, e.first) p e.then') one

  all_ends : (words : List (List ℕ)) (xs : List A) → all_of read words ≡ some xs → EndsNowhere (flat_map text xs)
  all_ends [] xs h = subst (λ (ys : List A). EndsNowhere (flat_map text ys)) (some_is [] xs h) tt
  all_ends (word ∷ words) xs h =
      let o = onto_is (read word) (all_of read words) xs h in
      subst (λ (ys : List A). EndsNowhere (flat_map text ys)) (sym o.all)
      (join (text o.first) (flat_map text o.others) (f word o.first o.is) (all_ends words o.others o.are))

bindings_end : (words : List (List ℕ)) (bs : List (List ℕ × ℕ)) → all_of (named output) words ≡ some bs → EndsNowhere (bindings_text bs)
bindings_end words bs h = all_ends (named output) (λ b. codes " " ++ (b.0 ++ (codes "=" ++ output_text b.1)))
    (named_ends output output_text output_ends) words bs h

digests_end : (words : List (List ℕ)) (ds : List (List ℕ × List ℕ)) → all_of (named digest) words ≡ some ds → EndsNowhere (digests_text ds)
digests_end words ds h = all_ends (named digest) (λ d. codes " " ++ (d.0 ++ (codes "=" ++ hex_text d.1)))
    (named_ends digest hex_text digest_ends) words ds h

outputs_end : (words : List (List ℕ)) (ns : List ℕ) → all_of output words ≡ some ns → EndsNowhere (outputs_text ns)
outputs_end words ns h = all_ends output (λ n. codes " " ++ output_text n) (λ word n e. (refl, output_ends word n e)) words ns h

-- ---- labels

step_ends : (step : PathStep) → IsStep step → EndsNowhere (step_text step)
step_ends (To i) h = (refl, (decimal_line i (omega (arith, h))).ends)
step_ends (Into k) h = (refl, (decimal_line k (omega (arith, h))).ends)

steps_end : (steps : List PathStep) → AllByRecursion IsStep steps → EndsNowhere (flat_map step_text steps)
steps_end [] h = tt
steps_end (step ∷ steps) h = join (step_text step) (flat_map step_text steps) (step_ends step h.0) (steps_end steps h.1)

label_names : (parts : List (List ℕ)) (l : Label) → label_of parts ≡ some l → IsLabel l → EndsNowhere (label_text l)
unfolding label_text
label_names [] l h is = absurd (none_some l h)
label_names (kind ∷ []) l h is = absurd (none_some l h)
label_names (kind ∷ party ∷ []) l h is =
    let c = came (given (bytes_eq kind (codes "D")) party) (λ word. a_name word >>= λ p. some (Deposit p)) l h in
    let d = came (a_name c.first) (λ p. some (Deposit p)) l c.then' in
    let one : EndsNowhere (label_text (Deposit d.first)) = (refl, (refl, name_ends c.first d.first d.is)) in
    subst (λ (x : Label). EndsNowhere (label_text x)) (some_is (Deposit d.first) l d.then') one
label_names (kind ∷ contract ∷ place ∷ []) l h is = absurd (none_some l h)
label_names (kind ∷ contract ∷ place ∷ party ∷ []) l h is =
    let c = came (given (bytes_eq kind (codes "B")) contract)
    (λ word. small word >>= λ k. path place >>= λ q. a_name party >>= λ p. some (Branch k q p)) l h in
    let d = came (small c.first) (λ k. path place >>= λ q. a_name party >>= λ p. some (Branch k q p)) l c.then' in
    let e = came (path place) (λ q. a_name party >>= λ p. some (Branch d.first q p)) l d.then' in
    let f = came (a_name party) (λ p. some (Branch d.first e.first p)) l e.then' in
    let same = some_is (Branch d.first e.first f.first) l f.then' in
    let steps = subst IsLabel (sym same) is in
    let one : EndsNowhere (label_text (Branch d.first e.first f.first)) =
    join (((codes "B:" ++ decimal d.first) ++ codes ":") ++ path_text e.first ++ codes ":") f.first
    (join (((codes "B:" ++ decimal d.first) ++ codes ":") ++ path_text e.first) (codes ":")
    (join ((codes "B:" ++ decimal d.first) ++ codes ":") (path_text e.first)
    (join (codes "B:" ++ decimal d.first) (codes ":") (refl, (refl, small_ends c.first d.first d.is)) (refl, tt))
    (refl, steps_end e.first steps.1)) (refl, tt)) (name_ends party f.first f.is) in
    subst (λ (x : Label). EndsNowhere (label_text x)) same one
label_names (kind ∷ contract ∷ place ∷ party ∷ more ∷ rest) l h is = absurd (none_some l h)

label_ends : (word : List ℕ) (l : Label) → label word ≡ some l → EndsNowhere (label_text l)
label_ends word l h = label_names (parts_of (λ b. b == 58) word) l h (label_is word l h)

-- ---- lines

module _ (parties : List (List ℕ)) (are : list_all is_name parties ≡ true) where
  abbrev Ends : Event → Type 0
  Ends e = EndsNowhere (event_text e)

  party_ends : (word a : List ℕ) → one_of parties word ≡ some a → EndsNowhere a
  party_ends word a h = one_ends parties are word a h

  two_end : (k word a : List ℕ) (n : ℕ) → small k ≡ some n → one_of parties word ≡ some a → EndsNowhere (contract_party_text n a)
  two_end k word a n x y = join (decimal n) (codes " " ++ a) (small_ends k n x) (refl, party_ends word a y)

  advertise_ends : (words : List (List ℕ)) (e : Event) → advertise parties words ≡ some e → Ends e
  advertise_ends [] e h = absurd (none_some e h)
  advertise_ends (k ∷ bs) e h =
      let c = came (small k) (λ n. all_of (named output) bs >>= λ l. some (events.Advertise n l)) e h in
      let d = came (all_of (named output) bs) (λ l. some (events.Advertise c.first l)) e c.then' in
      subst Ends (some_is (events.Advertise c.first d.first) e d.then')
      (behind (codes "advertise ") _ refl (join (decimal c.first) _ (small_ends k c.first c.is) (bindings_end bs d.first d.is)))

  commit_ends : (words : List (List ℕ)) (e : Event) → commit parties words ≡ some e → Ends e
  commit_ends [] e h = absurd (none_some e h)
  commit_ends (k ∷ []) e h = absurd (none_some e h)
  commit_ends (k ∷ a ∷ ws) e h =
      let c = came (small k) (λ n. one_of parties a >>= λ p. all_of (named digest) ws >>= λ l. some (events.Commit n p l)) e h in
      let d = came (one_of parties a) (λ p. all_of (named digest) ws >>= λ l. some (events.Commit c.first p l)) e c.then' in
      let f = came (all_of (named digest) ws) (λ l. some (events.Commit c.first d.first l)) e d.then' in
      subst Ends (some_is (events.Commit c.first d.first f.first) e f.then')
      (behind (codes "commit ") _ refl
      (join (contract_party_text c.first d.first) _ (two_end k a d.first c.first c.is d.is) (digests_end ws f.first f.is)))

  two_ends : (make : ℕ → List ℕ → Event) → ((n : ℕ) (a : List ℕ) → EndsNowhere (contract_party_text n a) → Ends (make n a))
      → (words : List (List ℕ)) (e : Event) → contract_and_party make parties words ≡ some e → Ends e
  two_ends make f [] e h = absurd (none_some e h)
  two_ends make f (k ∷ []) e h = absurd (none_some e h)
  two_ends make f (k ∷ a ∷ []) e h =
      let c = came (small k) (λ n. one_of parties a >>= λ p. some (make n p)) e h in
      let d = came (one_of parties a) (λ p. some (make c.first p)) e c.then' in
      subst Ends (some_is (make c.first d.first) e d.then') (f c.first d.first (two_end k a d.first c.first c.is d.is))
  two_ends make f (k ∷ a ∷ b ∷ ws) e h = absurd (none_some e h)

  authorise_ends : (words : List (List ℕ)) (e : Event) → authorise parties words ≡ some e → Ends e
  authorise_ends [] e h = absurd (none_some e h)
  authorise_ends (a ∷ []) e h = absurd (none_some e h)
  authorise_ends (a ∷ n ∷ []) e h = absurd (none_some e h)
  authorise_ends (a ∷ n ∷ b ∷ []) e h =
      let c = came (one_of parties a) (λ p. output n >>= λ o. small b >>= λ j. some (events.Authorise p o j)) e h in
      let d = came (output n) (λ o. small b >>= λ j. some (events.Authorise c.first o j)) e c.then' in
      let f = came (small b) (λ j. some (events.Authorise c.first d.first j)) e d.then' in
      subst Ends (some_is (events.Authorise c.first d.first f.first) e f.then')
      (behind (codes "authorise ") _ refl (join c.first _ (party_ends a c.first c.is)
      (refl, join (output_text d.first) _ (output_ends n d.first d.is) (refl, small_ends b f.first f.is))))
  authorise_ends (a ∷ n ∷ b ∷ x ∷ ws) e h = absurd (none_some e h)

  reveal_ends : (words : List (List ℕ)) (e : Event) → reveal parties words ≡ some e → Ends e
  reveal_ends [] e h = absurd (none_some e h)
  reveal_ends (k ∷ []) e h = absurd (none_some e h)
  reveal_ends (k ∷ a ∷ []) e h = absurd (none_some e h)
  reveal_ends (k ∷ a ∷ x ∷ []) e h =
      let c = came (small k) (λ n. one_of parties a >>= λ p. a_name x >>= λ y. some (events.Reveal n p y)) e h in
      let d = came (one_of parties a) (λ p. a_name x >>= λ y. some (events.Reveal c.first p y)) e c.then' in
      let f = came (a_name x) (λ y. some (events.Reveal c.first d.first y)) e d.then' in
      subst Ends (some_is (events.Reveal c.first d.first f.first) e f.then')
      (behind (codes "reveal ") _ refl
      (join (contract_party_text c.first d.first) _ (two_end k a d.first c.first c.is d.is) (refl, name_ends x f.first f.is)))
  reveal_ends (k ∷ a ∷ x ∷ y ∷ ws) e h = absurd (none_some e h)

  bytes_ends : (make : List ℕ → Event) → ((bytes : List ℕ) → EndsNowhere (hex_text bytes) → Ends (make bytes))
      → (words : List (List ℕ)) (e : Event) → bytes_event make parties words ≡ some e → Ends e
  bytes_ends make f [] e h = absurd (none_some e h)
  bytes_ends make f (w ∷ []) e h =
      let c = came (read_hex w) (λ bytes. some (make bytes)) e h in
      subst Ends (some_is (make c.first) e c.then') (f c.first (hex_ends w c.first c.is))
  bytes_ends make f (w ∷ v ∷ ws) e h = absurd (none_some e h)

  sign_ends : (words : List (List ℕ)) (e : Event) → sign parties words ≡ some e → Ends e
  sign_ends [] e h = absurd (none_some e h)
  sign_ends (a ∷ []) e h = absurd (none_some e h)
  sign_ends (a ∷ l ∷ []) e h = absurd (none_some e h)
  sign_ends (a ∷ l ∷ w ∷ []) e h =
      let c = came (one_of parties a) (λ p. label l >>= λ m. digest w >>= λ d. some (events.Sign p m d)) e h in
      let d = came (label l) (λ m. digest w >>= λ d. some (events.Sign c.first m d)) e c.then' in
      let f = came (digest w) (λ d'. some (events.Sign c.first d.first d')) e d.then' in
      subst Ends (some_is (events.Sign c.first d.first f.first) e f.then')
      (behind (codes "sign ") _ refl (join c.first _ (party_ends a c.first c.is)
      (refl, join (label_text d.first) _ (label_ends l d.first d.is) (refl, digest_ends w f.first f.is))))
  sign_ends (a ∷ l ∷ w ∷ v ∷ ws) e h = absurd (none_some e h)

  fire_ends : (words : List (List ℕ)) (e : Event) → fire parties words ≡ some e → Ends e
  fire_ends [] e h = absurd (none_some e h)
  fire_ends (w ∷ []) e h = absurd (none_some e h)
  fire_ends (w ∷ n ∷ []) e h =
      by_test (bytes_eq w (codes "init")) _ _ (some e) (Ends e) h
      (λ same h1.
      let c = came (small n) (λ k. some (events.FireInit k)) e h1 in
      subst Ends (some_is (events.FireInit c.first) e c.then') (behind (codes "fire init ") _ refl (small_ends n c.first c.is)))
      (λ h1.
      let c = came (output w) (λ o. small n >>= λ j. some (events.Fire o j)) e h1 in
      let d = came (small n) (λ j. some (events.Fire c.first j)) e c.then' in
      subst Ends (some_is (events.Fire c.first d.first) e d.then')
      (behind (codes "fire ") (output_text c.first ++ (codes " " ++ decimal d.first)) refl
      (join (output_text c.first) (codes " " ++ decimal d.first) (output_ends w c.first c.is) (refl, small_ends n d.first d.is))))
  fire_ends (w ∷ n ∷ v ∷ ws) e h = absurd (none_some e h)

  mine_ends : (words : List (List ℕ)) (e : Event) → mine parties words ≡ some e → Ends e
  mine_ends [] e h = absurd (none_some e h)
  mine_ends (w ∷ []) e h =
      let c = came (small w) (λ n. given (nat_le 1 n) (events.Mine n)) e h in
      let g = given_is (nat_le 1 c.first) (events.Mine c.first) e c.then' in
      subst Ends g.same (behind (codes "mine ") _ refl (small_ends w c.first c.is))
  mine_ends (w ∷ v ∷ ws) e h = absurd (none_some e h)

  -- ---- gifts

  abbrev Share : Type 0
  Share = List ℕ × ℕ

  share_ends : (a v : List ℕ) (o : Share) → (one_of parties a >>= λ p. amount v >>= λ n. some (p, n)) ≡ some o
      → EndsNowhere (codes " " ++ (o.0 ++ (codes " " ++ decimal o.1)))
  share_ends a v o h =
      let c = came (one_of parties a) (λ p. amount v >>= λ n. some (p, n)) o h in
      let d = came (amount v) (λ n. some (c.first, n)) o c.then' in
      let one : EndsNowhere (codes " " ++ (c.first ++ (codes " " ++ decimal d.first))) =
      (refl, join c.first _ (party_ends a c.first c.is) (refl, amount_ends v d.first d.is)) in
      subst (λ (q : Share). EndsNowhere (codes " " ++ (q.0 ++ (codes " " ++ decimal q.1)))) (some_is (c.first, d.first) o d.then') one

  shares_end : (words : List (List ℕ)) (os : List Share) → shares parties words ≡ some os → EndsNowhere (shares_text os)
  shares_end [] os h = subst (λ (xs : List Share). EndsNowhere (shares_text xs)) (some_is [] os h) tt
  shares_end (a ∷ []) os h = absurd (none_some os h)
  shares_end (a ∷ v ∷ ws) os h =
      let o = onto_is (one_of parties a >>= λ p. amount v >>= λ n. some (p, n)) (shares parties ws) os h in
      subst (λ (xs : List Share). EndsNowhere (shares_text xs)) (sym o.all)
      (join (codes " " ++ (o.first.0 ++ (codes " " ++ decimal o.first.1))) (shares_text o.others) (share_ends a v o.first o.is)
      (shares_end ws o.others o.are))

  give_ends : (words : List (List ℕ)) (e : Event) → give parties words ≡ some e → Ends e
  give_ends [] e h = absurd (none_some e h)
  give_ends (a ∷ ws) e h =
      let c = came (one_of parties a) (λ p. at_arrow ws >>= λ q. all_of output (q.0) >>= λ is. shares parties (q.1) >>= λ os.
      given (is_some_list is && is_some_list os) (events.Give p is os)) e h in
      let d = came (at_arrow ws) (λ q. all_of output (q.0) >>= λ is. shares parties (q.1) >>= λ os.
      given (is_some_list is && is_some_list os) (events.Give c.first is os)) e c.then' in
      let f = came (all_of output (d.first.0)) (λ is. shares parties (d.first.1) >>= λ os. given (is_some_list is && is_some_list os)
      (events.Give c.first is os)) e d.then' in
      let g = came (shares parties (d.first.1)) (λ os. given (is_some_list f.first && is_some_list os)
      (events.Give c.first f.first os)) e f.then' in
      let t = given_is (is_some_list f.first && is_some_list g.first) (events.Give c.first f.first g.first) e g.then' in
      subst Ends t.same
      (behind (codes "give ") _ refl (join c.first _ (party_ends a c.first c.is)
      (join (outputs_text f.first) _ (outputs_end d.first.0 f.first f.is)
      (behind (codes " ->") _ refl (shares_end d.first.1 g.first g.is)))))

  -- ---- all events

  by_word : (word : List ℕ) (words : List (List ℕ)) (e : Event) → event_by word parties words ≡ some e → Ends e
  by_word word words e h =
      by_test (bytes_eq word (codes "advertise")) _ _ (some e) (Ends e) h (λ w x. advertise_ends words e x) (λ h1.
      by_test (bytes_eq word (codes "commit")) _ _ (some e) (Ends e) h1 (λ w x. commit_ends words e x) (λ h2.
      by_test (bytes_eq word (codes "endorse")) _ _ (some e) (Ends e) h2
      (λ w x. two_ends events.Endorse (λ n a y. behind (codes "endorse ") _ refl y) words e x) (λ h3.
      by_test (bytes_eq word (codes "init")) _ _ (some e) (Ends e) h3
      (λ w x. two_ends events.Init (λ n a y. behind (codes "init ") _ refl y) words e x) (λ h4.
      by_test (bytes_eq word (codes "authorise")) _ _ (some e) (Ends e) h4 (λ w x. authorise_ends words e x) (λ h5.
      by_test (bytes_eq word (codes "reveal")) _ _ (some e) (Ends e) h5 (λ w x. reveal_ends words e x) (λ h6.
      by_test (bytes_eq word (codes "post")) _ _ (some e) (Ends e) h6
      (λ w x. bytes_ends events.Post (λ b y. behind (codes "post ") _ refl y) words e x) (λ h7.
      by_test (bytes_eq word (codes "sign")) _ _ (some e) (Ends e) h7 (λ w x. sign_ends words e x) (λ h8.
      by_test (bytes_eq word (codes "give")) _ _ (some e) (Ends e) h8 (λ w x. give_ends words e x) (λ h9.
      by_test (bytes_eq word (codes "append")) _ _ (some e) (Ends e) h9
      (λ w x. bytes_ends events.Append (λ b y. behind (codes "append ") _ refl y) words e x) (λ h10.
      by_test (bytes_eq word (codes "fire")) _ _ (some e) (Ends e) h10 (λ w x. fire_ends words e x) (λ h11.
      by_test (bytes_eq word (codes "mine")) _ _ (some e) (Ends e) h11 (λ w x. mine_ends words e x)
      (λ h12. absurd (none_some e h12)))))))))))))

  pub event_ends : (words : List (List ℕ)) (e : Event) → event_of parties words ≡ some e → EndsNowhere (event_text e)
  event_ends [] e h = absurd (none_some e h)
  event_ends (word ∷ words) e h = by_word word words e h
