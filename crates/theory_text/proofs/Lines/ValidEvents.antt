-- The events that a run file spells are those of which the theorems on runs speak.
use Rattle.std.proofs.Common.{◌≡◌, ℕ, suc, ◌*◌, ◌≤◌, Bool, true, false, List, [], ◌∷◌, length, Option, Some, None, refl, ap, subst, arith}
use Rattle.std.specs.Prelude.{◌&&◌, ◌==◌, nat_le, codes}
use Rattle.std.specs.List.{list_all, AllByRecursion}
use Rattle.std.specs.Str.{bytes_eq}
use Rattle.std.proofs.lemmas.Bool.Decides.{nat_tests}
use Rattle.spec_data.specs.Lists.{is_among}
use Rattle.spec_run.specs.Setup.{Setup, is_declared}
use Rattle.spec_run.specs.Conditions.{IsEvent, IsPiece, IsDigest}
use Rattle.spec_run.specs.declared.event.Event.{Event}
use Rattle.spec_run.specs.declared.event.Event.TheVariants as events
use Rattle.spec_data.specs.Digits.{read_hex, onto}
use Rattle.spec_text.specs.Words.{◌>>=◌, given, small, amount, output, a_name, one_of, digest, named, two_parts, all_of, label}
use Rattle.spec_text.specs.Lines.{parts_of}
use Rattle.spec_text.specs.EventLines.{advertise, commit, contract_and_party, authorise, reveal, bytes_event, sign, before_arrow, at_arrow, shares, is_some_list, give, fire, mine, event_by, event_of}
use Rattle.theory_text.proofs.Options.{some, some_is, none_some, came, onto_all, given_is}
use Rattle.theory_text.proofs.Lines.Labels.{label_is}
use Rattle.theory_text.proofs.ListFacts.{and_left, and_right, and_is, by_test}
use Rattle.theory_text.proofs.Lines.Words.{total}
use Rattle.theory_text.proofs.Lines.Hex.{read_hex_is}

-- ---- parties

-- one of the parties is declared
declared : (s : Setup) (word a : List ℕ) → one_of s.header.parties word ≡ some a → is_declared s a ≡ true
declared s word a h =
    let g = given_is (is_among word s.header.parties) word a h in
    subst (λ (x : List ℕ). is_declared s x ≡ true) g.same g.holds

-- ---- digests

digest_is : (word bytes : List ℕ) → digest word ≡ some bytes → IsDigest bytes
digest_is word bytes h =
    let c = came (read_hex word) (λ bs. given (length bs == 32) bs) bytes h in
    let g = given_is (length c.first == 32) c.first bytes c.then' in
    subst IsDigest g.same (record { bytes = (read_hex_is word c.first c.is).bytes; size = grind (arith, nat_tests, g.holds) })

Named : Type 0
Named = List ℕ × List ℕ

named_is : (word : List ℕ) (p : List ℕ × List ℕ) → named digest word ≡ some p → IsDigest p.1
named_is word p h =
    let c = came (two_parts (parts_of (λ b. b == 61) word)) (λ q. a_name (q.0) >>= λ x. digest (q.1) >>= λ v. some (x, v)) p h in
    let d = came (a_name (c.first.0)) (λ x. digest (c.first.1) >>= λ v. some (x, v)) p c.then' in
    let e = came (digest (c.first.1)) (λ v. some (d.first, v)) p d.then' in
    subst (λ (q : List ℕ × List ℕ). IsDigest q.1) (some_is (d.first, e.first) p e.then') (digest_is (c.first.1) e.first e.is)

all_digests : (words : List (List ℕ)) (ds : List (List ℕ × List ℕ)) → all_of (named digest) words ≡ some ds → AllByRecursion (λ d. IsDigest (d.1)) ds
all_digests [] ds h = subst (AllByRecursion (λ d. IsDigest (d.1))) (some_is [] ds h) tt
all_digests (w ∷ ws) ds h = onto_all (λ (d : List ℕ × List ℕ). IsDigest (d.1)) (named digest w) (all_of (named digest) ws) ds h (named_is w) (all_digests ws)

-- ---- pieces

piece_is : (word bytes : List ℕ) → length word ≤ 1048576 → read_hex word ≡ some bytes → IsPiece bytes
piece_is word bytes few h = let x = read_hex_is word bytes h in record { bytes = x.bytes; size = omega (arith, x.size) }

-- ---- events

advertise_is : (s : Setup) (words : List (List ℕ)) (e : Event) → advertise s.header.parties words ≡ some e → IsEvent s e
advertise_is s [] e h = absurd (none_some e h)
advertise_is s (k ∷ bs) e h =
    let c = came (small k) (λ n. all_of (named output) bs >>= λ l. some (events.Advertise n l)) e h in
    let d = came (all_of (named output) bs) (λ l. some (events.Advertise c.first l)) e c.then' in
    subst (IsEvent s) (some_is (events.Advertise c.first d.first) e d.then') tt

commit_is : (s : Setup) (words : List (List ℕ)) (e : Event) → commit s.header.parties words ≡ some e → IsEvent s e
commit_is s [] e h = absurd (none_some e h)
commit_is s (k ∷ []) e h = absurd (none_some e h)
commit_is s (k ∷ a ∷ ds) e h =
    let c = came (small k) (λ n. one_of s.header.parties a >>= λ p. all_of (named digest) ds >>= λ l. some (events.Commit n p l)) e h in
    let d = came (one_of s.header.parties a) (λ p. all_of (named digest) ds >>= λ l. some (events.Commit c.first p l)) e c.then' in
    let f = came (all_of (named digest) ds) (λ l. some (events.Commit c.first d.first l)) e d.then' in
    subst (IsEvent s) (some_is (events.Commit c.first d.first f.first) e f.then') (declared s a d.first d.is, all_digests ds f.first f.is)

-- an event of a contract and a party asks only that the party is declared
two_is : (s : Setup) (make : ℕ → List ℕ → Event) → ((n : ℕ) (p : List ℕ) → is_declared s p ≡ true → IsEvent s (make n p))
    → (words : List (List ℕ)) (e : Event) → contract_and_party make s.header.parties words ≡ some e → IsEvent s e
two_is s make asks [] e h = absurd (none_some e h)
two_is s make asks (k ∷ []) e h = absurd (none_some e h)
two_is s make asks (k ∷ a ∷ []) e h =
    let c = came (small k) (λ n. one_of s.header.parties a >>= λ p. some (make n p)) e h in
    let d = came (one_of s.header.parties a) (λ p. some (make c.first p)) e c.then' in
    subst (IsEvent s) (some_is (make c.first d.first) e d.then') (asks c.first d.first (declared s a d.first d.is))
two_is s make asks (k ∷ a ∷ b ∷ ws) e h = absurd (none_some e h)

authorise_is : (s : Setup) (words : List (List ℕ)) (e : Event) → authorise s.header.parties words ≡ some e → IsEvent s e
authorise_is s [] e h = absurd (none_some e h)
authorise_is s (a ∷ []) e h = absurd (none_some e h)
authorise_is s (a ∷ n ∷ []) e h = absurd (none_some e h)
authorise_is s (a ∷ n ∷ i ∷ []) e h =
    let c = came (one_of s.header.parties a) (λ p. output n >>= λ o. small i >>= λ b. some (events.Authorise p o b)) e h in
    let d = came (output n) (λ o. small i >>= λ b. some (events.Authorise c.first o b)) e c.then' in
    let f = came (small i) (λ b. some (events.Authorise c.first d.first b)) e d.then' in
    subst (IsEvent s) (some_is (events.Authorise c.first d.first f.first) e f.then') (declared s a c.first c.is)
authorise_is s (a ∷ n ∷ i ∷ x ∷ ws) e h = absurd (none_some e h)

reveal_is : (s : Setup) (words : List (List ℕ)) (e : Event) → reveal s.header.parties words ≡ some e → IsEvent s e
reveal_is s [] e h = absurd (none_some e h)
reveal_is s (k ∷ []) e h = absurd (none_some e h)
reveal_is s (k ∷ a ∷ []) e h = absurd (none_some e h)
reveal_is s (k ∷ a ∷ x ∷ []) e h =
    let c = came (small k) (λ n. one_of s.header.parties a >>= λ p. a_name x >>= λ y. some (events.Reveal n p y)) e h in
    let d = came (one_of s.header.parties a) (λ p. a_name x >>= λ y. some (events.Reveal c.first p y)) e c.then' in
    let f = came (a_name x) (λ y. some (events.Reveal c.first d.first y)) e d.then' in
    subst (IsEvent s) (some_is (events.Reveal c.first d.first f.first) e f.then') (declared s a d.first d.is)
reveal_is s (k ∷ a ∷ x ∷ y ∷ ws) e h = absurd (none_some e h)

bytes_is : (s : Setup) (make : List ℕ → Event) → ((bytes : List ℕ) → IsPiece bytes → IsEvent s (make bytes))
    → (words : List (List ℕ)) (e : Event) → total words ≤ 1048576 → bytes_event make s.header.parties words ≡ some e → IsEvent s e
bytes_is s make asks [] e few h = absurd (none_some e h)
bytes_is s make asks (w ∷ []) e few h =
    let c = came (read_hex w) (λ bytes. some (make bytes)) e h in
    subst (IsEvent s) (some_is (make c.first) e c.then') (asks c.first (piece_is w c.first (omega arith) c.is))
bytes_is s make asks (w ∷ v ∷ ws) e few h = absurd (none_some e h)

sign_is : (s : Setup) (words : List (List ℕ)) (e : Event) → sign s.header.parties words ≡ some e → IsEvent s e
sign_is s [] e h = absurd (none_some e h)
sign_is s (a ∷ []) e h = absurd (none_some e h)
sign_is s (a ∷ l ∷ []) e h = absurd (none_some e h)
sign_is s (a ∷ l ∷ w ∷ []) e h =
    let c = came (one_of s.header.parties a) (λ p. label l >>= λ m. digest w >>= λ d. some (events.Sign p m d)) e h in
    let d = came (label l) (λ m. digest w >>= λ d. some (events.Sign c.first m d)) e c.then' in
    let f = came (digest w) (λ d'. some (events.Sign c.first d.first d')) e d.then' in
    subst (IsEvent s) (some_is (events.Sign c.first d.first f.first) e f.then') (declared s a c.first c.is, label_is l d.first d.is)
sign_is s (a ∷ l ∷ w ∷ v ∷ ws) e h = absurd (none_some e h)

fire_is : (s : Setup) (words : List (List ℕ)) (e : Event) → fire s.header.parties words ≡ some e → IsEvent s e
fire_is s [] e h = absurd (none_some e h)
fire_is s (w ∷ []) e h = absurd (none_some e h)
fire_is s (w ∷ n ∷ []) e h =
    by_test (bytes_eq w (codes "init")) _ _ (some e) (IsEvent s e) h
    (λ same h1. let c = came (small n) (λ k. some (events.FireInit k)) e h1 in subst (IsEvent s) (some_is (events.FireInit c.first) e c.then') tt)
    (λ h1.
    let c = came (output w) (λ o. small n >>= λ i. some (events.Fire o i)) e h1 in
    let d = came (small n) (λ i. some (events.Fire c.first i)) e c.then' in
    subst (IsEvent s) (some_is (events.Fire c.first d.first) e d.then') tt)
fire_is s (w ∷ n ∷ v ∷ ws) e h = absurd (none_some e h)

one_at_least : (n : ℕ) → nat_le 1 n ≡ true → 1 ≤ n
one_at_least n h = grind (arith, nat_tests)

mine_is : (s : Setup) (words : List (List ℕ)) (e : Event) → mine s.header.parties words ≡ some e → IsEvent s e
mine_is s [] e h = absurd (none_some e h)
mine_is s (w ∷ []) e h =
    let c = came (small w) (λ n. given (nat_le 1 n) (events.Mine n)) e h in
    let g = given_is (nat_le 1 c.first) (events.Mine c.first) e c.then' in
    subst (IsEvent s) g.same (one_at_least c.first g.holds)
mine_is s (w ∷ v ∷ ws) e h = absurd (none_some e h)

-- ---- gifts

abbrev Split : Type 0
Split = List (List ℕ) × List (List ℕ)

split_is : (t : Bool) (word : List ℕ) (words : List (List ℕ)) (later : Option Split) (p : Split) → before_arrow t word words later ≡ some p
    → ((q : Split) → later ≡ some q → length q.1 ≤ length words) → length p.1 ≤ length words
split_is true word words later p h f = let e = ap (λ (z : Split). length z.1) (some_is ([], words) p h) in omega (arith, e)
split_is false word words None p h f = absurd (none_some p h)
split_is false word words (Some q) p h f = let e = ap (λ (z : Split). length z.1) (some_is (word ∷ q.0, q.1) p h) in omega (arith, e, f q refl)

-- the words behind the arrow are no more than all
behind_arrow : (words : List (List ℕ)) (p : Split) → at_arrow words ≡ some p → length p.1 ≤ length words
behind_arrow [] p h = absurd (none_some p h)
behind_arrow (w ∷ ws) p h = let n = split_is (bytes_eq w (codes "->")) w ws (at_arrow ws) p h (behind_arrow ws) in omega (arith, n)

abbrev Share : Type 0
Share = List ℕ × ℕ

-- shares of so many words
record AreShares (s : Setup) (n : ℕ) (outputs : List Share) : Type 0 where
  takers : list_all (λ o. is_declared s (o.0)) outputs ≡ true
  few : 2 * length outputs ≤ n

share_is : (s : Setup) (a v : List ℕ) (o : Share) → (one_of s.header.parties a >>= λ p. amount v >>= λ n. some (p, n)) ≡ some o → is_declared s (o.0) ≡ true
share_is s a v o h =
    let c = came (one_of s.header.parties a) (λ p. amount v >>= λ n. some (p, n)) o h in
    let d = came (amount v) (λ n. some (c.first, n)) o c.then' in
    subst (λ (z : Share). is_declared s (z.0) ≡ true) (some_is (c.first, d.first) o d.then') (declared s a c.first c.is)

onto_shares : (s : Setup) (n : ℕ) (x : Option Share) (xs : Option (List Share)) (outputs : List Share) → onto x xs ≡ some outputs
    → ((o : Share) → x ≡ some o → is_declared s (o.0) ≡ true) → ((os : List Share) → xs ≡ some os → AreShares s n os) → AreShares s (suc (suc n)) outputs
onto_shares s n (Some o) (Some os) outputs h f g =
    let t = g os refl in
    subst (AreShares s (suc (suc n))) (some_is (o ∷ os) outputs h) (record { takers = and_is _ _ (f o refl) t.takers; few = omega (arith, t.few) })
onto_shares s n (Some o) None outputs h f g = absurd (none_some outputs h)
onto_shares s n None xs outputs h f g = absurd (none_some outputs h)

shares_are : (s : Setup) (words : List (List ℕ)) (outputs : List Share) → shares s.header.parties words ≡ some outputs → AreShares s (length words) outputs
shares_are s [] outputs h = subst (AreShares s 0) (some_is [] outputs h) (record { takers = refl; few = omega arith })
shares_are s (a ∷ []) outputs h = absurd (none_some outputs h)
shares_are s (a ∷ v ∷ ws) outputs h =
    onto_shares s (length ws) (one_of s.header.parties a >>= λ p. amount v >>= λ n. some (p, n)) (shares s.header.parties ws) outputs h
    (share_is s a v) (shares_are s ws)

some_list : {A : Type 0} (xs : List A) → is_some_list xs ≡ true → 1 ≤ length xs
some_list [] h = absurd cc
some_list (x ∷ xs) h = omega arith

give_is : (s : Setup) (words : List (List ℕ)) (e : Event) → length words ≤ 524288 → give s.header.parties words ≡ some e → IsEvent s e
give_is s [] e few h = absurd (none_some e h)
give_is s (a ∷ ws) e few h =
    let c = came (one_of s.header.parties a) (λ p. at_arrow ws >>= λ q. all_of output (q.0)
    >>= λ is. shares s.header.parties (q.1) >>= λ os. given (is_some_list is && is_some_list os) (events.Give p is os)) e h in
    let d = came (at_arrow ws) (λ q. all_of output (q.0)
    >>= λ is. shares s.header.parties (q.1) >>= λ os. given (is_some_list is && is_some_list os) (events.Give c.first is os)) e c.then' in
    let f = came (all_of output (d.first.0))
    (λ is. shares s.header.parties (d.first.1) >>= λ os. given (is_some_list is && is_some_list os) (events.Give c.first is os)) e d.then' in
    let g = came (shares s.header.parties (d.first.1)) (λ os. given (is_some_list f.first && is_some_list os) (events.Give c.first f.first os)) e f.then' in
    let t = given_is (is_some_list f.first && is_some_list g.first) (events.Give c.first f.first g.first) e g.then' in
    let sh = shares_are s (d.first.1) g.first g.is in
    let n = behind_arrow ws d.first d.is in
    subst (IsEvent s) t.same (record {
      giver = declared s a c.first c.is;
      takers = sh.takers;
      some_input = some_list f.first (and_left _ _ t.holds);
      some_output = some_list g.first (and_right (is_some_list f.first) _ t.holds);
      few_outputs = omega (arith, sh.few, n);
    })

-- ---- all events

event_by_is : (s : Setup) (word : List ℕ) (words : List (List ℕ)) (e : Event) → total words ≤ 1048576 → length words ≤ 524288
    → event_by word s.header.parties words ≡ some e → IsEvent s e
event_by_is s word words e size few h =
    by_test (bytes_eq word (codes "advertise")) _ _ (some e) (IsEvent s e) h (λ same. advertise_is s words e) (λ h1.
    by_test (bytes_eq word (codes "commit")) _ _ (some e) (IsEvent s e) h1 (λ same. commit_is s words e) (λ h2.
    by_test (bytes_eq word (codes "endorse")) _ _ (some e) (IsEvent s e) h2 (λ same. two_is s events.Endorse (λ n p d. d) words e) (λ h3.
    by_test (bytes_eq word (codes "init")) _ _ (some e) (IsEvent s e) h3 (λ same. two_is s events.Init (λ n p d. d) words e) (λ h4.
    by_test (bytes_eq word (codes "authorise")) _ _ (some e) (IsEvent s e) h4 (λ same. authorise_is s words e) (λ h5.
    by_test (bytes_eq word (codes "reveal")) _ _ (some e) (IsEvent s e) h5 (λ same. reveal_is s words e) (λ h6.
    by_test (bytes_eq word (codes "post")) _ _ (some e) (IsEvent s e) h6 (λ same. bytes_is s events.Post (λ bytes p. p) words e size) (λ h7.
    by_test (bytes_eq word (codes "sign")) _ _ (some e) (IsEvent s e) h7 (λ same. sign_is s words e) (λ h8.
    by_test (bytes_eq word (codes "give")) _ _ (some e) (IsEvent s e) h8 (λ same. give_is s words e few) (λ h9.
    by_test (bytes_eq word (codes "append")) _ _ (some e) (IsEvent s e) h9 (λ same. bytes_is s events.Append (λ bytes p. p) words e size) (λ h10.
    by_test (bytes_eq word (codes "fire")) _ _ (some e) (IsEvent s e) h10 (λ same. fire_is s words e) (λ h11.
    by_test (bytes_eq word (codes "mine")) _ _ (some e) (IsEvent s e) h11 (λ same. mine_is s words e) (λ h12. absurd (none_some e h12)))))))))))))

-- what the words of a line spell, where these are no more than a line has
pub event_is : (s : Setup) (words : List (List ℕ)) (e : Event) → total words ≤ 1048576 → 2 * length words ≤ 1048577
    → event_of s.header.parties words ≡ Some e → IsEvent s e
event_is s [] e size few h = absurd (none_some e h)
event_is s (word ∷ words) e size few h = event_by_is s word words e (omega arith) (omega arith) h
