-- The names and the numbers of an event that some line spells.
use Rattle.std.proofs.Common.{◌≡◌, ℕ, suc, ◌≤◌, ◌^◌, Bool, true, false, List, [], ◌∷◌, length, Option, Some, None, refl}
use Rattle.std.proofs.Common.{sym, ap, subst, arith}
use Rattle.std.specs.Prelude.{◌&&◌, ◌==◌, nat_le, codes}
use Rattle.std.specs.List.{AllByRecursion}
use Rattle.std.specs.Str.{bytes_eq}
use Rattle.spec_data.specs.Digits.{read_hex}
use Rattle.spec_terms.specs.Readable.{is_name}
use Rattle.spec_run.specs.declared.event.Event.{Event}
use Rattle.spec_run.specs.declared.event.Event.TheVariants as events
use Rattle.spec_text.specs.Lines.{parts_of}
use Rattle.spec_text.specs.Words.{◌>>=◌, given, small, output, a_name, one_of, digest, named, two_parts, all_of, label}
use Rattle.spec_text.specs.EventLines.{advertise, commit, contract_and_party, authorise, reveal, bytes_event, sign, before_arrow}
use Rattle.spec_text.specs.EventLines.{at_arrow, shares}
use Rattle.spec_text.specs.EventLines.{is_some_list, give, fire, mine, event_by, event_of}
use Rattle.theory_text.proofs.ListFacts.{by_test}
use Rattle.theory_text.proofs.Options.{some, some_is, none_some, came, onto_all, onto_is, given_is}
use Rattle.theory_text.proofs.Lines.Decimals.{guarded, number_less}
use Rattle.theory_play_text.specs.Printable.{IsWide, IsNamed}

abbrev pub IsReadEvent : Event → Type 0
IsReadEvent (events.Advertise k bs) = AllByRecursion (λ b. IsNamed (b.0)) bs
IsReadEvent (events.Commit k a ds) = AllByRecursion (λ d. IsNamed (d.0)) ds
IsReadEvent (events.Reveal k a x) = IsNamed x
IsReadEvent (events.Give a inputs outputs) = AllByRecursion IsWide inputs × (length inputs ≤ 2 ^ 32)
IsReadEvent (events.Endorse k a) = Unit {0}
IsReadEvent (events.Init k a) = Unit {0}
IsReadEvent (events.Authorise a n i) = Unit {0}
IsReadEvent (events.Post bytes) = Unit {0}
IsReadEvent (events.Sign a l d) = Unit {0}
IsReadEvent (events.Append bytes) = Unit {0}
IsReadEvent (events.FireInit k) = Unit {0}
IsReadEvent (events.Fire n i) = Unit {0}
IsReadEvent (events.Mine n) = Unit {0}

-- ---- words

name_is : (word x : List ℕ) → a_name word ≡ some x → IsNamed x
name_is word x h = let g = given_is (is_name word) word x h in subst IsNamed g.same g.holds

named_is : {A : Type 0} (read : List ℕ → Option A) (word : List ℕ) (p : List ℕ × A) → named read word ≡ some p → IsNamed (p.0)
named_is read word p h =
    let c = came (two_parts (parts_of (λ b. b == 61) word)) (λ q. a_name (q.0) >>= λ x. read (q.1) >>= λ v. some (x, v)) p h in
    let d = came (a_name (c.first.0)) (λ x. read (c.first.1) >>= λ v. some (x, v)) p c.then' in
    let e = came (read (c.first.1)) (λ v. some (d.first, v)) p d.then' in
    subst (λ (q : List ℕ × _). IsNamed (q.0)) (some_is (d.first, e.first) p e.then') (name_is (c.first.0) d.first d.is)

all_named : {A : Type 0} (read : List ℕ → Option A) (words : List (List ℕ)) (ps : List (List ℕ × A)) → all_of (named read) words ≡ some ps
    → AllByRecursion (λ p. IsNamed (p.0)) ps
all_named read [] ps h = subst (AllByRecursion (λ p. IsNamed (p.0))) (some_is [] ps h) tt
all_named read (w ∷ ws) ps h =
    onto_all (λ (p : List ℕ × _). IsNamed (p.0)) (named read w) (all_of (named read) ws) ps h (named_is read w) (all_named read ws)

output_wide : (word : List ℕ) (n : ℕ) → output word ≡ some n → IsWide n
output_wide [] n h = absurd (none_some n h)
output_wide (b ∷ bytes) n h =
    let g = guarded (b == 35) (small bytes) n h in
    let l = number_less (2 ^ 32) bytes n g.then' in
    omega (arith, l)

-- numbers of eight bytes, as many as words
record AreWide (words : List (List ℕ)) (ns : List ℕ) : Type 0 where
  wide : AllByRecursion IsWide ns
  size : length ns ≡ length words

outputs_wide : (words : List (List ℕ)) (ns : List ℕ) → all_of output words ≡ some ns → AreWide words ns
outputs_wide [] ns h = subst (AreWide []) (some_is [] ns h) (record { wide = tt; size = refl })
outputs_wide (w ∷ ws) ns h =
    let o = onto_is (output w) (all_of output ws) ns h in
    let later = outputs_wide ws o.others o.are in
    subst (AreWide (w ∷ ws)) (sym o.all) (record { wide = (output_wide w o.first o.is, later.wide); size = ap suc later.size })

abbrev Split : Type 0
Split = List (List ℕ) × List (List ℕ)

prefix_few : (words : List (List ℕ)) (p : Split) → at_arrow words ≡ some p → length p.0 ≤ length words
prefix_few [] p h = absurd (none_some p h)
prefix_few (w ∷ ws) p h = by_arrow (bytes_eq w (codes "->")) (at_arrow ws) refl h (prefix_few ws)
  where
    by_arrow : (t : Bool) (later : Option Split) → at_arrow ws ≡ later → before_arrow t w ws later ≡ some p
        → ((q : Split) → at_arrow ws ≡ some q → length q.0 ≤ length ws) → length p.0 ≤ suc (length ws)
    by_arrow true later q e ih = let s = ap (λ (z : Split). length z.0) (some_is ([], ws) p e) in omega (arith, s)
    by_arrow false None q e ih = absurd (none_some p e)
    by_arrow false (Some r) q e ih =
        let s = ap (λ (z : Split). length z.0) (some_is (w ∷ r.0, r.1) p e) in omega (arith, s, ih r q)

-- ---- events

module _ (parties : List (List ℕ)) where
  advertise_read : (words : List (List ℕ)) (e : Event) → advertise parties words ≡ some e → IsReadEvent e
  advertise_read [] e h = absurd (none_some e h)
  advertise_read (k ∷ bs) e h =
      let c = came (small k) (λ n. all_of (named output) bs >>= λ l. some (events.Advertise n l)) e h in
      let d = came (all_of (named output) bs) (λ l. some (events.Advertise c.first l)) e c.then' in
      subst IsReadEvent (some_is (events.Advertise c.first d.first) e d.then') (all_named output bs d.first d.is)

  commit_read : (words : List (List ℕ)) (e : Event) → commit parties words ≡ some e → IsReadEvent e
  commit_read [] e h = absurd (none_some e h)
  commit_read (k ∷ []) e h = absurd (none_some e h)
  commit_read (k ∷ a ∷ ds) e h =
      let c = came (small k) (λ n. one_of parties a >>= λ p. all_of (named digest) ds >>= λ l. some (events.Commit n p l)) e h in
      let d = came (one_of parties a) (λ p. all_of (named digest) ds >>= λ l. some (events.Commit c.first p l)) e c.then' in
      let f = came (all_of (named digest) ds) (λ l. some (events.Commit c.first d.first l)) e d.then' in
      subst IsReadEvent (some_is (events.Commit c.first d.first f.first) e f.then') (all_named digest ds f.first f.is)

  two_read : (make : ℕ → List ℕ → Event) → ((n : ℕ) (p : List ℕ) → IsReadEvent (make n p)) → (words : List (List ℕ)) (e : Event)
      → contract_and_party make parties words ≡ some e → IsReadEvent e
  two_read make f [] e h = absurd (none_some e h)
  two_read make f (k ∷ []) e h = absurd (none_some e h)
  two_read make f (k ∷ a ∷ []) e h =
      let c = came (small k) (λ n. one_of parties a >>= λ p. some (make n p)) e h in
      let d = came (one_of parties a) (λ p. some (make c.first p)) e c.then' in
      subst IsReadEvent (some_is (make c.first d.first) e d.then') (f c.first d.first)
  two_read make f (k ∷ a ∷ b ∷ ws) e h = absurd (none_some e h)

  authorise_read : (words : List (List ℕ)) (e : Event) → authorise parties words ≡ some e → IsReadEvent e
  authorise_read [] e h = absurd (none_some e h)
  authorise_read (a ∷ []) e h = absurd (none_some e h)
  authorise_read (a ∷ n ∷ []) e h = absurd (none_some e h)
  authorise_read (a ∷ n ∷ i ∷ []) e h =
      let c = came (one_of parties a) (λ p. output n >>= λ o. small i >>= λ b. some (events.Authorise p o b)) e h in
      let d = came (output n) (λ o. small i >>= λ b. some (events.Authorise c.first o b)) e c.then' in
      let f = came (small i) (λ b. some (events.Authorise c.first d.first b)) e d.then' in
      subst IsReadEvent (some_is (events.Authorise c.first d.first f.first) e f.then') tt
  authorise_read (a ∷ n ∷ i ∷ x ∷ ws) e h = absurd (none_some e h)

  reveal_read : (words : List (List ℕ)) (e : Event) → reveal parties words ≡ some e → IsReadEvent e
  reveal_read [] e h = absurd (none_some e h)
  reveal_read (k ∷ []) e h = absurd (none_some e h)
  reveal_read (k ∷ a ∷ []) e h = absurd (none_some e h)
  reveal_read (k ∷ a ∷ x ∷ []) e h =
      let c = came (small k) (λ n. one_of parties a >>= λ p. a_name x >>= λ y. some (events.Reveal n p y)) e h in
      let d = came (one_of parties a) (λ p. a_name x >>= λ y. some (events.Reveal c.first p y)) e c.then' in
      let f = came (a_name x) (λ y. some (events.Reveal c.first d.first y)) e d.then' in
      subst IsReadEvent (some_is (events.Reveal c.first d.first f.first) e f.then') (name_is x f.first f.is)
  reveal_read (k ∷ a ∷ x ∷ y ∷ ws) e h = absurd (none_some e h)

  bytes_read : (make : List ℕ → Event) → ((bytes : List ℕ) → IsReadEvent (make bytes)) → (words : List (List ℕ)) (e : Event)
      → bytes_event make parties words ≡ some e → IsReadEvent e
  bytes_read make f [] e h = absurd (none_some e h)
  bytes_read make f (w ∷ []) e h =
      let c = came (read_hex w) (λ bytes. some (make bytes)) e h in subst IsReadEvent (some_is (make c.first) e c.then') (f c.first)
  bytes_read make f (w ∷ v ∷ ws) e h = absurd (none_some e h)

  sign_read : (words : List (List ℕ)) (e : Event) → sign parties words ≡ some e → IsReadEvent e
  sign_read [] e h = absurd (none_some e h)
  sign_read (a ∷ []) e h = absurd (none_some e h)
  sign_read (a ∷ l ∷ []) e h = absurd (none_some e h)
  sign_read (a ∷ l ∷ w ∷ []) e h =
      let c = came (one_of parties a) (λ p. label l >>= λ m. digest w >>= λ d. some (events.Sign p m d)) e h in
      let d = came (label l) (λ m. digest w >>= λ d. some (events.Sign c.first m d)) e c.then' in
      let f = came (digest w) (λ d'. some (events.Sign c.first d.first d')) e d.then' in
      subst IsReadEvent (some_is (events.Sign c.first d.first f.first) e f.then') tt
  sign_read (a ∷ l ∷ w ∷ v ∷ ws) e h = absurd (none_some e h)

  fire_read : (words : List (List ℕ)) (e : Event) → fire parties words ≡ some e → IsReadEvent e
  fire_read [] e h = absurd (none_some e h)
  fire_read (w ∷ []) e h = absurd (none_some e h)
  fire_read (w ∷ n ∷ []) e h =
      by_test (bytes_eq w (codes "init")) _ _ (some e) (IsReadEvent e) h
      (λ same h1. let c = came (small n) (λ k. some (events.FireInit k)) e h1 in
      subst IsReadEvent (some_is (events.FireInit c.first) e c.then') tt)
      (λ h1.
      let c = came (output w) (λ o. small n >>= λ i. some (events.Fire o i)) e h1 in
      let d = came (small n) (λ i. some (events.Fire c.first i)) e c.then' in
      subst IsReadEvent (some_is (events.Fire c.first d.first) e d.then') tt)
  fire_read (w ∷ n ∷ v ∷ ws) e h = absurd (none_some e h)

  mine_read : (words : List (List ℕ)) (e : Event) → mine parties words ≡ some e → IsReadEvent e
  mine_read [] e h = absurd (none_some e h)
  mine_read (w ∷ []) e h =
      let c = came (small w) (λ n. given (nat_le 1 n) (events.Mine n)) e h in
      let g = given_is (nat_le 1 c.first) (events.Mine c.first) e c.then' in
      subst IsReadEvent g.same tt
  mine_read (w ∷ v ∷ ws) e h = absurd (none_some e h)

  give_read : (words : List (List ℕ)) (e : Event) → length words ≤ 2 ^ 32 → give parties words ≡ some e → IsReadEvent e
  give_read [] e few h = absurd (none_some e h)
  give_read (a ∷ ws) e few h =
      let c = came (one_of parties a)
      (λ p. at_arrow ws >>= λ q. all_of output (q.0) >>= λ is. shares parties (q.1) >>= λ os. given (is_some_list is && is_some_list os)
      (events.Give p is os)) e h in
      let d = came (at_arrow ws) (λ q. all_of output (q.0) >>= λ is. shares parties (q.1) >>= λ os. given
      (is_some_list is && is_some_list os) (events.Give c.first is os)) e c.then' in
      let f = came (all_of output (d.first.0))
      (λ is. shares parties (d.first.1) >>= λ os. given (is_some_list is && is_some_list os) (events.Give c.first is os)) e d.then' in
      let g = came (shares parties (d.first.1))
      (λ os. given (is_some_list f.first && is_some_list os) (events.Give c.first f.first os)) e f.then' in
      let t = given_is (is_some_list f.first && is_some_list g.first) (events.Give c.first f.first g.first) e g.then' in
      let w = outputs_wide (d.first.0) f.first f.is in
      let n = prefix_few ws d.first d.is in
      subst IsReadEvent t.same (w.wide, omega (arith, w.size, n, few))

  by_word : (word : List ℕ) (words : List (List ℕ)) (e : Event) → length words ≤ 2 ^ 32 → event_by word parties words ≡ some e
      → IsReadEvent e
  by_word word words e few h =
      by_test (bytes_eq word (codes "advertise")) _ _ (some e) (IsReadEvent e) h (λ same. advertise_read words e) (λ h1.
      by_test (bytes_eq word (codes "commit")) _ _ (some e) (IsReadEvent e) h1 (λ same. commit_read words e) (λ h2.
      by_test (bytes_eq word (codes "endorse")) _ _ (some e) (IsReadEvent e) h2 (λ same. two_read events.Endorse (λ n p. tt) words e) (λ h3.
      by_test (bytes_eq word (codes "init")) _ _ (some e) (IsReadEvent e) h3 (λ same. two_read events.Init (λ n p. tt) words e) (λ h4.
      by_test (bytes_eq word (codes "authorise")) _ _ (some e) (IsReadEvent e) h4 (λ same. authorise_read words e) (λ h5.
      by_test (bytes_eq word (codes "reveal")) _ _ (some e) (IsReadEvent e) h5 (λ same. reveal_read words e) (λ h6.
      by_test (bytes_eq word (codes "post")) _ _ (some e) (IsReadEvent e) h6 (λ same. bytes_read events.Post (λ bytes. tt) words e) (λ h7.
      by_test (bytes_eq word (codes "sign")) _ _ (some e) (IsReadEvent e) h7 (λ same. sign_read words e) (λ h8.
      by_test (bytes_eq word (codes "give")) _ _ (some e) (IsReadEvent e) h8 (λ same. give_read words e few) (λ h9.
      by_test (bytes_eq word (codes "append")) _ _ (some e) (IsReadEvent e) h9 (λ same. bytes_read events.Append (λ bytes. tt) words e)
      (λ h10.
      by_test (bytes_eq word (codes "fire")) _ _ (some e) (IsReadEvent e) h10 (λ same. fire_read words e) (λ h11.
      by_test (bytes_eq word (codes "mine")) _ _ (some e) (IsReadEvent e) h11 (λ same. mine_read words e)
      (λ h12. absurd (none_some e h12)))))))))))))

  -- the event of words that aren't too many
  pub read_event : (words : List (List ℕ)) (e : Event) → length words ≤ 2 ^ 32 → event_of parties words ≡ some e → IsReadEvent e
  read_event [] e few h = absurd (none_some e h)
  read_event (word ∷ words) e few h = by_word word words e (omega (arith, few)) h
