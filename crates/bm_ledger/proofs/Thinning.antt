-- Outputs that go all at once: those whose places are no longer found.
use Rattle.std.proofs.Common.{◌≡◌, ℕ, ◌+◌, ◌<◌, List, [], ◌∷◌, ◌++◌, length, map, take, get_or, Bool, true, false, Option, Some, None, refl, sym, ap, ◌∙◌, cond}
use Rattle.std.specs.Prelude.{is_some, ◌||◌, if◌then◌else◌}
use Rattle.std.specs.List.{filter, list_any}
use Rattle.std.specs.Map.{remove_entry}
use Rattle.std.proofs.lemmas.List.{take_more}
use Rattle.spec_bitcoin.specs.declared.tx.OutPoint.{OutPoint}
use Rattle.spec_bitcoin.specs.declared.tx.TxIn.{TxIn}
use Rattle.spec_bitcoin.specs.Live.{Entry, same_outpoint, at_place, without}
use Rattle.bm_ledger.specs.Ordered.{AreIndexed, LosesPlaces}
use Rattle.bm_ledger.proofs.Indexing.{same-itself, contained, removed}
use Rattle.bm_ledger.proofs.Spending.{same_outpoint-is}

-- what the test finds at each output's place stays whole
stay : (t : OutPoint → Bool) (es : List Entry) → ((q : OutPoint) → is_some (at_place es q) ≡ true → t q ≡ true) → filter (λ e. t e.0) es ≡ es
stay t [] h = refl
stay t (e ∷ es) h =
    let here : is_some (at_place (e ∷ es) e.0) ≡ true = rw (same-itself e.0) refl in
    let there = stay t es (λ q s. h q (further q s)) in
    rw (h e.0 here) (ap (λ l. e ∷ l) there)
  where
    further : (q : OutPoint) → is_some (at_place es q) ≡ true → is_some (at_place (e ∷ es) q) ≡ true
    further q s =
        elim (same_outpoint q e.0) as (λ b. is_some (cond b (Some e.1) (at_place es q)) ≡ true) [
          | true ↦ refl
          | false ↦ s
        ]

-- an output that isn't found goes anyway
goes : (t : OutPoint → Bool) (p : OutPoint) (es : List Entry) → t p ≡ false → filter (λ e. t e.0) es ≡ filter (λ e. t e.0) (remove_entry (same_outpoint p) es)
goes t p [] h = refl
goes t p (e ∷ es) h =
    elim (same_outpoint p e.0) as
    (λ b. same_outpoint p e.0 ≡ b → filter (λ e. t e.0) (e ∷ es) ≡ filter (λ e. t e.0) (cond b es (e ∷ remove_entry (same_outpoint p) es))) [
      | true ↦ λ s. let none : t e.0 ≡ false = ap t (sym (same_outpoint-is p e.0 s)) ∙ h in rw none refl
      | false ↦ λ s. rw (goes t p es h) refl
    ] refl

-- nothing at one place, and nothing at others
first_or_rest : (a b : Bool) (o : Option ℕ) → (if a || b then None else o) ≡ (if b then None else cond a None o)
first_or_rest true true o = refl
first_or_rest true false o = refl
first_or_rest false b o = refl

-- what is found is what is left without the places that were lost, and it stays indexed
pub thinned : (f g : OutPoint → Option ℕ) (places : List OutPoint) (es : List Entry) → AreIndexed f es → LosesPlaces f g places
    → (filter (λ e. is_some (g e.0)) es ≡ without es places) × AreIndexed g (without es places)
thinned f g [] es was lost =
    let now : AreIndexed g es = record { in_order = was.in_order; apart = was.apart; numbers = λ q. lost q ∙ was.numbers q } in
    (stay (λ q. is_some (g q)) es (λ q s. contained g es q now ∙ s), now)
thinned f g (p ∷ places) es was lost =
    let f' : OutPoint → Option ℕ = λ q. cond (same_outpoint p q) None (f q) in
    let next = removed f f' es p was (λ q. refl) in
    let none : g p ≡ None = lost p ∙ ap (λ b. if b || list_any (λ r. same_outpoint r p) places then None else f p) (same-itself p) in
    let rest = thinned f' g places (remove_entry (same_outpoint p) es) next
    (λ q. lost q ∙ first_or_rest (same_outpoint p q) (list_any (λ r. same_outpoint r q) places) (f q)) in
    (goes (λ q. is_some (g q)) p es (ap is_some none) ∙ rest.0, rest.1)

-- ---- one place more

any-push : (t : OutPoint → Bool) (is : List TxIn) (i : TxIn) → list_any t (map (λ j. j.prev) (is ++ i ∷ [])) ≡ (list_any t (map (λ j. j.prev) is) || t i.prev)
any-push t [] i =
    elim (t i.prev) as (λ b. (b || false) ≡ b) [
      | true ↦ refl
      | false ↦ refl
    ]
any-push t (x ∷ is) i =
    elim (t x.prev) as (λ b. (b || list_any t (map (λ j. j.prev) (is ++ i ∷ []))) ≡ ((b || list_any t (map (λ j. j.prev) is)) || t i.prev)) [
      | true ↦ refl
      | false ↦ any-push t is i
    ]

next_or_before : (a b : Bool) (o : Option ℕ) → cond b None (if a then None else o) ≡ (if a || b then None else o)
next_or_before true true o = refl
next_or_before true false o = refl
next_or_before false b o = refl

-- the places so far and the next
pub forgotten : (f g h : OutPoint → Option ℕ) (is : List TxIn) (k : ℕ) (i : TxIn) → LosesPlaces f g (map (λ j. j.prev) (take k is))
    → k < length is → i ≡ get_or is k i → ((q : OutPoint) → h q ≡ cond (same_outpoint i.prev q) None (g q))
    → LosesPlaces f h (map (λ j. j.prev) (take (k + 1) is))
forgotten f g h is k i lost lt at next q =
    let taken = take_more is k i lt ∙ ap (λ x. take k is ++ x ∷ []) (sym at) in
    let more = ap (λ l. list_any (λ p. same_outpoint p q) (map (λ j. j.prev) l)) taken ∙ any-push (λ p. same_outpoint p q) (take k is) i in
    next q
    ∙ ap (λ o. cond (same_outpoint i.prev q) None o) (lost q)
    ∙ next_or_before (list_any (λ p. same_outpoint p q) (map (λ j. j.prev) (take k is))) (same_outpoint i.prev q) (f q)
    ∙ ap (λ b. if b then None else f q) (sym more)
