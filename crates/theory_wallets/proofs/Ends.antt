-- `ready` and `missing` end with the same line; who endorses what.
use Rattle.std.proofs.Common.{◌≡◌, ℕ, ◌+◌, List, [], ◌∷◌, ◌++◌, length, Bool, true, false, Option}
use Rattle.std.proofs.Common.{Some, None, refl, sym, ap, subst, ◌∙◌, arith, inl, inr, append_assoc, cond}
use Rattle.std.specs.Prelude.{not, ◌&&◌, ◌||◌, if◌then◌else◌, filter, slice_index, codes}
use Rattle.std.specs.Fmt.{decimal}
use Rattle.std.specs.List.{find, flat_map, list_all, list_any}
use Rattle.std.specs.Str.{bytes_eq}
use Rattle.std.proofs.lemmas.Bool.{and_parts, and_from}
use Rattle.spec_terms.specs.Advert.{Advert}
use Rattle.spec_bitcoin.specs.declared.label.Label.{Label}
use Rattle.spec_compiler.specs.Keyed.Instance.{Instance}
use Rattle.spec_compiler.specs.Keyed.Keys.{Keys}
use Rattle.spec_compiler.specs.declared.unsigned.Spent.{Spent}
use Rattle.spec_text.specs.RunText.{newline}
use Rattle.spec_tool.specs.Keyed.Listed.{Listed, listed}
use Rattle.spec_tool.specs.declared.which.Which.{Which}
use Rattle.spec_tool.specs.declared.which.Which.TheVariants as names
use Rattle.spec_deal.specs.DealText.{line_of, missing_line, gate_line, slot_words}
use Rattle.spec_deal.specs.Finished.{label_party}
use Rattle.spec_deal.specs.declared.signed.Signed.{Signed}
use Rattle.spec_deal.specs.Given.{has, unsettled, has_unverified, is_unverified_endorsement, may_start, first_unendorsed, endorsements}
use Rattle.spec_deal.specs.ReadyText.{unverified_text, is_endorsement_by, is_endorsed_by}
use Rattle.spec_deal.specs.Slots.{Slot, is_endorsement, input_slot, input_slots, slots_from, listed_slots, slots, verb_of}
use Rattle.spec_deal.specs.WarnText.{warn_text, warnings}
use Rattle.spec_deal.specs.declared.entry.Shown.{Shown}
use Rattle.spec_deal.specs.declared.finish.Verb.{Verb}
use Rattle.spec_deal.specs.declared.finish.Verb.TheVariants as verbs
use Rattle.theory_calculus.specs.Members.{Is_in}
use Rattle.theory_calculus.proofs.Members.{found, in_append, in_filter, filter_has, in_from_contains, contains_from_in}
use Rattle.theory_calculus.proofs.Names.{bytes-true, bytes_refl}
use Rattle.theory_world.proofs.Contracts.Endorsed.{in_map}
use Rattle.theory_wallets.specs.Ready.{AreLines, IsLastLine, ReadyAndMissing, AreAmong, IsEndorsedBy, PartiesEndorse}

-- ---- lines

abbrev IsLine : List ℕ → Type 0
IsLine text = (most : List ℕ) × (text ≡ most ++ newline)

behind : (xs ys : List ℕ) → IsLine ys → IsLine (xs ++ ys)
behind xs ys h = (xs ++ h.0, ap (λ z. xs ++ z) h.1 ∙ sym (append_assoc xs (h.0) newline))

a_line : (words : List (List ℕ)) → IsLine (line_of words)
a_line [] = ([], refl)
a_line (word ∷ []) = (word, refl)
a_line (word ∷ (next ∷ words)) = behind word (codes " " ++ line_of (next ∷ words)) (behind (codes " ") (line_of (next ∷ words)) (a_line (next ∷ words)))

lines_join : (xs ys : List ℕ) → AreLines xs → AreLines ys → AreLines (xs ++ ys)
lines_join xs ys (inl e) k = subst AreLines (ap (λ z. z ++ ys) (sym e)) k
lines_join xs ys (inr h) (inl e) = inr (h.0, ap (λ z. xs ++ z) e ∙ (no_more xs ∙ h.1))
  where
    no_more : (zs : List ℕ) → zs ++ [] ≡ zs
    no_more [] = refl
    no_more (z ∷ zs) = ap (λ x. z ∷ x) (no_more zs)
lines_join xs ys (inr h) (inr k) = inr (behind xs ys k)

all_lines : {X : Type 0} (f : X → List ℕ) → ((x : X) → IsLine (f x)) → (xs : List X) → AreLines (flat_map f xs)
all_lines f h [] = inl refl
all_lines f h (x ∷ xs) = lines_join (f x) (flat_map f xs) (inr (h x)) (all_lines f h xs)

-- ---- the last line

no_same : (m n : ℕ) → (m ≡ n → ⊥) → m ≡ n → ⊥
no_same m n f e = f e

none_left : {X : Type 0} (p : X → Bool) (xs : List X) → list_all p xs ≡ true → find (λ x. not (p x)) xs ≡ None
none_left p [] h = refl
none_left p (x ∷ xs) h = by_test (p x) h (none_left p xs)
  where
    by_test : (b : Bool) → (b && list_all p xs) ≡ true → (list_all p xs ≡ true → find (λ y. not (p y)) xs ≡ None)
        → cond (not b) (Some x) (find (λ y. not (p y)) xs) ≡ None
    by_test true k ih = ih k
    by_test false k ih = cc

all_there : {X : Type 0} (p : X → Bool) (xs : List X) → find (λ x. not (p x)) xs ≡ None → list_all p xs ≡ true
all_there p [] h = refl
all_there p (x ∷ xs) h = by_test (p x) h (all_there p xs)
  where
    by_test : (b : Bool) → cond (not b) (Some x) (find (λ y. not (p y)) xs) ≡ None
        → (find (λ y. not (p y)) xs ≡ None → list_all p xs ≡ true) → (b && list_all p xs) ≡ true
    by_test true k ih = ih k
    by_test false k ih = cc

ends_so : (unverified : Bool) (o : Option Slot) → o ≡ None → not unverified ≡ true
    → gate_line unverified o ≡ codes "init may be signed" ++ newline
ends_so false None e h = refl
ends_so true None e h = cc
ends_so unverified (Some slot) e h = cc

so_ends : (unverified : Bool) (o : Option Slot) → gate_line unverified o ≡ codes "init may be signed" ++ newline
    → (o ≡ None) × (not unverified ≡ true)
so_ends false None h = (refl, refl)
so_ends true None h = absurd (no_same 32 10 (λ e. omega (arith, e)) (ap (λ (xs : List ℕ). slice_index xs 18) h))
so_ends unverified (Some slot) h = absurd (no_same 110 109 (λ e. omega (arith, e)) (ap (λ (xs : List ℕ). slice_index xs 5) h))

endorses : (verb : Verb) → is_endorsement verb ≡ true → verb ≡ verbs.Endorse
endorses verbs.Endorse h = refl
endorses verbs.Authorise h = cc
endorses verbs.Init h = cc

not_there : (b : Bool) → not b ≡ true → b ≡ false
not_there true h = cc
not_there false h = refl

last_line : (hash : List ℕ → List ℕ) (keys : Keys) (s : Instance) (given : List Signed) (unverified : Bool) (o : Option Slot)
    → first_unendorsed hash keys s given ≡ o → IsLastLine hash keys s given (gate_line unverified o)
last_line hash keys s given false None e = inl refl
last_line hash keys s given true None e = inr (inl refl)
last_line hash keys s given unverified (Some slot) e =
    let asked : Slot → Bool = λ x. is_endorsement x.verb in
    let r = found (λ x. not (has hash keys given x)) (endorsements hash keys s) slot e in
    let m = in_filter asked (slots hash keys s) slot r.0 in
    inr (inr (slot, contains_from_in (slots hash keys s) slot m.0, endorses slot.verb m.1, not_there (has hash keys given slot) r.1, refl))

pub ready_and_missing : ReadyAndMissing
ready_and_missing hash keys s given =
    let unverified = has_unverified hash keys s given in
    let first = first_unendorsed hash keys s given in
    let said : (slot : Slot) → IsLine (missing_line hash keys given slot) =
    λ slot. a_line ((if has hash keys given slot then codes "unverified" else codes "missing") ∷ slot_words slot) in
    let there = has hash keys given in
    let numbered : List Shown → List (List ℕ) = λ strings. codes "warnings" ∷ decimal (length (warnings hash keys s strings)) ∷ [] in
    record {
      last = gate_line unverified first;
      line = last_line hash keys s given unverified first refl;
      ready = λ strings.
          let warned : AreLines (warn_text hash keys s strings) =
          inr (behind (flat_map (λ line. line) (warnings hash keys s strings)) (line_of (numbered strings)) (a_line (numbered strings))) in (
            warn_text hash keys s strings ++ unverified_text hash keys s given,
            lines_join (warn_text hash keys s strings) (unverified_text hash keys s given) warned
                (all_lines (missing_line hash keys given) said (filter (is_unverified_endorsement hash keys given) (slots hash keys s))),
            sym (append_assoc (warn_text hash keys s strings) (unverified_text hash keys s given) (gate_line unverified first)),
          );
      missing = (
        flat_map (missing_line hash keys given) (unsettled hash keys s given),
        all_lines (missing_line hash keys given) said (unsettled hash keys s given),
        refl,
      );
      exactly = (
        λ h.
            let p = and_parts (may_start hash keys s given) (not unverified) h in
            ends_so unverified first (none_left there (endorsements hash keys s) p.0) p.1,
        λ h.
            let p = so_ends unverified first h in
            and_from (may_start hash keys s given) (not unverified) (all_there there (endorsements hash keys s) p.0) p.1,
      );
    }

-- ---- endorsements

among_filtered : {X : Type 0} (p : X → Bool) (xs : List X) → AreAmong (filter p xs) xs
among_filtered p [] = tt
among_filtered {X} p (x ∷ xs) = by_test (p x) (filter p xs) (among_filtered p xs)
  where
    later : (ys : List X) → AreAmong ys xs → AreAmong ys (x ∷ xs)
    later [] h = tt
    later (y ∷ ys) h = inr h

    by_test : (b : Bool) (ys : List X) → AreAmong ys xs → AreAmong (if b then x ∷ ys else ys) (x ∷ xs)
    by_test true ys h = inl (refl, h)
    by_test false ys h = later ys h

any_is : {X : Type 0} (p : X → Bool) (xs : List X) → list_any p xs ≡ true → (x : X) × Is_in x xs × (p x ≡ true)
any_is p [] k = cc
any_is {X} p (y ∷ ys) k = by_test (p y) refl k (any_is p ys)
  where
    by_test : (b : Bool) → p y ≡ b → (b || list_any p ys) ≡ true → (list_any p ys ≡ true → (z : X) × Is_in z ys × (p z ≡ true))
        → (z : X) × Is_in z (y ∷ ys) × (p z ≡ true)
    by_test true e m ih = (y, inl refl, e)
    by_test false e m ih = let r = ih m in (r.0, inr r.1, r.2)

is_any : {X : Type 0} (p : X → Bool) (xs : List X) (x : X) → Is_in x xs → p x ≡ true → list_any p xs ≡ true
is_any p [] x i h = absurd i
is_any p (y ∷ ys) x (inl e) h = ap (λ (b : Bool). b || list_any p ys) (ap p (sym e) ∙ h)
is_any p (y ∷ ys) x (inr i) h = by_test (p y) (is_any p ys x i h)
  where
    by_test : (b : Bool) → list_any p ys ≡ true → (b || list_any p ys) ≡ true
    by_test true k = refl
    by_test false k = k

-- all signatures of the initial transaction are for the start
starts : (keys : Keys) (advert : Advert) (l : Listed) (k : ℕ) (spends : List Spent) (signers : List (List Label)) (slot : Slot)
    → l.which ≡ names.Init → Is_in slot (slots_from keys advert l k spends signers) → slot.verb ≡ verbs.Init
starts keys advert l k [] signers slot e h = absurd h
starts keys advert l k (spent ∷ spends) [] slot e h = absurd h
starts keys advert l k (spent ∷ spends) (labels ∷ signers) slot e h =
    elim (in_append slot (input_slots keys advert l k spent labels) (slots_from keys advert l (k + 1) spends signers) h) [
      | inl a ↦
          (let r = in_map (input_slot keys advert l k spent) labels slot a in
          ap (λ (x : Slot). x.verb) r.2 ∙ ap (λ (w : Which). verb_of advert w r.0) e)
      | inr b ↦ starts keys advert l (k + 1) spends signers slot e b
    ]

pub parties_endorse : PartiesEndorse
parties_endorse hash keys s party =
    let all = listed hash keys s in
    let asked = is_endorsed_by keys s.advert party in
    record {
      these = filter asked all;
      text = refl;
      order = among_filtered asked all;
      exactly = λ l. (
        λ h.
            let r = in_filter asked all l (in_from_contains (filter asked all) l h) in
            (contains_from_in all l r.0, asks l r.1),
        λ h. contains_from_in (filter asked all) l (filter_has asked all l (in_from_contains all l h.0) (is_asked l h.1)),
      );
      never = λ l e h.
          let r = in_filter asked all l (in_from_contains (filter asked all) l h) in
          let q = asks l r.1 in
          let start = starts keys s.advert l 0 l.pending.spends l.signers (q.0) e (in_from_contains (listed_slots keys s.advert l) (q.0) q.1) in
          let bad : true ≡ false = ap is_endorsement (sym q.2 ∙ start) in
          cc;
    }
  where
    asks : (l : Listed) → is_endorsed_by keys s.advert party l ≡ true → IsEndorsedBy keys s party l
    asks l h =
        let r = any_is (is_endorsement_by party) (listed_slots keys s.advert l) h in
        let slot = r.0 in
        let p = and_parts (is_endorsement slot.verb) (bytes_eq (label_party slot.label) party) r.2 in
        (slot, contains_from_in (listed_slots keys s.advert l) slot r.1, endorses slot.verb p.0, bytes-true (label_party slot.label) party p.1)

    is_asked : (l : Listed) → IsEndorsedBy keys s party l → is_endorsed_by keys s.advert party l ≡ true
    is_asked l h =
        let slot = h.0 in
        is_any (is_endorsement_by party) (listed_slots keys s.advert l) slot (in_from_contains (listed_slots keys s.advert l) slot h.1)
        (and_from (is_endorsement slot.verb) (bytes_eq (label_party slot.label) party) (ap is_endorsement h.2)
        (subst (λ x. bytes_eq (label_party slot.label) x ≡ true) h.3 (bytes_refl (label_party slot.label))))
