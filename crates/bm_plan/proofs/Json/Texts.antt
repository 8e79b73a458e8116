-- Arrays and objects of values whose texts are known.
use Rattle.std.proofs.Common.{◌≡◌, ℕ, List, [], ◌∷◌, ◌++◌, map, Bool, true, refl, sym, ap, ◌∙◌, append_assoc, codes}
use Rattle.std.specs.Prelude.{◌||◌}
use Rattle.std.specs.List.{flat_map}
use Rattle.json.specs.Print.{quoted}
use Rattle.serde_json.specs.Data.{Data, array, object, Members, no_members, member}
use Rattle.serde_json.specs.View.{items_of}
use Rattle.serde_json.specs.Written.{items_have_float, members_have_float, items_text, members_text}
use Rattle.spec_tool.specs.WeighText as weigh
use Rattle.bm_plan.specs.Seen.{seen, plain}

-- ---- pairs and lists

abbrev first_or : Bool × List ℕ → List (Bool × List ℕ) → Bool × List ℕ
first_or p [] = p
first_or p (x ∷ xs) = x

abbrev rest_of : List (Bool × List ℕ) → List (Bool × List ℕ)
rest_of [] = []
rest_of (x ∷ xs) = xs

-- ---- arrays

-- of elements after the first
later_items : (ds : List Data) (ts : List (List ℕ)) → map seen ds ≡ map plain ts
    → (items_have_float (items_of ds), items_text true (items_of ds)) ≡ plain (flat_map (λ t. codes "," ++ t) ts ++ codes "]")
unfolding seen
later_items [] [] h = refl
later_items [] (t ∷ ts) h = absurd cc
later_items (d ∷ ds) [] h = absurd cc
later_items (d ∷ ds) (t ∷ ts) h =
    let e : seen d ≡ plain t = ap (first_or (plain t)) h in
    let f = later_items ds ts (ap rest_of h) in
    (λ i. ((e i).0 || (f i).0, 44 ∷ ((e i).1 ++ (f i).1)))
    ∙ ap (λ (text : List ℕ). plain (44 ∷ text)) (sym (append_assoc t (flat_map (λ t. codes "," ++ t) ts) (codes "]")))

pub array_text : (ds : List Data) (ts : List (List ℕ)) → map seen ds ≡ map plain ts → seen (array (items_of ds)) ≡ plain (weigh.bracketed ts)
unfolding seen
array_text [] [] h = refl
array_text [] (t ∷ ts) h = absurd cc
array_text (d ∷ ds) [] h = absurd cc
array_text (d ∷ ds) (t ∷ ts) h =
    let e : seen d ≡ plain t = ap (first_or (plain t)) h in
    let f = later_items ds ts (ap rest_of h) in
    (λ i. ((e i).0 || (f i).0, 91 ∷ ((e i).1 ++ (f i).1)))
    ∙ ap (λ (text : List ℕ). plain (91 ∷ text)) (sym (append_assoc t (flat_map (λ t. codes "," ++ t) ts) (codes "]")))

-- ---- objects

-- the members have these keys, and values of these texts
abbrev pub SameMembers : Members → List (List ℕ × List ℕ) → Type 0
SameMembers no_members [] = Unit {0}
SameMembers (member k d ms) (m ∷ texts) = (quoted k ≡ weigh.quoted (m.0)) × (seen d ≡ plain (m.1)) × SameMembers ms texts
SameMembers _ _ = ⊥

one_member : (m : List ℕ × List ℕ) (more : List ℕ) → weigh.quoted (m.0) ++ 58 ∷ (m.1 ++ (more ++ codes "}")) ≡ (weigh.member m ++ more) ++ codes "}"
one_member m more = simp append_assoc refl

later_members : (ms : Members) (texts : List (List ℕ × List ℕ)) → SameMembers ms texts
    → (members_have_float ms, members_text true ms) ≡ plain (flat_map (λ m. codes "," ++ weigh.member m) texts ++ codes "}")
unfolding seen
later_members no_members [] h = refl
later_members no_members (m ∷ texts) h = absurd h
later_members (member k d ms) [] h = absurd h
later_members (member k d ms) (m ∷ texts) h =
    let a = h.0 in
    let e = h.1 in
    let f = later_members ms texts h.2 in
    let more = flat_map (λ (m : List ℕ × List ℕ). codes "," ++ weigh.member m) texts in
    (λ i. ((e i).0 || (f i).0, 44 ∷ (a i ++ 58 ∷ ((e i).1 ++ (f i).1))))
    ∙ ap (λ (text : List ℕ). plain (44 ∷ text)) (one_member m more)

pub object_text : (ms : Members) (texts : List (List ℕ × List ℕ)) → SameMembers ms texts → seen (object ms) ≡ plain (weigh.object texts)
unfolding seen
object_text no_members [] h = refl
object_text no_members (m ∷ texts) h = absurd h
object_text (member k d ms) [] h = absurd h
object_text (member k d ms) (m ∷ texts) h =
    let a = h.0 in
    let e = h.1 in
    let f = later_members ms texts h.2 in
    let more = flat_map (λ (m : List ℕ × List ℕ). codes "," ++ weigh.member m) texts in
    (λ i. ((e i).0 || (f i).0, 123 ∷ (a i ++ 58 ∷ ((e i).1 ++ (f i).1))))
    ∙ ap (λ (text : List ℕ). plain (123 ∷ text)) (one_member m more)
