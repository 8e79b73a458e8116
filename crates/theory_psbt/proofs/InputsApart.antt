-- Inputs are apart where they test so: both have a record of one key, with different values.
use Rattle.std.proofs.Common.{◌≡◌, ℕ, List, [], ◌∷◌, Bool, true, false, not, Option, Some, None, refl, sym, ap, subst, ◌∙◌}
use Rattle.std.specs.Prelude.{◌||◌, if◌then◌else◌, IfSome}
use Rattle.std.specs.Cmp.Lexicographic.{pointwise}
use Rattle.std.specs.Option.{option_map, option_or}
use Rattle.std.specs.Str.{bytes_eq}
use Rattle.spec_data.specs.Lists.{look_up}
use Rattle.spec_bitcoin.specs.Spelling.{output_bytes, witness_bytes, IsOutput}
use Rattle.spec_run.specs.Ledger.{same_output}
use Rattle.spec_tool.specs.declared.psbt.PsbtInput.{PsbtInput}
use Rattle.spec_tool.specs.Psbt.{all_type, output_of, witness_of}
use Rattle.spec_tool.specs.PsbtBytes.{input_records, are_at_odds, signatures_differ, inputs_differ, input_joined}
use Rattle.theory_text.proofs.ListFacts.{or_left, or_right}
use Rattle.theory_text.proofs.Options.{some, some_is, none_some}
use Rattle.theory_psbt.specs.Fitting.{IsStack, IsKnown}
use Rattle.theory_psbt.specs.Joined.{AreApart, HasBoth}
use Rattle.theory_psbt.proofs.Kept.{signs_ascend}
use Rattle.theory_psbt.proofs.PartBytes.{output_again, witness_again}
use Rattle.theory_psbt.proofs.Records.{Part_of, spent, signature, all, script, witness, foreign, part_of, found_spent, found_signature, found_all, found_script, found_witness, found_none}
use Rattle.theory_psbt.proofs.SameTx.{IsTest, of_bytes, of_lists, of_outputs}
use Rattle.theory_psbt.proofs.Signatures.{differ_both_ways, joined_both_ways, differ_apart, agree, joined_found}

-- ---- two values that may be there

same_truth : (a b : Bool) → (a ≡ true → b ≡ true) → (b ≡ true → a ≡ true) → a ≡ b
same_truth true true f g = refl
same_truth true false f g = sym (f refl)
same_truth false true f g = g refl
same_truth false false f g = refl

test_back : {A : Type 0} (f : A → A → Bool) → IsTest f → (x y : A) → f x y ≡ f y x
test_back {A} f t x y =
    same_truth _ _ (λ h. let e = t.yes x y h in subst (λ (z : A). f z x ≡ true) e (t.own x))
    (λ h. let e = t.yes y x h in subst (λ (z : A). f z y ≡ true) e (t.own y))

odds_back : {A : Type 0} (f : A → A → Bool) → IsTest f → (o q : Option A) → are_at_odds f o q ≡ are_at_odds f q o
odds_back f t (Some x) (Some y) = ap not (test_back f t x y)
odds_back f t (Some x) None = refl
odds_back f t None (Some y) = refl
odds_back f t None None = refl

-- where they aren't at odds, it is all the same which comes first
or_back : {A : Type 0} (f : A → A → Bool) → IsTest f → (o q : Option A) → are_at_odds f o q ≡ false → option_or o q ≡ option_or q o
or_back {A} f t (Some x) (Some y) h = by_test (f x y) refl h
  where
    by_test : (b : Bool) → f x y ≡ b → not b ≡ false → some x ≡ some y
    by_test true e n = ap (λ (z : A). some z) (t.yes x y e)
    by_test false e n = absurd cc
or_back f t (Some x) None h = refl
or_back f t None (Some y) h = refl
or_back f t None None h = refl

-- both are there and differ
record Both {A : Type 0} (o q : Option A) : Type 0 where
  one : A
  other : A
  here : o ≡ some one
  there : q ≡ some other
  differ : one ≡ other → ⊥

odds_both : {A : Type 0} (f : A → A → Bool) → IsTest f → (o q : Option A) → are_at_odds f o q ≡ true → Both o q
odds_both {A} f t (Some x) (Some y) h = record {
  one = x;
  other = y;
  here = refl;
  there = refl;
  differ = λ e. let own : f x y ≡ true = subst (λ (z : A). f x z ≡ true) e (t.own x) in absurd cc;
}
odds_both f t (Some x) None h = absurd cc
odds_both f t None q h = absurd cc

calm_same : {A : Type 0} (f : A → A → Bool) → IsTest f → (o q : Option A) (x y : A) → are_at_odds f o q ≡ false → o ≡ some x → q ≡ some y → x ≡ y
calm_same f t (Some v) (Some w) x y h e g = sym (some_is v x e) ∙ by_test (f v w) refl h ∙ some_is w y g
  where
    by_test : (b : Bool) → f v w ≡ b → not b ≡ false → v ≡ w
    by_test true e n = t.yes v w e
    by_test false e n = absurd cc
calm_same f t (Some v) None x y h e g = absurd (none_some y g)
calm_same f t None q x y h e g = absurd (none_some x e)

-- ---- the parts of an input

abbrev output_odds : PsbtInput → PsbtInput → Bool
output_odds a b = are_at_odds same_output a.spent b.spent

abbrev script_odds : PsbtInput → PsbtInput → Bool
script_odds a b = are_at_odds bytes_eq a.script b.script

abbrev witness_odds : PsbtInput → PsbtInput → Bool
witness_odds a b = are_at_odds (pointwise bytes_eq) a.witness b.witness

-- none of the parts is at odds
pub record AreCalm (a b : PsbtInput) : Type 0 where
  pub spent : output_odds a b ≡ false
  pub signatures : signatures_differ a.partial b.partial ≡ false
  pub script : script_odds a b ≡ false
  pub witness : witness_odds a b ≡ false

pub are_calm : (a b : PsbtInput) → inputs_differ a b ≡ false → AreCalm a b
are_calm a b h =
    let later = or_right (output_odds a b) _ h in
    let last = or_right (signatures_differ a.partial b.partial) _ later in
    record {
      spent = or_left (output_odds a b) _ h;
      signatures = or_left (signatures_differ a.partial b.partial) _ later;
      script = or_left
          (script_odds a b) _ last;
      witness = or_right (script_odds a b) _ last;
    }

pub differ_back : (a b : PsbtInput) → signs_ascend a ≡ true → signs_ascend b ≡ true → inputs_differ a b ≡ inputs_differ b a
differ_back a b h k =
    let e1 = odds_back same_output of_outputs a.spent b.spent in
    let e2 = differ_both_ways a.partial b.partial h k in
    let e3 = odds_back bytes_eq of_bytes a.script b.script in
    let e4 = odds_back (pointwise bytes_eq) (of_lists bytes_eq of_bytes) a.witness b.witness in
    λ i. e1 i || (e2 i || (e3 i || e4 i))

either_all : (a b : Bool) → (a || b) ≡ (b || a)
either_all true true = refl
either_all true false = refl
either_all false true = refl
either_all false false = refl

pub joined_back : (a b : PsbtInput) → signs_ascend a ≡ true → signs_ascend b ≡ true → inputs_differ a b ≡ false → input_joined a b ≡ input_joined b a
joined_back a b h k calm =
    let c = are_calm a b calm in
    let spent = or_back same_output of_outputs a.spent b.spent c.spent in
    let partial = joined_both_ways a.partial b.partial h k c.signatures in
    let all = either_all a.all b.all in
    let script = or_back bytes_eq of_bytes a.script b.script c.script in
    let witness = or_back (pointwise bytes_eq) (of_lists bytes_eq of_bytes) a.witness b.witness c.witness in
    λ i. record { spent = spent i; partial = partial i; all = all i; script = script i; witness = witness i }

-- ---- records of one key with different values

-- what is spelled the same is the same
spelled_once : {A : Type 0} (spell : A → List ℕ) (read : List ℕ → Option A) (x y : A) → read (spell x) ≡ some x → read (spell y) ≡ some y
    → spell x ≡ spell y → x ≡ y
spelled_once spell read x y h k e = some_is x y (sym h ∙ ap read e ∙ k)

of_some : {A : Type 0} (Fits : A → Type 0) (o : Option A) (x : A) → o ≡ some x → IfSome o Fits → Fits x
of_some Fits (Some v) x e h = subst Fits (some_is v x e) h
of_some Fits None x e h = absurd (none_some x e)

part_apart : {A : Type 0} (key : List ℕ) (spell : A → List ℕ) (read : List ℕ → Option A) (Fits : A → Type 0) (a b : PsbtInput) (o q : Option A)
    → look_up key (input_records a) ≡ option_map spell o → look_up key (input_records b) ≡ option_map spell q
    → ((x : A) → Fits x → read (spell x) ≡ some x) → IfSome o Fits → IfSome q Fits → Both o q → AreApart a b
part_apart {A} key spell read Fits a b o q ea eb again h k both = record {
  key = key;
  one = spell both.one;
  other = spell both.other;
  here = ea ∙ ap (λ (z : Option A). option_map spell z) both.here;
  there = eb ∙ ap (λ (z : Option A). option_map spell z) both.there;
  differ = λ e. both.differ (spelled_once spell read both.one both.other (again both.one (of_some Fits o both.one both.here h))
      (again both.other (of_some Fits q both.other both.there k)) e);
}

script_apart : (a b : PsbtInput) → Both a.script b.script → AreApart a b
script_apart a b both =
    record { key = 5 ∷ []; one = both.one; other = both.other; here = found_script a ∙ both.here; there = found_script b ∙ both.there; differ = both.differ }

pub differ_are_apart : (a b : PsbtInput) → IsKnown a → IsKnown b → signs_ascend a ≡ true → inputs_differ a b ≡ true → AreApart a b
differ_are_apart a b h k asc d = by_spent (output_odds a b) refl (signatures_differ a.partial b.partial) refl (script_odds a b) refl d
  where
    by_spent : (p : Bool) → output_odds a b ≡ p → (q : Bool) → signatures_differ a.partial b.partial ≡ q → (r : Bool) → script_odds a b ≡ r
        → (p || (q || (r || witness_odds a b))) ≡ true → AreApart a b
    by_spent true e q f r g t = part_apart (1 ∷ []) output_bytes output_of IsOutput a b a.spent b.spent (found_spent a) (found_spent b)
        output_again h.spent k.spent (odds_both same_output of_outputs a.spent b.spent e)
    by_spent false e true f r g t =
        let s = differ_apart a.partial b.partial asc f in
        record {
          key = 2 ∷ s.key;
          one = s.one;
          other = s.other;
          here = found_signature s.key a ∙ s.in_here;
          there = found_signature s.key b
              ∙ s.in_there;
          differ = s.differ;
        }
    by_spent false e false f true g t = script_apart a b (odds_both bytes_eq of_bytes a.script b.script g)
    by_spent false e false f false g t =
        part_apart (8 ∷ []) witness_bytes witness_of IsStack a b a.witness b.witness (found_witness a) (found_witness b) witness_again
        h.witness k.witness (odds_both (pointwise bytes_eq) (of_lists bytes_eq of_bytes) a.witness b.witness t)

-- what is found of a part that isn't at odds is the same
calm_part : {A : Type 0} (f : A → A → Bool) → IsTest f → (spell : A → List ℕ) (o q : Option A) (v w : List ℕ) → are_at_odds f o q ≡ false
    → option_map spell o ≡ some v → option_map spell q ≡ some w → v ≡ w
calm_part f t spell (Some x) (Some y) v w h e g =
    sym (some_is (spell x) v e) ∙ ap spell (calm_same f t (Some x) (Some y) x y h refl refl) ∙ some_is (spell y) w g
calm_part f t spell (Some x) None v w h e g = absurd (none_some w g)
calm_part f t spell None q v w h e g = absurd (none_some v e)

calm_all : (a b : Bool) (v w : List ℕ) → (if a then Some all_type else None) ≡ some v → (if b then Some all_type else None) ≡ some w → v ≡ w
calm_all true true v w e g = sym (some_is all_type v e) ∙ some_is all_type w g
calm_all true false v w e g = absurd (none_some w g)
calm_all false b v w e g = absurd (none_some v e)

pub calm_not_apart : (a b : PsbtInput) → inputs_differ a b ≡ false → AreApart a b → ⊥
calm_not_apart a b calm apart = by_part (part_of apart.key)
  where
    here_at : (key : List ℕ) → key ≡ apart.key → look_up key (input_records a) ≡ some apart.one
    here_at key e = subst (λ (x : List ℕ). look_up x (input_records a) ≡ some apart.one) (sym e) apart.here

    there_at : (key : List ℕ) → key ≡ apart.key → look_up key (input_records b) ≡ some apart.other
    there_at key e = subst (λ (x : List ℕ). look_up x (input_records b) ≡ some apart.other) (sym e) apart.there

    by_part : Part_of apart.key → ⊥
    by_part (spent e) = apart.differ (calm_part same_output of_outputs output_bytes a.spent b.spent apart.one apart.other
        (are_calm a b calm).spent (sym (found_spent a) ∙ here_at (1 ∷ []) e) (sym (found_spent b) ∙ there_at (1 ∷ []) e))
    by_part (signature k e) = apart.differ (agree k a.partial b.partial apart.one apart.other (are_calm a b calm).signatures
        (sym (found_signature k a) ∙ here_at (2 ∷ k) e) (sym (found_signature k b) ∙ there_at (2 ∷ k) e))
    by_part (all e) =
        apart.differ (calm_all a.all b.all apart.one apart.other (sym (found_all a) ∙ here_at (3 ∷ []) e) (sym (found_all b) ∙ there_at (3 ∷ []) e))
    by_part (script e) = apart.differ (calm_same bytes_eq of_bytes a.script b.script apart.one apart.other (are_calm a b calm).script
        (sym (found_script a) ∙ here_at (5 ∷ []) e) (sym (found_script b) ∙ there_at (5 ∷ []) e))
    by_part (witness e) = apart.differ (calm_part (pointwise bytes_eq) (of_lists bytes_eq of_bytes) witness_bytes a.witness b.witness
        apart.one apart.other (are_calm a b calm).witness (sym (found_witness a) ∙ here_at (8 ∷ []) e) (sym (found_witness b) ∙ there_at (8 ∷ []) e))
    by_part (foreign f) = none_some apart.one (sym (found_none apart.key a f) ∙ apart.here)

-- ---- the records of both

map_or : {A : Type 0} (spell : A → List ℕ) (o q : Option A) → option_map spell (option_or o q) ≡ option_or (option_map spell o) (option_map spell q)
map_or spell (Some x) q = refl
map_or spell None q = refl

all_or : (a b : Bool) → (if a || b then Some all_type else None) ≡ option_or (if a then Some all_type else None) (if b then Some all_type else None)
all_or true b = refl
all_or false b = refl

abbrev Found_both : PsbtInput → PsbtInput → List ℕ → Type 0
Found_both a b key = look_up key (input_records (input_joined a b)) ≡ option_or (look_up key (input_records a)) (look_up key (input_records b))

pub has_both : (a b : PsbtInput) → HasBoth a b (input_joined a b)
has_both a b key = by_part (part_of key)
  where
    by_part : Part_of key → Found_both a b key
    by_part (spent e) = subst (Found_both a b) e (found_spent (input_joined a b) ∙ rw (found_spent a, found_spent b) (map_or output_bytes a.spent b.spent))
    by_part (signature k e) =
        subst (Found_both a b) e (found_signature k (input_joined a b) ∙ rw (found_signature k a, found_signature k b) (joined_found k a.partial b.partial))
    by_part (all e) = subst (Found_both a b) e (found_all (input_joined a b) ∙ rw (found_all a, found_all b) (all_or a.all b.all))
    by_part (script e) = subst (Found_both a b) e (found_script (input_joined a b) ∙ rw (found_script a, found_script b) refl)
    by_part (witness e) =
        subst (Found_both a b) e (found_witness (input_joined a b) ∙ rw (found_witness a, found_witness b) (map_or witness_bytes a.witness b.witness))
    by_part (foreign f) = found_none key (input_joined a b) f ∙ rw (found_none key a f, found_none key b f) refl
