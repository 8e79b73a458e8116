-- Witnesses are read exactly: as many as there are inputs, of which one has an item.
use Rattle.std.proofs.Common.{◌≡◌, ℕ, zero, suc, ◌<◌, ◌^◌, Bool, true, false, List, [], ◌∷◌, length, Ok, refl, sym, ap, subst, ◌∙◌, arith, lit<}
use Rattle.std.specs.Prelude.{◌||◌}
use Rattle.std.specs.List.{flat_map, AllByRecursion}
use Rattle.std.proofs.lemmas.List.Concat.{flat_map-cons}
use Rattle.std.proofs.lemmas.List.{append-nil}
use Rattle.spec_bitcoin.specs.Spelling.{compact, sized, witness_bytes, is_filled, IsString}
use Rattle.spec_bitcoin.specs.Reading.{◌>>=◌, many, any, not_zero, may_be, compact_at, string_at, witness_at, witnesses_at}
use Rattle.theory_bitcoin.proofs.Exact.{Exact, bind, pure}
use Rattle.theory_bitcoin.proofs.Formats.{Count, count, counted_some, not_zero_head, form_of}
use Rattle.theory_bitcoin.proofs.Parts.{Is, Are, the_many, the_string}
use Rattle.theory_bitcoin.proofs.Languages.{Seq, Nothing}

-- what has a spelling as a witness
pub record IsWitness (items : List (List ℕ)) : Type 0 where
  pub few : length items < 2 ^ 64
  pub each : AllByRecursion IsString items

-- ---- one witness

abbrev Items : ℕ → List ℕ → List (List ℕ) → Type 0
Items = Are sized IsString

-- a witness, the first byte of whose count passes the test
abbrev Stack : (ℕ → Bool) → List ℕ → List (List ℕ) → Type 0
Stack p = Seq (Count p) Items

a_stack : (p : ℕ → Bool) (w : ℕ) → p w ≡ true → w < 256 → Exact (Stack p) (witness_at p)
unfolding witness_at
a_stack p w passes small =
    bind (Count p) Items (compact_at p) (many string_at) (count p w passes small) (λ n t l. the_many sized IsString string_at the_string n)

a_next : (n : ℕ) (seen : Bool) → Exact (Stack (may_be n seen)) (witness_at (may_be n seen))
a_next n true = a_stack any 0 refl (lit< tt)
a_next zero false = a_stack not_zero 1 refl (lit< tt)
a_next (suc n) false = a_stack any 0 refl (lit< tt)

stack_to : (p : ℕ → Bool) (text : List ℕ) (w : List (List ℕ)) → Stack p text w → Is witness_bytes IsWitness text w
stack_to p text w s = record {
  same = s.parts ∙ rw (s.prefix.bytes, s.back.same, s.back.len) refl;
  fits = record { few = omega (arith, s.back.len, s.prefix.most); each = s.back.each };
}

stack_from : (p : ℕ → Bool) (w : List (List ℕ)) → IsWitness w → ((b : ℕ) (rest : List ℕ) → compact (length w) ≡ b ∷ rest → p b ≡ true)
    → Stack p (witness_bytes w) w
stack_from p w h passes = record {
  first = compact (length w);
  second = flat_map sized w;
  value = length w;
  parts = refl;
  prefix = record { bytes = refl; most = h.few; head = passes };
  back = record { same = refl; len = refl; each = h.each };
}

filled_some : (w : List (List ℕ)) → (is_filled w || false) ≡ true → 0 < length w
filled_some [] h = cc
filled_some (x ∷ w) h = omega arith

some_filled : (w : List (List ℕ)) → 0 < length w → is_filled w ≡ true
some_filled [] h = absurd (omega (arith, h))
some_filled (x ∷ w) h = refl

-- ---- all of them

unfoldable pub Stacks : ℕ → Bool → List ℕ → List (List (List ℕ)) → Type 0
Stacks zero seen = Nothing []
Stacks (suc n) seen = Seq (Stack (may_be n seen)) (λ w. Seq (Stacks n (seen || is_filled w)) (λ ws. Nothing (w ∷ ws)))

pub the_stacks : (n : ℕ) (seen : Bool) → Exact (Stacks n seen) (witnesses_at n seen)
unfolding Stacks witnesses_at
the_stacks zero seen = pure []
the_stacks (suc n) seen =
    bind (Stack (may_be n seen)) (λ w. Seq (Stacks n (seen || is_filled w)) (λ ws. Nothing (w ∷ ws))) (witness_at (may_be n seen))
    (λ w bytes. witnesses_at n (seen || is_filled w) bytes >>= λ ws. Ok (w ∷ ws.0, ws.1)) (a_next n seen)
    (λ w t l. bind (Stacks n (seen || is_filled w)) (λ ws. Nothing (w ∷ ws)) (witnesses_at n (seen || is_filled w))
    (λ ws bytes. Ok (w ∷ ws, bytes)) (the_stacks n (seen || is_filled w)) (λ ws u m. pure (w ∷ ws)))

-- ---- in the format's own words

pub stacks_to : (n : ℕ) (seen : Bool) (text : List ℕ) (ws : List (List (List ℕ))) → Stacks n seen text ws → Are witness_bytes IsWitness n text ws
unfolding Stacks
stacks_to zero seen text ws s = subst (Are witness_bytes IsWitness 0 text) s.same (record { same = s.empty; len = refl; each = tt })
stacks_to (suc n) seen text ws s =
    let one = stack_to (may_be n seen) s.first s.value s.prefix in
    let others = stacks_to n (seen || is_filled s.value) s.back.first s.back.value s.back.prefix in
    let is : text ≡ flat_map witness_bytes (s.value ∷ s.back.value) =
    s.parts ∙ rw
    (one.same, s.back.parts, others.same, s.back.back.empty, append-nil (flat_map witness_bytes s.back.value), flat_map-cons witness_bytes s.value s.back.value)
    refl in
    subst (Are witness_bytes IsWitness (suc n) text) s.back.back.same (record { same = is; len = ap suc others.len; each = (one.fits, others.each) })

abbrev pub any_filled : List (List (List ℕ)) → Bool
any_filled [] = false
any_filled (w ∷ ws) = is_filled w || any_filled ws

-- the last witness has an item, if none had before
last_filled : (text : List ℕ) (w : List (List ℕ)) → Stack not_zero text w → is_filled w ≡ true
last_filled text w s = some_filled w (counted_some s.value s.first s.prefix (length w) s.back.len)

-- one has an item
pub filled_by : (n : ℕ) (seen : Bool) (text : List ℕ) (ws : List (List (List ℕ))) → Stacks (suc n) seen text ws → (seen || any_filled ws) ≡ true
unfolding Stacks
filled_by zero true text ws s = refl
filled_by zero false text ws s = subst (λ (v : List (List (List ℕ))). any_filled v ≡ true) s.back.back.same (rw (last_filled s.first s.value s.prefix) refl)
filled_by (suc n) true text ws s = refl
filled_by (suc n) false text ws s =
    let others = filled_by n (is_filled s.value) s.back.first s.back.value s.back.prefix in
    subst (λ (v : List (List (List ℕ))). any_filled v ≡ true) s.back.back.same others

or_assoc : (a b c : Bool) → (a || (b || c)) ≡ ((a || b) || c)
or_assoc true b c = refl
or_assoc false b c = refl

-- the first byte of a witness's count, where some witness has an item
may_begin : (n : ℕ) (seen : Bool) (w : List (List ℕ)) (ws : List (List (List ℕ))) → length ws ≡ n → (seen || any_filled (w ∷ ws)) ≡ true
    → (b : ℕ) (rest : List ℕ) → compact (length w) ≡ b ∷ rest → may_be n seen b ≡ true
may_begin n true w ws len h b rest e = refl
may_begin zero false w [] len h b rest e = not_zero_head (length w) (filled_some w h) b rest (form_of (length w)) e
may_begin zero false w (x ∷ ws) len h b rest e = absurd (omega (arith, len))
may_begin (suc n) false w ws len h b rest e = refl

pub stacks_from : (n : ℕ) (seen : Bool) (ws : List (List (List ℕ))) → length ws ≡ n → AllByRecursion IsWitness ws → (seen || any_filled ws)
    ≡ true → Stacks n seen (flat_map witness_bytes ws) ws
unfolding Stacks
stacks_from zero seen [] len each h = record { empty = refl; same = refl }
stacks_from zero seen (w ∷ ws) len each h = absurd (omega (arith, len))
stacks_from (suc n) seen [] len each h = absurd (omega (arith, len))
stacks_from (suc n) seen (w ∷ ws) len each h =
    let fewer : length ws ≡ n = omega (arith, len) in
    record {
      first = witness_bytes w;
      second = flat_map witness_bytes ws;
      value = w;
      parts = flat_map-cons witness_bytes w ws;
      prefix = stack_from (may_be n seen) w each.0 (may_begin n seen w ws fewer h);
      back = record {
        first = flat_map witness_bytes ws;
        second = [];
        value = ws;
        parts = sym (append-nil (flat_map witness_bytes ws));
        prefix = stacks_from n (seen || is_filled w) ws fewer each.1 (sym (or_assoc seen (is_filled w) (any_filled ws)) ∙ h);
        back = record { empty = refl; same = refl };
      };
    }
