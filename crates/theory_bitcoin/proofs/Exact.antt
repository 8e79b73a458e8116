-- A reader is exact for a language: what it takes is spelled, what is spelled is taken whatever follows,
-- and where it stops the bytes so far begin a text, and the next byte goes on with none.
use Rattle.std.proofs.Common.{◌≡◌, ℕ, zero, suc, ◌+◌, ◌-◌, ◌<◌, ◌≤◌, Bool, true, false, cond, not, ⊎_elim, List, [], ◌∷◌, ◌++◌, length, take, drop, replicate, ltb, Result, Ok, Err, refl, sym, ap, subst, ◌∙◌, append_assoc, arith, inl, inr, ◌⊎◌}
use Rattle.std.proofs.lemmas.List.{append-nil, get_or-append-add, length-append, length-take, length-replicate, get_or-take, get_or_past, get_or-replicate, take_at, drop_at, take-append-drop}
use Rattle.std.proofs.lemmas.Bool.{cases_lt, ltb-false, ltb-true, le-ltb}
use Rattle.spec_bitcoin.specs.Spelling.{IsBytes}
use Rattle.spec_data.proofs.ByteLemmas.{IsBytes-append}
use Rattle.spec_bitcoin.specs.Reading.{◌>>=◌, byte_where, choose, chunk, many}
use Rattle.theory_bitcoin.proofs.Languages.{Taken, Some_text, Seq, Nothing, cuts}

pub IsBytes-back : (a b : List ℕ) → IsBytes (a ++ b) → IsBytes b
IsBytes-back a b h i = subst (λ (n : ℕ). n < 256) (get_or-append-add a b i 0) (h (length a + i))

pub bytes_none : IsBytes []
bytes_none i = omega arith

pub bytes_cons : (b : ℕ) (bytes : List ℕ) → b < 256 → IsBytes bytes → IsBytes (b ∷ bytes)
bytes_cons b bytes h t zero = h
bytes_cons b bytes h t (suc i) = t i

-- reading stopped before the rest
pub record Stopped {A : Type 0} (L : List ℕ → A → Type 0) (bytes : List ℕ) (left : ℕ) : Type 0 where
  pub prefix : List ℕ
  pub rest : List ℕ
  pub parts : bytes ≡ prefix ++ rest
  pub left_is : length rest ≡ left
  pub more : List ℕ
  pub value : A
  pub begins : L (prefix ++ more) value
  pub stops : (c : ℕ) (after further : List ℕ) (a : A) → rest ≡ c ∷ after → L (prefix ++ c ∷ further) a → ⊥

pub record Exact {A : Type 0} (L : List ℕ → A → Type 0) (read : List ℕ → Result (A × List ℕ) ℕ) : Type 0 where
  pub some : Some_text L
  pub again : (text rest : List ℕ) (a : A) → L text a → read (text ++ rest) ≡ Ok (a, rest)
  pub takes : (bytes : List ℕ) (a : A) (rest : List ℕ) → IsBytes bytes → read bytes ≡ Ok (a, rest) → Taken L bytes a rest
  pub fails : (bytes : List ℕ) (left : ℕ) → IsBytes bytes → read bytes ≡ Err left → Stopped L bytes left

-- ---- two parts

abbrev pub done : {A : Type 0} → A → Result A ℕ
done x = Ok x

pub ok_is : {A : Type 0} (x y : A) → done x ≡ done y → x ≡ y
ok_is x y e = cc

-- what a reader answers on equal bytes
pub same_answer : {A : Type 0} (L : List ℕ → A → Type 0) (read : List ℕ → Result (A × List ℕ) ℕ) → Exact L read
    → (t1 x t2 y : List ℕ) (a b : A) → L t1 a → L t2 b → t1 ++ x ≡ t2 ++ y → (a ≡ b) × (x ≡ y)
same_answer L read f t1 x t2 y a b la lb e =
    let p : (a, x) ≡ (b, y) = ok_is (a, x) (b, y) (sym (f.again t1 x a la) ∙ ap read e ∙ f.again t2 y b lb) in
    (ap (λ (q : _ × List ℕ). q.0) p, ap (λ (q : _ × List ℕ). q.1) p)

-- a longer first part begins with the next byte
goes_on : {A : Type 0} (F : List ℕ → A → Type 0) (prefix y : List ℕ) (c : ℕ) (further first second : List ℕ) (value : A) (m : List ℕ)
    → first ≡ prefix ++ m → y ≡ m ++ second → y ≡ c ∷ further → F first value
    → ((n : List ℕ) → prefix ≡ first ++ n → ⊥) → ((l : List ℕ) → F (prefix ++ c ∷ l) value → ⊥) → ⊥
goes_on F prefix y c further first second value [] e1 e2 e3 l whole stops = whole [] (sym (append-nil prefix) ∙ sym e1 ∙ sym (append-nil first))
goes_on F prefix y c further first second value (b ∷ m) e1 e2 e3 l whole stops =
    let heads : b ≡ c = cc in
    let is : first ≡ prefix ++ c ∷ m = e1 ∙ ap (λ (z : ℕ). prefix ++ z ∷ m) heads in
    stops m (subst (λ (t : List ℕ). F t value) is l)

bind_again : {A C : Type 0} (F : List ℕ → A → Type 0) (K : A → List ℕ → C → Type 0) (f : List ℕ → Result (A × List ℕ) ℕ)
    (k : A → List ℕ → Result (C × List ℕ) ℕ)
    → Exact F f → ((a : A) (t : List ℕ) → F t a → Exact (K a) (k a)) → (text rest : List ℕ) (c : C) → Seq F K text c
    → (f (text ++ rest) >>= λ x. k x.0 x.1) ≡ Ok (c, rest)
bind_again F K f k ef ek text rest c s =
    let one : text ++ rest ≡ s.first ++ (s.second ++ rest) = ap (λ (t : List ℕ). t ++ rest) s.parts ∙ append_assoc s.first s.second rest in
    let two : f (text ++ rest) ≡ Ok (s.value, s.second ++ rest) = ap f one ∙ ef.again s.first (s.second ++ rest) s.value s.prefix in
    rw two ((ek s.value s.first s.prefix).again s.second rest c s.back)

bind_takes : {A C : Type 0} (F : List ℕ → A → Type 0) (K : A → List ℕ → C → Type 0) (f : List ℕ → Result (A × List ℕ) ℕ)
    (k : A → List ℕ → Result (C × List ℕ) ℕ)
    → Exact F f → ((a : A) (t : List ℕ) → F t a → Exact (K a) (k a)) → (bytes : List ℕ) (c : C) (rest : List ℕ) → IsBytes bytes
    → (r : Result (A × List ℕ) ℕ) → f bytes ≡ r → (r >>= λ x. k x.0 x.1) ≡ Ok (c, rest) → Taken (Seq F K) bytes c rest
bind_takes F K f k ef ek bytes c rest fits (Ok x) is e =
    let t = ef.takes bytes x.0 x.1 fits is in
    let fits' : IsBytes x.1 = IsBytes-back t.text x.1 (subst IsBytes t.parts fits) in
    let u = (ek x.0 t.text t.spelled).takes x.1 c rest fits' e in
    record {
      text = t.text ++ u.text;
      parts = t.parts ∙ ap (λ (l : List ℕ). t.text ++ l) u.parts ∙ sym (append_assoc t.text u.text rest);
      spelled = record { first = t.text; second = u.text; value = x.0; parts = refl; prefix = t.spelled; back = u.spelled };
    }
bind_takes F K f k ef ek bytes c rest fits (Err d) is e = absurd cc

-- where the first part stopped: a text of both that goes on there has its first part whole before that place, or goes on in it
prefix_stops : {A C : Type 0} (F : List ℕ → A → Type 0) (K : A → List ℕ → C → Type 0) (f : List ℕ → Result (A × List ℕ) ℕ)
    → Exact F f → (bytes : List ℕ) (left : ℕ) → f bytes ≡ Err left → (s : Stopped F bytes left)
    → (c : ℕ) (after further : List ℕ) (v : C) → s.rest ≡ c ∷ after → Seq F K (s.prefix ++ c ∷ further) v → ⊥
prefix_stops F K f ef bytes left is s c after further v at q =
    let whole : (m : List ℕ) → s.prefix ≡ q.first ++ m → ⊥ = λ (m : List ℕ) (h : s.prefix ≡ q.first ++ m).
    let one : bytes ≡ q.first ++ (m ++ s.rest) = s.parts ∙ ap (λ (l : List ℕ). l ++ s.rest) h ∙ append_assoc q.first m s.rest in
    let two : f bytes ≡ Ok (q.value, m ++ s.rest) = ap f one ∙ ef.again q.first (m ++ s.rest) q.value q.prefix in
    absurd cc in
    elim (cuts s.prefix (c ∷ further) q.first q.second q.parts) [
      | inl w ↦ whole w.0 w.1
      | inr w ↦ goes_on F s.prefix (c ∷ further) c further q.first q.second q.value w.0 w.1 w.2 refl q.prefix whole
          (λ (l : List ℕ) (h : F (s.prefix ++ c ∷ l) q.value). s.stops c after l q.value at h)
    ]

bind_fails : {A C : Type 0} (F : List ℕ → A → Type 0) (K : A → List ℕ → C → Type 0) (f : List ℕ → Result (A × List ℕ) ℕ)
    (k : A → List ℕ → Result (C × List ℕ) ℕ)
    → Exact F f → ((a : A) (t : List ℕ) → F t a → Exact (K a) (k a)) → (bytes : List ℕ) (left : ℕ) → IsBytes bytes
    → (r : Result (A × List ℕ) ℕ) → f bytes ≡ r → (r >>= λ x. k x.0 x.1) ≡ Err left → Stopped (Seq F K) bytes left
bind_fails F K f k ef ek bytes left fits (Err d) is e =
    let same : d ≡ left = cc in
    let is' : f bytes ≡ Err left = cc in
    let s = ef.fails bytes left fits is' in
    let b = (ek s.value (s.prefix ++ s.more) s.begins).some in
    record {
      prefix = s.prefix;
      rest = s.rest;
      parts = s.parts;
      left_is = s.left_is;
      more = s.more ++ b.text;
      value = b.value;
      begins = record {
        first = s.prefix ++ s.more;
        second = b.text;
        value = s.value;
        parts = sym
            (append_assoc s.prefix s.more b.text);
        prefix = s.begins;
        back = b.spelled;
      };
      stops = prefix_stops F K f ef bytes left is' s;
    }
bind_fails F K f k ef ek bytes left fits (Ok x) is e =
    let t = ef.takes bytes x.0 x.1 fits is in
    let fits' : IsBytes x.1 = IsBytes-back t.text x.1 (subst IsBytes t.parts fits) in
    let s = (ek x.0 t.text t.spelled).fails x.1 left fits' e in
    record {
      prefix = t.text ++ s.prefix;
      rest = s.rest;
      parts = t.parts ∙ ap (λ (l : List ℕ). t.text ++ l) s.parts ∙ sym (append_assoc t.text s.prefix s.rest);
      left_is = s.left_is;
      more = s.more;
      value = s.value;
      begins =
          record { first = t.text; second = s.prefix ++ s.more; value = x.0; parts = append_assoc t.text s.prefix s.more; prefix = t.spelled; back = s.begins };
      stops = λ c after further v at q.
          let one : t.text ++ (s.prefix ++ c ∷ further) ≡ q.first ++ q.second = sym (append_assoc t.text s.prefix (c ∷ further)) ∙ q.parts in
          let same = same_answer F f ef t.text (s.prefix ++ c ∷ further) q.first q.second x.0 q.value t.spelled q.prefix one in
          let back : K x.0 (s.prefix ++ c ∷ further) v =
          subst (λ (a : _). K a (s.prefix ++ c ∷ further) v) (sym same.0) (subst (λ (l : List ℕ). K q.value l v) (sym same.1) q.back) in
          s.stops c after further v at back;
    }

pub bind : {A C : Type 0} (F : List ℕ → A → Type 0) (K : A → List ℕ → C → Type 0) (f : List ℕ → Result (A × List ℕ) ℕ) (k : A → List ℕ → Result (C × List ℕ) ℕ)
    → Exact F f → ((a : A) (t : List ℕ) → F t a → Exact (K a) (k a)) → Exact (Seq F K) (λ bytes. f bytes >>= λ x. k x.0 x.1)
bind F K f k ef ek = record {
  some = record {
    text = ef.some.text ++ (ek ef.some.value ef.some.text ef.some.spelled).some.text;
    value = (ek ef.some.value ef.some.text ef.some.spelled).some.value;
    spelled = record {
      first = ef.some.text;
      second = (ek ef.some.value ef.some.text
          ef.some.spelled).some.text;
      value = ef.some.value;
      parts = refl;
      prefix = ef.some.spelled;
      back = (ek ef.some.value ef.some.text
          ef.some.spelled).some.spelled;
    };
  };
  again = λ text rest c s. bind_again F K f k ef ek text rest c s;
  takes = λ bytes c rest fits e. bind_takes F K f k ef ek bytes c rest fits (f bytes) refl e;
  fails = λ bytes left fits e. bind_fails F K f k ef ek bytes left fits (f bytes) refl e;
}

-- ---- a value with no text

pub pure : {A : Type 0} (a : A) → Exact (Nothing a) (λ bytes. Ok (a, bytes))
pure a = record {
  some = record { text = []; value = a; spelled = record { empty = refl; same = refl } };
  again = λ text rest b l. rw (l.empty, l.same) refl;
  takes = λ bytes b rest fits e.
      let p : (a, bytes) ≡ (b, rest) = ok_is (a, bytes) (b, rest) e in
      record { text = []; parts = ap (λ (q : _ × List ℕ). q.1) p; spelled = record { empty = refl; same = ap (λ (q : _ × List ℕ). q.0) p } };
  fails = λ bytes left fits e. absurd cc;
}

-- ---- one byte that passes a test

pub record One (p : ℕ → Bool) (text : List ℕ) (b : ℕ) : Type 0 where
  pub single : text ≡ b ∷ []
  pub passes : p b ≡ true
  pub fits : b < 256

one_again : (p : ℕ → Bool) (text rest : List ℕ) (b : ℕ) → One p text b → byte_where p (text ++ rest) ≡ Ok (b, rest)
one_again p text rest b l = rw (l.single, l.passes) refl

cc_of : (x : ℕ) (bytes : List ℕ) (c : ℕ) (after further : List ℕ) (a : ℕ) → x ∷ bytes ≡ c ∷ after → c ∷ further ≡ a ∷ [] → x ≡ a
cc_of x bytes c after further a p q = cc

one_takes_at : (p : ℕ → Bool) (x : ℕ) (bytes : List ℕ) (b : ℕ) (rest : List ℕ) → x < 256 → (t : Bool) → p x ≡ t
    → cond {A = Result (ℕ × List ℕ) ℕ} t (Ok (x, bytes)) (Err (suc (length bytes))) ≡ Ok (b, rest) → Taken (One p) (x ∷ bytes) b rest
one_takes_at p x bytes b rest small true is e =
    let q : (x, bytes) ≡ (b, rest) = ok_is (x, bytes) (b, rest) e in
    let same : x ≡ b = ap (λ (z : ℕ × List ℕ). z.0) q in
    record {
      text = x ∷ [];
      parts = ap (λ (z : ℕ × List ℕ). x ∷ z.1)
          q;
      spelled = record { single = cc; passes = ap p (sym same) ∙ is; fits = omega (arith, same) };
    }
one_takes_at p x bytes b rest small false is e = absurd cc

one_fails_at : (p : ℕ → Bool) (w : ℕ) → p w ≡ true → w < 256 → (x : ℕ) (bytes : List ℕ) (left : ℕ) (t : Bool) → p x ≡ t
    → cond {A = Result (ℕ × List ℕ) ℕ} t (Ok (x, bytes)) (Err (suc (length bytes))) ≡ Err left → Stopped (One p) (x ∷ bytes) left
one_fails_at p w passes small x bytes left true is e = absurd cc
one_fails_at p w passes small x bytes left false is e = record {
  prefix = [];
  rest = x ∷ bytes;
  parts = refl;
  left_is = cc;
  more = w ∷ [];
  value = w;
  begins = record { single = refl; passes = passes; fits = small };
  stops = λ c after further a at l.
      let same : x ≡ a = cc_of x bytes c after further a at l.single in
      let no : p x ≡ true = ap p same ∙ l.passes in
      absurd cc;
}

one_takes : (p : ℕ → Bool) (bytes : List ℕ) (b : ℕ) (rest : List ℕ) → IsBytes bytes → byte_where p bytes ≡ Ok (b, rest) → Taken (One p) bytes b rest
one_takes p [] b rest fits e = absurd cc
one_takes p (x ∷ bytes) b rest fits e = one_takes_at p x bytes b rest (fits 0) (p x) refl e

one_fails : (p : ℕ → Bool) (w : ℕ) → p w ≡ true → w < 256 → (bytes : List ℕ) (left : ℕ) → byte_where p bytes ≡ Err left → Stopped (One p) bytes left
one_fails p w passes small [] left e = record {
  prefix = [];
  rest = [];
  parts = refl;
  left_is = cc;
  more = w ∷ [];
  value = w;
  begins = record { single = refl; passes = passes; fits = small };
  stops = λ c after further a at l. absurd cc;
}
one_fails p w passes small (x ∷ bytes) left e = one_fails_at p w passes small x bytes left (p x) refl e

pub one : (p : ℕ → Bool) (w : ℕ) → p w ≡ true → w < 256 → Exact (One p) (byte_where p)
one p w passes small = record {
  some = record { text = w ∷ []; value = w; spelled = record { single = refl; passes = passes; fits = small } };
  again = one_again p;
  takes = one_takes p;
  fails = λ bytes left fits e. one_fails p w passes small bytes left e;
}

-- ---- the same language said otherwise

pub transfer : {A : Type 0} (L M : List ℕ → A → Type 0) (read : List ℕ → Result (A × List ℕ) ℕ) → ((t : List ℕ) (a : A) → L t a → M t a)
    → ((t : List ℕ) (a : A) → M t a → L t a) → Exact L read → Exact M read
transfer L M read to from x = record {
  some = record { text = x.some.text; value = x.some.value; spelled = to x.some.text x.some.value x.some.spelled };
  again = λ text rest a m. x.again text rest a (from text a m);
  takes = λ bytes a rest fits e.
      let t = x.takes bytes a rest fits e in
      record { text = t.text; parts = t.parts; spelled = to t.text a t.spelled };
  fails = λ bytes left fits e.
      let s = x.fails bytes left fits e in
      record {
        prefix = s.prefix;
        rest = s.rest;
        parts = s.parts;
        left_is = s.left_is;
        more = s.more;
        value = s.value;
        begins = to (s.prefix ++ s.more) s.value s.begins;
        stops = λ c after further a at m. s.stops c after further a at (from (s.prefix ++ c ∷ further) a m);
      };
}

-- ---- a choice by the next byte

pub record Starts {A : Type 0} (p : ℕ → Bool) (v : Bool) (L : List ℕ → A → Type 0) : Type 0 where
  pub starts : (text : List ℕ) (a : A) → L text a → (b : ℕ) × (rest : List ℕ) × (text ≡ b ∷ rest) × (p b ≡ v)

pub ok_err : {A : Type 0} (x : A) (left : ℕ) → Err left ≡ done x → ⊥
ok_err x left e = absurd cc

abbrev pub failing : {A : Type 0} → ℕ → Result A ℕ
failing n = Err n

pub err_is : {A : Type 0} (m n : ℕ) → failing {A = A} m ≡ failing n → m ≡ n
err_is m n e = cc

pub chosen : {Z : Type 0} (b : Bool) (x y z : Z) → cond b x y ≡ z → ((b ≡ true) × (x ≡ z)) ⊎ ((b ≡ false) × (y ≡ z))
chosen true x y z e = inl (refl, e)
chosen false x y z e = inr (refl, e)

not_same : (b v : Bool) → b ≡ not v → b ≡ v → ⊥
not_same b true p q = absurd cc
not_same b false p q = absurd cc

nil_parts : (prefix rest : List ℕ) (c : ℕ) (after : List ℕ) → [] ≡ prefix ++ rest → rest ≡ c ∷ after → ⊥
nil_parts [] rest c after p q = absurd cc
nil_parts (x ∷ prefix) rest c after p q = absurd cc

choose_again : {A : Type 0} (p : ℕ → Bool) (L M : List ℕ → A → Type 0) (l m : List ℕ → Result (A × List ℕ) ℕ) → Starts p true L
    → Starts p false M → Exact L l → Exact M m
    → (text rest : List ℕ) (a : A) → L text a ⊎ M text a → choose p l m (text ++ rest) ≡ Ok (a, rest)
choose_again p L M l m sl sm el em text rest a (inl h) =
    let s = sl.starts text a h in
    let e : text ++ rest ≡ s.0 ∷ (s.1 ++ rest) = ap (λ (t : List ℕ). t ++ rest) s.2 in
    let again : l (s.0 ∷ (s.1 ++ rest)) ≡ Ok (a, rest) = ap l (sym e) ∙ el.again text rest a h in
    rw (e, s.3) again
choose_again p L M l m sl sm el em text rest a (inr h) =
    let s = sm.starts text a h in
    let e : text ++ rest ≡ s.0 ∷ (s.1 ++ rest) = ap (λ (t : List ℕ). t ++ rest) s.2 in
    let again : m (s.0 ∷ (s.1 ++ rest)) ≡ Ok (a, rest) = ap m (sym e) ∙ em.again text rest a h in
    rw (e, s.3) again

take_left : {A : Type 0} (L M : List ℕ → A → Type 0) (bytes : List ℕ) (a : A) (rest : List ℕ) → Taken L bytes a rest → Taken (λ t v. L t v ⊎ M t v) bytes a rest
take_left L M bytes a rest t = record { text = t.text; parts = t.parts; spelled = inl t.spelled }

take_right : {A : Type 0} (L M : List ℕ → A → Type 0) (bytes : List ℕ) (a : A) (rest : List ℕ) → Taken M bytes a rest
    → Taken (λ t v. L t v ⊎ M t v) bytes a rest
take_right L M bytes a rest t = record { text = t.text; parts = t.parts; spelled = inr t.spelled }

-- a text of a language whose texts start otherwise
not_starting : {A : Type 0} (p : ℕ → Bool) (v : Bool) (L : List ℕ → A → Type 0) (b : ℕ) (prefix rest : List ℕ) (c : ℕ)
    (after further bytes : List ℕ) (a : A) → Starts p v L → p b ≡ not v → b ∷ bytes ≡ prefix ++ rest → rest ≡ c ∷ after → L (prefix ++ c ∷ further) a → ⊥
not_starting p v L b [] rest c after further bytes a s other parts at h =
    let w = s.starts (c ∷ further) a h in
    let same : b ≡ w.0 = cc in
    not_same (p b) v other (ap p same ∙ w.3)
not_starting p v L b (x ∷ prefix) rest c after further bytes a s other parts at h =
    let w = s.starts (x ∷ (prefix ++ c ∷ further)) a h in
    let same : b ≡ w.0 = cc in
    not_same (p b) v other (ap p same ∙ w.3)

choose_takes : {A : Type 0} (p : ℕ → Bool) (L M : List ℕ → A → Type 0) (l m : List ℕ → Result (A × List ℕ) ℕ) → Exact L l → Exact M m
    → (bytes : List ℕ) (a : A) (rest : List ℕ) → IsBytes bytes → choose p l m bytes ≡ Ok (a, rest) → Taken (λ t v. L t v ⊎ M t v) bytes a rest
choose_takes p L M l m el em [] a rest fits e = take_right L M [] a rest (em.takes [] a rest fits e)
choose_takes p L M l m el em (b ∷ bytes) a rest fits e =
    elim (chosen (p b) (l (b ∷ bytes)) (m (b ∷ bytes)) (Ok (a, rest)) e) [
      | inl w ↦ take_left L M (b ∷ bytes) a rest (el.takes (b ∷ bytes) a rest fits w.1)
      | inr w ↦ take_right L M (b ∷ bytes) a rest (em.takes (b ∷ bytes) a rest fits w.1)
    ]

stop_left : {A : Type 0} (p : ℕ → Bool) (L M : List ℕ → A → Type 0) (b : ℕ) (bytes : List ℕ) (left : ℕ) → Starts p false M → p b ≡ true
    → Stopped L (b ∷ bytes) left → Stopped (λ t v. L t v ⊎ M t v) (b ∷ bytes) left
stop_left p L M b bytes left sm is s = record {
  prefix = s.prefix;
  rest = s.rest;
  parts = s.parts;
  left_is = s.left_is;
  more = s.more;
  value = s.value;
  begins = inl s.begins;
  stops = λ c after further a at h. ⊎_elim (λ (x : L (s.prefix ++ c ∷ further) a). s.stops c after further a at x)
      (λ (x : M (s.prefix ++ c ∷ further) a). not_starting p false M b s.prefix s.rest c after further bytes a sm is s.parts at x) h;
}

stop_right : {A : Type 0} (p : ℕ → Bool) (L M : List ℕ → A → Type 0) (b : ℕ) (bytes : List ℕ) (left : ℕ) → Starts p true L → p b ≡ false
    → Stopped M (b ∷ bytes) left → Stopped (λ t v. L t v ⊎ M t v) (b ∷ bytes) left
stop_right p L M b bytes left sl is s = record {
  prefix = s.prefix;
  rest = s.rest;
  parts = s.parts;
  left_is = s.left_is;
  more = s.more;
  value = s.value;
  begins = inr s.begins;
  stops = λ c after further a at h. ⊎_elim
      (λ (x : L (s.prefix ++ c ∷ further) a). not_starting p true L b s.prefix s.rest c after further bytes a sl is s.parts at x)
      (λ (x : M (s.prefix ++ c ∷ further) a). s.stops c after further a at x) h;
}

-- nothing is left to stop at
stop_nil : {A : Type 0} (L M : List ℕ → A → Type 0) (left : ℕ) → Stopped M [] left → Stopped (λ t v. L t v ⊎ M t v) [] left
stop_nil L M left s = record {
  prefix = s.prefix;
  rest = s.rest;
  parts = s.parts;
  left_is = s.left_is;
  more = s.more;
  value = s.value;
  begins = inr s.begins;
  stops = λ c after further a at h. absurd (nil_parts s.prefix s.rest c after s.parts at);
}

choose_fails : {A : Type 0} (p : ℕ → Bool) (L M : List ℕ → A → Type 0) (l m : List ℕ → Result (A × List ℕ) ℕ) → Starts p true L
    → Starts p false M → Exact L l → Exact M m
    → (bytes : List ℕ) (left : ℕ) → IsBytes bytes → choose p l m bytes ≡ Err left → Stopped (λ t v. L t v ⊎ M t v) bytes left
choose_fails p L M l m sl sm el em [] left fits e = stop_nil L M left (em.fails [] left fits e)
choose_fails p L M l m sl sm el em (b ∷ bytes) left fits e =
    elim (chosen (p b) (l (b ∷ bytes)) (m (b ∷ bytes)) (Err left) e) [
      | inl w ↦ stop_left p L M b bytes left sm w.0 (el.fails (b ∷ bytes) left fits w.1)
      | inr w ↦ stop_right p L M b bytes left sl w.0 (em.fails (b ∷ bytes) left fits w.1)
    ]

pub either : {A : Type 0} (p : ℕ → Bool) (L M : List ℕ → A → Type 0) (l m : List ℕ → Result (A × List ℕ) ℕ) → Starts p true L
    → Starts p false M → Exact L l → Exact M m → Exact (λ t v. L t v ⊎ M t v) (choose p l m)
either p L M l m sl sm el em = record {
  some = record { text = em.some.text; value = em.some.value; spelled = inr em.some.spelled };
  again = choose_again p L M l m sl sm el em;
  takes = choose_takes p L M l m el em;
  fails = choose_fails p L M l m sl sm el em;
}

-- ---- so many bytes

pub record Chunk (k : ℕ) (text bytes : List ℕ) : Type 0 where
  pub same : text ≡ bytes
  pub len : length bytes ≡ k
  pub fits : IsBytes bytes

pub IsBytes-take : (n : ℕ) (bytes : List ℕ) → IsBytes bytes → IsBytes (take n bytes)
IsBytes-take n bytes h i =
    elim (cases_lt i n) [
      | inl lt ↦ rw (get_or-take n bytes i 0 lt) (h i)
      | inr le ↦ rw (get_or_past (take n bytes) i 0 (omega (arith, length-take n bytes))) (omega arith)
    ]

IsBytes-zeros : (n : ℕ) → IsBytes (replicate n 0)
IsBytes-zeros n i =
    elim (cases_lt i n) [
      | inl lt ↦ rw (get_or-replicate {A = ℕ} n i 0 0 lt) (omega arith)
      | inr le ↦ rw (get_or_past {X = ℕ} (replicate n 0) i 0 (omega (arith, length-replicate {A = ℕ} n 0))) (omega arith)
    ]

chunk_again : (k : ℕ) (text rest bytes : List ℕ) → Chunk k text bytes → chunk k (text ++ rest) ≡ Ok (bytes, rest)
chunk_again k text rest bytes l =
    let len : length text ≡ k = ap length l.same ∙ l.len in
    let long : ltb (length (text ++ rest)) k ≡ false = le-ltb _ _ (omega (arith, length-append text rest)) in
    rw (long, take_at text rest k len, drop_at text rest k len, l.same) refl

chunk_takes : (k : ℕ) (bytes a rest : List ℕ) → IsBytes bytes → chunk k bytes ≡ Ok (a, rest) → Taken (Chunk k) bytes a rest
chunk_takes k bytes a rest fits e =
    elim (chosen (ltb (length bytes) k) (Err 0) (Ok (take k bytes, drop k bytes)) (Ok (a, rest)) e) [
      | inl w ↦ absurd (ok_err (a, rest) 0 w.1)
      | inr w ↦
          let long : k ≤ length bytes = ltb-false _ _ w.0 in
          let q : (take k bytes, drop k bytes) ≡ (a, rest) = ok_is (take k bytes, drop k bytes) (a, rest) w.1 in
          let a-is : take k bytes ≡ a = ap (λ (z : List ℕ × List ℕ). z.0) q in
          let rest-is : drop k bytes ≡ rest = ap (λ (z : List ℕ × List ℕ). z.1) q in
          record {
            text = take k bytes;
            parts = rw (← rest-is) (sym (take-append-drop k bytes));
            spelled = record { same = a-is; len = rw (← a-is) (omega (arith, length-take k bytes)); fits = subst IsBytes a-is (IsBytes-take k bytes fits) };
          }
    ]

chunk_fails : (k : ℕ) (bytes : List ℕ) (left : ℕ) → IsBytes bytes → chunk k bytes ≡ Err left → Stopped (Chunk k) bytes left
chunk_fails k bytes left fits e =
    elim (chosen (ltb (length bytes) k) (Err 0) (Ok (take k bytes, drop k bytes)) (Err left) e) [
      | inl w ↦
          let short : length bytes < k = ltb-true _ _ w.0 in
          record {
            prefix = bytes;
            rest = [];
            parts = sym (append-nil bytes);
            left_is = err_is 0 left w.1;
            more = replicate (k - length bytes) 0;
            value = bytes ++ replicate (k - length bytes) 0;
            begins = record {
              same = refl;
              len = omega (
                arith,
                length-append bytes (replicate (k - length bytes) 0),
                length-replicate {A = ℕ} (k - length bytes)
                    0,
              );
              fits = IsBytes-append bytes (replicate (k - length bytes) 0) fits (IsBytes-zeros (k - length bytes));
            };
            stops = λ c after further a at l. absurd cc;
          }
      | inr w ↦ absurd (ok_err (take k bytes, drop k bytes) left (sym w.1))
    ]

pub a_chunk : (k : ℕ) → Exact (Chunk k) (chunk k)
a_chunk k = record {
  some = record { text = replicate k 0; value = replicate k 0; spelled = record { same = refl; len = length-replicate k 0; fits = IsBytes-zeros k } };
  again = λ text rest a l. chunk_again k text rest a l;
  takes = chunk_takes k;
  fails = chunk_fails k;
}

-- ---- so many values

unfoldable pub Many : {A : Type 0} → (List ℕ → A → Type 0) → ℕ → List ℕ → List A → Type 0
Many L zero = Nothing []
Many L (suc n) = Seq L (λ a. Seq (Many L n) (λ xs. Nothing (a ∷ xs)))

pub several : {A : Type 0} (L : List ℕ → A → Type 0) (read : List ℕ → Result (A × List ℕ) ℕ) → Exact L read → (n : ℕ) → Exact (Many L n) (many read n)
unfolding Many many
several L read x zero = pure []
several L read x (suc n) =
    bind L (λ a. Seq (Many L n) (λ xs. Nothing (a ∷ xs))) read (λ a bytes. many read n bytes >>= λ xs. Ok (a ∷ xs.0, xs.1)) x
    (λ a t l. bind (Many L n) (λ xs. Nothing (a ∷ xs)) (many read n) (λ xs bytes. Ok (a ∷ xs, bytes)) (several L read x n) (λ xs u m. pure (a ∷ xs)))

-- ---- the same reader said otherwise

pub same_reader : {A : Type 0} (L : List ℕ → A → Type 0) (r s : List ℕ → Result (A × List ℕ) ℕ) → ((bytes : List ℕ) → s bytes ≡ r bytes) → Exact L r → Exact L s
same_reader L r s same x = record {
  some = x.some;
  again = λ text rest a l. same (text ++ rest) ∙ x.again text rest a l;
  takes = λ bytes a rest fits e. x.takes bytes a rest fits (sym (same bytes) ∙ e);
  fails = λ bytes left fits e. x.fails bytes left fits (sym (same bytes) ∙ e);
}
