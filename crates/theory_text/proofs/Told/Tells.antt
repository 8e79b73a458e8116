-- What the answer of a reader tells of a language, and how readers in sequence compose.
use Rattle.std.proofs.Common.{◌≡◌, ℕ, suc, List, [], ◌∷◌, ◌++◌, length, Result, Ok, Err, refl, sym, ap, subst, ◌∙◌, append_assoc, inl, inr}
use Rattle.std.proofs.lemmas.List.{append-nil}
use Rattle.spec_text.specs.declared.stop.Stop.{Stop}
use Rattle.spec_text.specs.declared.stop.Stop.TheVariants as stops
use Rattle.spec_text.specs.declared.lexeme.Lexeme.{Lexeme}
use Rattle.spec_text.specs.Grammar.{StandsFor}
use Rattle.spec_text.specs.Reading.{◌>>=◌}
use Rattle.theory_bitcoin.proofs.Languages.{Taken, Some_text, Seq, Nothing, cuts}

-- ---- the laws

-- Reading stopped before the rest: what came begins a longer text, and no text goes on with what the next token
-- stands for.
pub record Stopped {A : Type 0} (L : List Lexeme → A → Type 0) (ts : List Lexeme) (left : ℕ) : Type 0 where
  pub prefix : List Lexeme
  pub rest : List Lexeme
  pub parts : ts ≡ prefix ++ rest
  pub left_is : length rest ≡ left
  pub next : Lexeme
  pub more : List Lexeme
  pub value : A
  pub begins : L (prefix ++ next ∷ more) value
  pub ends : (c d : Lexeme) (after further : List Lexeme) (a : A) → rest ≡ c ∷ after → StandsFor c d → L (prefix ++ d ∷ further) a → ⊥

-- reading stopped at a token, and a text goes on with what it stands for
pub record Exceeded {A : Type 0} (L : List Lexeme → A → Type 0) (ts : List Lexeme) (left : ℕ) : Type 0 where
  pub prefix : List Lexeme
  pub next : Lexeme
  pub after : List Lexeme
  pub parts : ts ≡ prefix ++ next ∷ after
  pub left_is : suc (length after) ≡ left
  pub meant : Lexeme
  pub stands : StandsFor next meant
  pub more : List Lexeme
  pub value : A
  pub begins : L (prefix ++ meant ∷ more) value

abbrev pub Told : {A : Type 0} → (List Lexeme → A → Type 0) → List Lexeme → Result (A × List Lexeme) Stop → Type 0
Told L ts (Ok x) = Taken L ts (x.0) (x.1)
Told L ts (Err (stops.Syntax left)) = Stopped L ts left
Told L ts (Err (stops.Limit w left)) = Exceeded L ts left

-- what an answer tells
pub record Tells {A : Type 0} (L : List Lexeme → A → Type 0) (ts : List Lexeme) (r : Result (A × List Lexeme) Stop) : Type 0 where
  pub told : Told L ts r

-- the answers of a reader tell of the language, and this isn't empty
pub record Exact {A : Type 0} (L : List Lexeme → A → Type 0) (read : List Lexeme → Result (A × List Lexeme) Stop) : Type 0 where
  pub some : Some_text L
  pub tells : (ts : List Lexeme) → Tells L ts (read ts)

-- each text says where it ends and what it stands for
pub record Clear {A : Type 0} (L : List Lexeme → A → Type 0) : Type 0 where
  pub apart : (t x u y : List Lexeme) (a b : A) → L t a → L u b → t ++ x ≡ u ++ y → (a ≡ b) × (x ≡ y)

-- ---- tools

not_empty : {X : Type 0} (m : List X) (c : X) (x : List X) → m ++ c ∷ x ≡ [] → ⊥
not_empty [] c x e = absurd cc
not_empty (b ∷ m) c x e = absurd cc

-- ---- a value with no text

pub pure : {A : Type 0} (a : A) → Exact (Nothing a) (λ ts. Ok (a, ts))
pure a = record {
  some = record { text = []; value = a; spelled = record { empty = refl; same = refl } };
  tells = λ ts. record { told = record { text = []; parts = refl; spelled = record { empty = refl; same = refl } } };
}

-- ---- two parts

-- what ends inside of a text is no text
pub whole : {A : Type 0} (F : List Lexeme → A → Type 0) → Clear F → (prefix more first m : List Lexeme) (next : Lexeme) (a b : A)
    → F first a → F (prefix ++ next ∷ more) b → prefix ≡ first ++ m → ⊥
whole F clear prefix more first m next a b l k e =
    let is : first ++ (m ++ next ∷ more) ≡ (prefix ++ next ∷ more) ++ [] =
    sym (append_assoc first m (next ∷ more)) ∙ ap (λ (u : List Lexeme). u ++ next ∷ more) (sym e) ∙ sym (append-nil (prefix ++ next ∷ more)) in
    not_empty m next more (clear.apart first (m ++ next ∷ more) (prefix ++ next ∷ more) [] a b l k is).1

-- a longer first part begins with the next token
goes_past : {A : Type 0} (F : List Lexeme → A → Type 0) → Clear F → (prefix more : List Lexeme) (next : Lexeme) (b : A)
    → F (prefix ++ next ∷ more) b → (d : Lexeme) (further first second m : List Lexeme) (a : A)
    → first ≡ prefix ++ m → d ∷ further ≡ m ++ second → F first a → ((l : List Lexeme) → F (prefix ++ d ∷ l) a → ⊥) → ⊥
goes_past F clear prefix more next b k d further first second [] a e1 e2 l stops =
    whole F clear prefix more first [] next a b l k (sym (append-nil prefix) ∙ sym e1 ∙ sym (append-nil first))
goes_past F clear prefix more next b k d further first second (c ∷ m) a e1 e2 l stops =
    let heads : c ≡ d = cc in
    stops m (subst (λ (t : List Lexeme). F t a) (e1 ∙ ap (λ (z : Lexeme). prefix ++ z ∷ m) heads) l)

prefix_ends : {A Y : Type 0} (F : List Lexeme → A → Type 0) (K : A → List Lexeme → Y → Type 0) → Clear F → (ts : List Lexeme) (left : ℕ)
    → (s : Stopped F ts left)
    → (c d : Lexeme) (after further : List Lexeme) (v : Y) → s.rest ≡ c ∷ after → StandsFor c d → Seq F K (s.prefix ++ d ∷ further) v → ⊥
prefix_ends F K clear ts left s c d after further v at stands q =
    elim (cuts (s.prefix) (d ∷ further) (q.first) (q.second) q.parts) [
      | inl w ↦ whole F clear s.prefix s.more q.first w.0 s.next q.value s.value q.prefix s.begins w.1
      | inr w ↦ goes_past F clear s.prefix s.more s.next s.value s.begins d further q.first q.second w.0 q.value w.1 w.2 q.prefix
          (λ (l : List Lexeme) (h : F (s.prefix ++ d ∷ l) q.value). s.ends c d after l q.value at stands h)
    ]

-- where the first part stopped
pub stopped_in : {A Y : Type 0} (F : List Lexeme → A → Type 0) (K : A → List Lexeme → Y → Type 0) → Clear F
    → ((a : A) (t : List Lexeme) → F t a → Some_text (K a)) → (ts : List Lexeme) (e : Stop) → Told F ts (Err e) → Told (Seq F K) ts (Err e)
stopped_in F K clear some ts (stops.Syntax left) s =
    let b = some s.value (s.prefix ++ s.next ∷ s.more) s.begins in
    record {
      prefix = s.prefix;
      rest = s.rest;
      parts = s.parts;
      left_is = s.left_is;
      next = s.next;
      more = s.more ++ b.text;
      value = b.value;
      begins = record {
        first = s.prefix ++ s.next
            ∷ s.more;
        second = b.text;
        value = s.value;
        parts = sym (append_assoc s.prefix (s.next ∷ s.more) b.text);
        prefix = s.begins;
        back = b.spelled;
      };
      ends = prefix_ends F K clear ts left s;
    }
stopped_in F K clear some ts (stops.Limit w left) s =
    let b = some s.value (s.prefix ++ s.meant ∷ s.more) s.begins in
    record {
      prefix = s.prefix;
      next = s.next;
      after = s.after;
      parts = s.parts;
      left_is = s.left_is;
      meant = s.meant;
      stands = s.stands;
      more = s.more ++ b.text;
      value = b.value;
      begins = record {
        first = s.prefix ++ s.meant
            ∷ s.more;
        second = b.text;
        value = s.value;
        parts = sym (append_assoc s.prefix (s.meant ∷ s.more) b.text);
        prefix = s.begins;
        back = b.spelled;
      };
    }

back_ends : {A Y : Type 0} (F : List Lexeme → A → Type 0) (K : A → List Lexeme → Y → Type 0) → Clear F → (text : List Lexeme) (a : A)
    → F text a → (u : List Lexeme) (v : Y) → (K a u v → ⊥) → Seq F K (text ++ u) v → ⊥
back_ends F K clear text a l u v stops q =
    let same = clear.apart text u q.first q.second a q.value l q.prefix q.parts in
    stops (subst (λ (z : _). K z u v) (sym same.0) (subst (λ (z : List Lexeme). K q.value z v) (sym same.1) q.back))

-- where the first part was read
pub before : {A Y : Type 0} (F : List Lexeme → A → Type 0) (K : A → List Lexeme → Y → Type 0) → Clear F
    → (ts : List Lexeme) (a : A) (rest : List Lexeme) → Taken F ts a rest → (r : Result (Y × List Lexeme) Stop) → Told (K a) rest r → Told (Seq F K) ts r
before F K clear ts a rest t (Ok x) u = record {
  text = t.text ++ u.text;
  parts = t.parts ∙ ap (λ (l : List Lexeme). t.text ++ l) u.parts ∙ sym (append_assoc t.text u.text x.1);
  spelled = record { first = t.text; second = u.text; value = a; parts = refl; prefix = t.spelled; back = u.spelled };
}
before F K clear ts a rest t (Err (stops.Syntax left)) s = record {
  prefix = t.text ++ s.prefix;
  rest = s.rest;
  parts = t.parts ∙ ap (λ (l : List Lexeme). t.text ++ l) s.parts ∙ sym (append_assoc t.text s.prefix s.rest);
  left_is = s.left_is;
  next = s.next;
  more = s.more;
  value = s.value;
  begins = record {
    first = t.text;
    second = s.prefix ++ s.next
        ∷ s.more;
    value = a;
    parts = append_assoc t.text s.prefix (s.next ∷ s.more);
    prefix = t.spelled;
    back = s.begins;
  };
  ends = λ c d after further v at stands q.
      back_ends F K clear t.text a t.spelled (s.prefix ++ d ∷ further) v (s.ends c d after further v at stands)
      (subst (λ (z : List Lexeme). Seq F K z v) (append_assoc t.text s.prefix (d ∷ further)) q);
}
before F K clear ts a rest t (Err (stops.Limit w left)) s = record {
  prefix = t.text ++ s.prefix;
  next = s.next;
  after = s.after;
  parts = t.parts ∙ ap (λ (l : List Lexeme). t.text ++ l) s.parts ∙ sym (append_assoc t.text s.prefix (s.next ∷ s.after));
  left_is = s.left_is;
  meant = s.meant;
  stands = s.stands;
  more = s.more;
  value = s.value;
  begins = record {
    first = t.text;
    second = s.prefix ++ s.meant
        ∷ s.more;
    value = a;
    parts = append_assoc t.text s.prefix (s.meant ∷ s.more);
    prefix = t.spelled;
    back = s.begins;
  };
}

seq_at : {A Y : Type 0} (F : List Lexeme → A → Type 0) (K : A → List Lexeme → Y → Type 0)
    (k : A → List Lexeme → Result (Y × List Lexeme) Stop) → Clear F → ((a : A) (t : List Lexeme) → F t a → Exact (K a) (k a))
    → (ts : List Lexeme) (r : Result (A × List Lexeme) Stop) → Told F ts r → Told (Seq F K) ts (r >>= λ x. k (x.0) (x.1))
seq_at F K k clear ek ts (Ok x) t = before F K clear ts x.0 x.1 t (k x.0 x.1) ((ek x.0 t.text t.spelled).tells x.1).told
seq_at F K k clear ek ts (Err e) s = stopped_in F K clear (λ a t l. (ek a t l).some) ts e s

seq_some : {A Y : Type 0} {F : List Lexeme → A → Type 0} {K : A → List Lexeme → Y → Type 0} → (s : Some_text F) → Some_text (K s.value) → Some_text (Seq F K)
seq_some s b = record {
  text = s.text ++ b.text;
  value = b.value;
  spelled = record {
    first = s.text;
    second = b.text;
    value = s.value;
    parts = refl;
    prefix = s.spelled;
    back = b.spelled;
  };
}

-- one after the other
pub seq : {A Y : Type 0} {F : List Lexeme → A → Type 0} {K : A → List Lexeme → Y → Type 0} {f : List Lexeme → Result (A × List Lexeme) Stop}
    {k : A → List Lexeme → Result (Y × List Lexeme) Stop}
    → Clear F → Exact F f → ((a : A) (t : List Lexeme) → F t a → Exact (K a) (k a)) → Exact (Seq F K) (λ ts. f ts >>= λ x. k (x.0) (x.1))
seq {F = F} {K = K} {f = f} {k = k} clear ef ek = record {
  some = seq_some ef.some (ek ef.some.value ef.some.text ef.some.spelled).some;
  tells = λ ts. record { told = seq_at F K k clear ek ts (f ts) (ef.tells ts).told };
}

-- ---- the same language or reader said otherwise

-- the values of a language changed, where a text of the new one that begins as the tokens do comes from one of the old
pub carried : {A B : Type 0} (f : A → B) (L : List Lexeme → A → Type 0) (M : List Lexeme → B → Type 0) (ts : List Lexeme)
    → ((t : List Lexeme) (a : A) → L t a → M t (f a))
    → ((prefix rest : List Lexeme) → ts ≡ prefix ++ rest → (c d : Lexeme) (after further : List Lexeme) (b : B) → rest ≡ c ∷ after → StandsFor c d
    → M (prefix ++ d ∷ further) b → (a : A) × L (prefix ++ d ∷ further) a)
    → (r : Result (A × List Lexeme) Stop) → Told L ts r → Told M ts (r >>= λ x. Ok (f (x.0), x.1))
carried f L M ts to from (Ok x) t = record { text = t.text; parts = t.parts; spelled = to t.text x.0 t.spelled }
carried f L M ts to from (Err (stops.Syntax left)) s = record {
  prefix = s.prefix;
  rest = s.rest;
  parts = s.parts;
  left_is = s.left_is;
  next = s.next;
  more = s.more;
  value = f s.value;
  begins = to (s.prefix ++ s.next ∷ s.more) s.value s.begins;
  ends = λ c d after further b at stands m.
      let p = from s.prefix s.rest s.parts c d after further b at stands m in
      s.ends c d after further p.0 at stands p.1;
}
carried f L M ts to from (Err (stops.Limit w left)) s = record {
  prefix = s.prefix;
  next = s.next;
  after = s.after;
  parts = s.parts;
  left_is = s.left_is;
  meant = s.meant;
  stands = s.stands;
  more = s.more;
  value = f s.value;
  begins = to (s.prefix ++ s.meant ∷ s.more) s.value s.begins;
}

-- the new language has the texts of the old one, and no others that begin as the tokens do
pub moved : {A : Type 0} (L M : List Lexeme → A → Type 0) (ts : List Lexeme) → ((t : List Lexeme) (a : A) → L t a → M t a)
    → ((t : List Lexeme) (a : A) → M t a → L t a) → (r : Result (A × List Lexeme) Stop) → Told L ts r → Told M ts r
moved L M ts to from (Ok x) t = record { text = t.text; parts = t.parts; spelled = to t.text x.0 t.spelled }
moved L M ts to from (Err e) s =
    carried (λ a. a) L M ts to (λ prefix rest parts c d after further b at stands m. (b, from (prefix ++ d ∷ further) b m)) (Err e) s

pub transfer : {A : Type 0} {L : List Lexeme → A → Type 0} {read : List Lexeme → Result (A × List Lexeme) Stop}
    (M : List Lexeme → A → Type 0) → ((t : List Lexeme) (a : A) → L t a → M t a) → ((t : List Lexeme) (a : A) → M t a → L t a) → Exact L read → Exact M read
transfer {L = L} {read = read} M to from x = record {
  some = record { text = x.some.text; value = x.some.value; spelled = to x.some.text x.some.value x.some.spelled };
  tells = λ ts. record { told = moved L M ts to from (read ts) (x.tells ts).told };
}

-- ---- the first token

-- what stands behind this token
abbrev pub Behind : {A : Type 0} → Lexeme → (List Lexeme → A → Type 0) → List Lexeme → A → Type 0
Behind c L t a = L (c ∷ t) a

behind_at : {A : Type 0} (c : Lexeme) (L : List Lexeme → A → Type 0) (ts : List Lexeme) (r : Result (A × List Lexeme) Stop)
    → Told (Behind c L) ts r → Told L (c ∷ ts) r
behind_at c L ts (Ok x) t = record { text = c ∷ t.text; parts = ap (λ (l : List Lexeme). c ∷ l) t.parts; spelled = t.spelled }
behind_at c L ts (Err (stops.Syntax left)) s = record {
  prefix = c ∷ s.prefix;
  rest = s.rest;
  parts = ap (λ (l : List Lexeme). c ∷ l) s.parts;
  left_is = s.left_is;
  next = s.next;
  more = s.more;
  value = s.value;
  begins = s.begins;
  ends = s.ends;
}
behind_at c L ts (Err (stops.Limit w left)) s = record {
  prefix = c ∷ s.prefix;
  next = s.next;
  after = s.after;
  parts = ap (λ (l : List Lexeme). c ∷ l) s.parts;
  left_is = s.left_is;
  meant = s.meant;
  stands = s.stands;
  more = s.more;
  value = s.value;
  begins = s.begins;
}

pub behind : {A : Type 0} (c : Lexeme) (L : List Lexeme → A → Type 0) (ts : List Lexeme) (r : Result (A × List Lexeme) Stop)
    → Tells (Behind c L) ts r → Tells L (c ∷ ts) r
behind c L ts r h = record { told = behind_at c L ts r h.told }
