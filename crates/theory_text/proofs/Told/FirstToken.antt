-- What the first token tells: readers that stop at it, and readers that choose by it.
use Rattle.std.proofs.Common.{◌≡◌, ℕ, suc, Bool, false, List, [], ◌∷◌, ◌++◌, length, Result, Ok, Err, refl, sym, subst, ◌∙◌}
use Rattle.spec_terms.specs.declared.limit.Limit.{Limit}
use Rattle.spec_text.specs.declared.stop.Stop.{Stop}
use Rattle.spec_text.specs.declared.stop.Stop.TheVariants as stops
use Rattle.spec_text.specs.declared.lexeme.Lexeme.{Lexeme}
use Rattle.spec_text.specs.declared.lexeme.Lexeme.TheVariants.{Keyword as keyword, Symbol as symbol, Name as name, Number as number, LongName as long_name, HugeNumber as huge_number}
use Rattle.spec_text.specs.Grammar.{StandsFor}
use Rattle.spec_text.specs.Reading.{Seen, taken, wrong, above, stop_seen, too_many}
use Rattle.theory_bitcoin.proofs.Languages.{Some_text}
use Rattle.theory_text.proofs.Told.Tells.{Stopped, Told, Tells, Behind, carried}

-- every token stands for itself
pub stands_itself : (c : Lexeme) → StandsFor c c
stands_itself (keyword k) = refl
stands_itself (symbol s) = refl
stands_itself (name bytes) = refl
stands_itself long_name = refl
stands_itself (number n) = refl
stands_itself huge_number = refl

-- a test that isn't true of a token isn't true of what it stands for
pub record Fair {A : Type 0} (see : Lexeme → Seen A) : Type 0 where
  pub names : (bytes : List ℕ) → see long_name ≡ wrong → see (name bytes) ≡ wrong
  pub numbers : (n : ℕ) → see huge_number ≡ wrong → see (number n) ≡ wrong

stands_wrong : {A : Type 0} (see : Lexeme → Seen A) → Fair see → (c d : Lexeme) → StandsFor c d → see c ≡ wrong → see d ≡ wrong
stands_wrong see fair long_name (name bytes) st h = fair.names bytes h
stands_wrong see fair huge_number (number n) st h = fair.numbers n h
stands_wrong see fair c d st h = subst (λ (z : Lexeme). see z ≡ wrong) st h

-- the test knows with which tokens the texts begin
pub record Begun {A V : Type 0} (see : Lexeme → Seen V) (L : List Lexeme → A → Type 0) : Type 0 where
  pub nothing : (a : A) → L [] a → ⊥
  pub first : (d : Lexeme) (t : List Lexeme) (a : A) → L (d ∷ t) a → see d ≡ wrong → ⊥
  pub fair : Fair see
  pub some : Some_text L
  pub begins : (c : Lexeme) (v : V) → see c ≡ taken v → Some_text (Behind c L)
  pub exceeds : (c : Lexeme) (w : Limit) → see c ≡ above w → (d : Lexeme) × StandsFor c d × Some_text (Behind d L)

-- the tokens end where a text begins
ended_by : {A : Type 0} (L : List Lexeme → A → Type 0) → ((a : A) → L [] a → ⊥) → (t : List Lexeme) (a : A) → L t a → Stopped L [] 0
ended_by L nothing [] a l = absurd (nothing a l)
ended_by L nothing (c ∷ t) a l = record {
  prefix = [];
  rest = [];
  parts = refl;
  left_is = refl;
  next = c;
  more = t;
  value = a;
  begins = l;
  ends = λ d e after further b at stands m. absurd cc;
}

pub ended_told : {A : Type 0} (L : List Lexeme → A → Type 0) → ((a : A) → L [] a → ⊥) → Some_text L → Stopped L [] 0
ended_told L nothing some = ended_by L nothing some.text some.value some.spelled

pub ended : {A V : Type 0} (see : Lexeme → Seen V) (L : List Lexeme → A → Type 0) → Begun see L → Tells L [] (Err (stops.Syntax 0))
ended see L b = record { told = ended_told L b.nothing b.some }

other_first : {A V : Type 0} (see : Lexeme → Seen V) (L : List Lexeme → A → Type 0) → Begun see L → (c : Lexeme) (ts : List Lexeme) → see c
    ≡ wrong → (d e : Lexeme) (after further : List Lexeme) (a : A) → c ∷ ts ≡ d ∷ after → StandsFor d e → L (e ∷ further) a → ⊥
other_first see L b c ts h d e after further a at stands m =
    let same : c ≡ d = cc in
    let h' : see d ≡ wrong = subst (λ (z : Lexeme). see z ≡ wrong) same h in
    b.first e further a m (stands_wrong see b.fair d e stands h')

wrong_by : {A V : Type 0} (see : Lexeme → Seen V) (L : List Lexeme → A → Type 0) → Begun see L → (c : Lexeme) (ts : List Lexeme) → see c
    ≡ wrong → (t : List Lexeme) (a : A) → L t a → Stopped L (c ∷ ts) (suc (length ts))
wrong_by see L b c ts h [] a l = absurd (b.nothing a l)
wrong_by see L b c ts h (x ∷ t) a l = record {
  prefix = [];
  rest = c ∷ ts;
  parts = refl;
  left_is = refl;
  next = x;
  more = t;
  value = a;
  begins = l;
  ends = λ d e after further v at stands m. other_first see L b c ts h d e after further v at stands m;
}

-- no text begins with this token
pub wrong_first : {A V : Type 0} (see : Lexeme → Seen V) (L : List Lexeme → A → Type 0) → Begun see L → (c : Lexeme) (ts : List Lexeme)
    → see c ≡ wrong → Tells L (c ∷ ts) (Err (stops.Syntax (suc (length ts))))
wrong_first see L b c ts h = record { told = wrong_by see L b c ts h b.some.text b.some.value b.some.spelled }

-- a text begins with what this token stands for
pub exceeded_first : {A : Type 0} (L : List Lexeme → A → Type 0) (c d : Lexeme) (ts : List Lexeme) (w : Limit) → StandsFor c d
    → Some_text (Behind d L) → Tells L (c ∷ ts) (Err (stops.Limit w (suc (length ts))))
exceeded_first L c d ts w stands s = record {
  told = record {
    prefix = [];
    next = c;
    after = ts;
    parts = refl;
    left_is = refl;
    meant = d;
    stands = stands;
    more = s.text;
    value = s.value;
    begins = s.spelled;
  };
}

stop_at : {A V : Type 0} (see : Lexeme → Seen V) (L : List Lexeme → A → Type 0) → Begun see L
    → (w : Limit) (c : Lexeme) (ts : List Lexeme) (s : Seen V) → see c ≡ s → Tells L (c ∷ ts) (Err (stop_seen w s (suc (length ts))))
stop_at see L b w c ts (taken v) h = exceeded_first L c c ts w (stands_itself c) (b.begins c v h)
stop_at see L b w c ts wrong h = wrong_first see L b c ts h
stop_at see L b w c ts (above u) h = let x = b.exceeds c u h in exceeded_first L c x.0 ts u x.1 x.2

-- one too many
pub stops_first : {A V : Type 0} (see : Lexeme → Seen V) (L : List Lexeme → A → Type 0) → Begun see L → (w : Limit) (ts : List Lexeme)
    → Tells L ts (Err (too_many w see ts))
stops_first see L b w [] = ended see L b
stops_first see L b w (c ∷ ts) = stop_at see L b w c ts (see c) refl

-- ---- a smaller language, by the first token

narrow_from : {A : Type 0} (M L : List Lexeme → A → Type 0) (test : Lexeme → Bool) → (c : Lexeme) (ts : List Lexeme)
    → ((d : Lexeme) → StandsFor c d → test d ≡ false) → ((d : Lexeme) (t : List Lexeme) (a : A) → test d ≡ false → L (d ∷ t) a → M (d ∷ t) a)
    → (prefix rest : List Lexeme) → c ∷ ts ≡ prefix ++ rest → (e d : Lexeme) (after further : List Lexeme) (a : A) → rest ≡ e ∷ after
    → StandsFor e d → L (prefix ++ d ∷ further) a → M (prefix ++ d ∷ further) a
narrow_from M L test c ts fair from [] rest parts e d after further a at stands l =
    let same : c ≡ e = let p : c ∷ ts ≡ e ∷ after = parts ∙ at in cc in
    from d further a (fair d (subst (λ (z : Lexeme). StandsFor z d) (sym same) stands)) l
narrow_from M L test c ts fair from (x ∷ prefix) rest parts e d after further a at stands l =
    let same : c ≡ x = cc in
    let plain : test x ≡ false = subst (λ (z : Lexeme). test z ≡ false) same (fair c (stands_itself c)) in
    from x (prefix ++ d ∷ further) a plain l

narrow_at : {A : Type 0} (M L : List Lexeme → A → Type 0) (test : Lexeme → Bool) → (c : Lexeme) (ts : List Lexeme)
    → ((d : Lexeme) → StandsFor c d → test d ≡ false) → ((t : List Lexeme) (a : A) → M t a → L t a)
    → ((d : Lexeme) (t : List Lexeme) (a : A) → test d ≡ false → L (d ∷ t) a → M (d ∷ t) a) → (r : Result (A × List Lexeme) Stop)
    → Told M (c ∷ ts) r → Told L (c ∷ ts) r
narrow_at M L test c ts fair to from (Ok x) t = record { text = t.text; parts = t.parts; spelled = to t.text x.0 t.spelled }
narrow_at M L test c ts fair to from (Err e) s =
    carried (λ a. a) M L (c ∷ ts) to
    (λ prefix rest parts e d after further a at stands l. (a, narrow_from M L test c ts fair from prefix rest parts e d after further a at stands l))
    (Err e) s

-- Where the test fails at all for which the first token stands, the smaller language tells of the larger one.
pub narrow : {A : Type 0} (M L : List Lexeme → A → Type 0) (test : Lexeme → Bool) → (c : Lexeme) (ts : List Lexeme)
    → ((d : Lexeme) → StandsFor c d → test d ≡ false) → ((t : List Lexeme) (a : A) → M t a → L t a)
    → ((d : Lexeme) (t : List Lexeme) (a : A) → test d ≡ false → L (d ∷ t) a → M (d ∷ t) a)
    → (r : Result (A × List Lexeme) Stop) → Tells M (c ∷ ts) r → Tells L (c ∷ ts) r
narrow M L test c ts fair to from r h = record { told = narrow_at M L test c ts fair to from r h.told }
