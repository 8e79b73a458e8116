-- All tokens of a text: what is found, and where reading stops.
use Rattle.std.proofs.Common.{◌≡◌, ℕ, suc, ◌+◌, ◌-◌, ◌<◌, ◌≤◌, List, [], ◌∷◌, ◌++◌, length, take, Result, Ok, Err, refl, sym, ap, subst, ◌∙◌, append_assoc, arith}
use Rattle.std.proofs.lemmas.List.{append-nil, length-append, take_at}
use Rattle.spec_terms.specs.Advert.{Advert}
use Rattle.spec_terms.specs.declared.limit.Limit.{Limit}
use Rattle.spec_text.specs.declared.stop.Stop.{Stop}
use Rattle.spec_text.specs.declared.stop.Stop.TheVariants as stops
use Rattle.spec_text.specs.declared.lexeme.Lexeme.{Lexeme}
use Rattle.spec_text.specs.Grammar.{Spells, Begins, StandsFor, StandFor}
use Rattle.spec_text.specs.Reading.{◌>>=◌}
use Rattle.spec_text.specs.ReadAdvert.{advert_at, if_last, advert_of_all}
use Rattle.spec_text.specs.Statements.{IsSyntaxAt, IsLimitAt}
use Rattle.theory_bitcoin.proofs.Languages.{Taken, longer}
use Rattle.theory_text.proofs.Told.Tells.{Stopped, Exceeded, Told}
use Rattle.theory_text.proofs.Told.FirstToken.{stands_itself}
use Rattle.theory_text.proofs.Told.AdvertReaders.{advert_clear, advert_exact}
use Rattle.theory_text.proofs.Told.PlainTexts.{Plain, plain_prefix, plain_advert, stands_prefix, stand_themselves, stand_and_one}

-- no advert goes on after this prefix with the next token
abbrev Ended : List Lexeme → List Lexeme → Type 0
Ended prefix rest = (c d : Lexeme) (after further : List Lexeme) (a : Advert) → rest ≡ c ∷ after → StandsFor c d → Spells (prefix ++ d ∷ further) a → ⊥

not_longer : (t prefix rest : List Lexeme) → t ≡ prefix ++ rest → Plain prefix → Ended prefix rest → (q : ℕ) → length prefix < q
    → q ≤ length t → Begins (take q t) → ⊥
not_longer t prefix rest parts plain ends q lt le b =
    let w = longer prefix rest q lt (subst (λ (z : List Lexeme). q ≤ length z) parts le) in
    let is : take q t ≡ prefix ++ w.0 ∷ w.2 = ap (take q) parts ∙ w.4 in
    let m = stands_prefix prefix w.0 w.2 b.meant plain (subst (λ (z : List Lexeme). StandFor z b.meant) is b.stand) in
    let text : b.meant ++ b.more ≡ prefix ++ m.0 ∷ (m.1 ++ b.more) = ap (λ (z : List Lexeme). z ++ b.more) m.3 ∙ append_assoc prefix (m.0 ∷ m.1) b.more in
    ends w.0 m.0 w.1 (m.1 ++ b.more) b.advert w.3 m.2 (subst (λ (z : List Lexeme). Spells z b.advert) text b.spelled)

syntax_at : (t prefix rest more : List Lexeme) (a : Advert) → t ≡ prefix ++ rest → Spells (prefix ++ more) a → Ended prefix rest
    → ((b : Advert) → Spells t b → ⊥) → IsSyntaxAt t (length t - length rest)
syntax_at t prefix rest more a parts begins ends none =
    let len : length t ≡ length prefix + length rest = ap length parts ∙ length-append prefix rest in
    let place : length t - length rest ≡ length prefix = omega arith in
    let prefixes : take (length t - length rest) t ≡ prefix = rw (place, parts) (take_at prefix rest (length prefix) refl) in
    let plain = plain_prefix prefix more (plain_advert (prefix ++ more) a begins) in
    record {
      within = omega arith;
      begins = record { meant = prefix; stand = rw prefixes (stand_themselves prefix); more = more; advert = a; spelled = begins };
      longest = λ q lt le b. not_longer t prefix rest parts plain ends q (omega (arith, lt)) le b;
      none = none;
    }

abbrev read_as : {A : Type 0} → A → Result A Stop
read_as x = Ok x

abbrev stopped : {A : Type 0} → Stop → Result A Stop
stopped e = Err e

read_is : {A : Type 0} (x y : A) → read_as x ≡ read_as y → x ≡ y
read_is x y e = cc

read_stopped : {A : Type 0} (x : A) (e : Stop) → read_as x ≡ stopped e → ⊥
read_stopped x e h = absurd cc

stop_is : {A : Type 0} (e f : Stop) → stopped {A = A} e ≡ stopped f → e ≡ f
stop_is e f h = cc

left_is : (m n : ℕ) → stops.Syntax m ≡ stops.Syntax n → m ≡ n
left_is m n h = cc

-- a text and more behind it
trailing : (text x : List Lexeme) (a b : Advert) → Spells text a → Spells (text ++ x) b → x ≡ []
trailing text x a b l m = (advert_clear.apart text x (text ++ x) [] a b l m (sym (append-nil (text ++ x)))).1

no_trailing : (text : List Lexeme) (c : Lexeme) (x : List Lexeme) (a b : Advert) → Spells text a → Spells (text ++ c ∷ x) b → ⊥
no_trailing text c x a b l m = let e = trailing text (c ∷ x) a b l m in absurd cc

inside : (prefix more : List Lexeme) (next : Lexeme) (a b : Advert) → Spells (prefix ++ next ∷ more) a → Spells prefix b → ⊥
inside prefix more next a b l m = no_trailing prefix next more b a m l

none_stopped : (t prefix rest more : List Lexeme) (next : Lexeme) (a : Advert) → t ≡ prefix ++ rest → Spells (prefix ++ next ∷ more) a
    → Ended prefix rest → (b : Advert) → Spells t b → ⊥
none_stopped t prefix [] more next a parts begins ends b l =
    inside prefix more next a b begins (subst (λ (z : List Lexeme). Spells z b) (parts ∙ append-nil prefix) l)
none_stopped t prefix (c ∷ rest) more next a parts begins ends b l =
    ends c c rest rest b refl (stands_itself c) (subst (λ (z : List Lexeme). Spells z b) parts l)

stopped_at : (t : List Lexeme) (left : ℕ) → Stopped Spells t left → IsSyntaxAt t (length t - left)
stopped_at t left s = subst (λ (n : ℕ). IsSyntaxAt t (length t - n)) s.left_is
    (syntax_at t s.prefix s.rest (s.next ∷ s.more) s.value s.parts s.begins s.ends
    (none_stopped t s.prefix s.rest s.more s.next s.value s.parts s.begins s.ends))

trailing_at : (t text : List Lexeme) (a : Advert) (c : Lexeme) (after : List Lexeme) → t ≡ text ++ c ∷ after → Spells text a
    → IsSyntaxAt t (length t - suc (length after))
trailing_at t text a c after parts l = syntax_at t text (c ∷ after) [] a parts (subst (λ (z : List Lexeme). Spells z a) (sym (append-nil text)) l)
    (λ x d rest further b is st m. no_trailing text d further a b l m)
    (λ b m. no_trailing text c after a b l (subst (λ (z : List Lexeme). Spells z b) parts m))

last_syntax : (t : List Lexeme) (left : ℕ) (a : Advert) (rest : List Lexeme) → Taken Spells t a rest → if_last a rest
    ≡ stopped (stops.Syntax left) → IsSyntaxAt t (length t - left)
last_syntax t left a [] k e = absurd (read_stopped a (stops.Syntax left) e)
last_syntax t left a (c ∷ after) k e =
    subst (λ (n : ℕ). IsSyntaxAt t (length t - n))
    (left_is (suc (length after)) left (stop_is {A = Advert} (stops.Syntax (suc (length after))) (stops.Syntax left) e))
    (trailing_at t k.text a c after k.parts k.spelled)

syntax_by : (t : List Lexeme) (left : ℕ) (r : Result (Advert × List Lexeme) Stop) → Told Spells t r → (r >>= λ a. if_last (a.0) (a.1))
    ≡ stopped (stops.Syntax left) → IsSyntaxAt t (length t - left)
syntax_by t left (Ok x) k e = last_syntax t left (x.0) (x.1) k e
syntax_by t left (Err (stops.Syntax n)) s e =
    subst (λ (n : ℕ). IsSyntaxAt t (length t - n)) (left_is n left (stop_is {A = Advert} (stops.Syntax n) (stops.Syntax left) e)) (stopped_at t n s)
syntax_by t left (Err (stops.Limit w n)) s e = let k = stop_is {A = Advert} (stops.Limit w n) (stops.Syntax left) e in absurd cc

-- where the tokens spell no advert
pub syntax_is : (t : List Lexeme) (left : ℕ) → advert_of_all t ≡ Err (stops.Syntax left) → IsSyntaxAt t (length t - left)
unfolding advert_of_all
syntax_is t left e = syntax_by t left (advert_at t) (advert_exact.tells t).told e

-- ---- limits

exceeded_at : (t : List Lexeme) (left : ℕ) → Exceeded Spells t left → IsLimitAt t (length t - left)
exceeded_at t left s =
    let len : length t ≡ length s.prefix + suc (length s.after) = ap length s.parts ∙ length-append s.prefix (s.next ∷ s.after) in
    let place : length t - left ≡ length s.prefix = omega (arith, s.left_is) in
    let prefixes : take (length s.prefix + 1) t ≡ s.prefix ++ s.next ∷ [] =
    ap (take (length s.prefix + 1)) (s.parts ∙ sym (append_assoc s.prefix (s.next ∷ []) s.after))
    ∙ take_at (s.prefix ++ s.next ∷ []) s.after (length s.prefix + 1) (length-append s.prefix (s.next ∷ [])) in
    rw place (record {
      within = omega arith;
      begins = record {
        meant = s.prefix ++ s.meant ∷ [];
        stand = rw prefixes (stand_and_one s.prefix s.next s.meant s.stands);
        more = s.more;
        advert = s.value;
        spelled = rw (append_assoc s.prefix (s.meant ∷ []) s.more) s.begins;
      };
    })

limit_left : (m n : ℕ) (v w : Limit) → stops.Limit v m ≡ stops.Limit w n → m ≡ n
limit_left m n v w h = cc

last_limit : (a : Advert) (rest : List Lexeme) (w : Limit) (left : ℕ) → if_last a rest ≡ stopped (stops.Limit w left) → ⊥
last_limit a [] w left e = read_stopped a (stops.Limit w left) e
last_limit a (c ∷ after) w left e = let k = stop_is {A = Advert} (stops.Syntax (suc (length after))) (stops.Limit w left) e in absurd cc

limit_by : (t : List Lexeme) (w : Limit) (left : ℕ) (r : Result (Advert × List Lexeme) Stop) → Told Spells t r
    → (r >>= λ a. if_last (a.0) (a.1)) ≡ stopped (stops.Limit w left) → IsLimitAt t (length t - left)
limit_by t w left (Ok x) k e = absurd (last_limit (x.0) (x.1) w left e)
limit_by t w left (Err (stops.Syntax n)) s e = let k = stop_is {A = Advert} (stops.Syntax n) (stops.Limit w left) e in absurd cc
limit_by t w left (Err (stops.Limit v n)) s e =
    subst (λ (n : ℕ). IsLimitAt t (length t - n)) (limit_left n left v w (stop_is {A = Advert} (stops.Limit v n) (stops.Limit w left) e)) (exceeded_at t n s)

-- where a quantity is exceeded
pub limit_is : (t : List Lexeme) (w : Limit) (left : ℕ) → advert_of_all t ≡ Err (stops.Limit w left) → IsLimitAt t (length t - left)
unfolding advert_of_all
limit_is t w left e = limit_by t w left (advert_at t) (advert_exact.tells t).told e

-- ---- what is found

last_found : (t : List Lexeme) (a b : Advert) (rest : List Lexeme) → Taken Spells t a rest → if_last a rest ≡ read_as b → Spells t b
last_found t a b [] k e =
    let text : k.text ≡ t = sym (k.parts ∙ append-nil k.text) in
    subst (λ (z : Advert). Spells t z) (read_is a b e) (subst (λ (z : List Lexeme). Spells z a) text k.spelled)
last_found t a b (c ∷ after) k e = absurd (read_stopped b (stops.Syntax (suc (length after))) (sym e))

found_by : (t : List Lexeme) (b : Advert) (r : Result (Advert × List Lexeme) Stop) → Told Spells t r → (r >>= λ a. if_last (a.0) (a.1)) ≡ read_as b → Spells t b
found_by t b (Ok x) k e = last_found t (x.0) b (x.1) k e
found_by t b (Err d) s e = absurd (read_stopped b d (sym e))

-- what is read is spelled
pub found_is : (t : List Lexeme) (advert : Advert) → advert_of_all t ≡ Ok advert → Spells t advert
unfolding advert_of_all
found_is t advert e = found_by t advert (advert_at t) (advert_exact.tells t).told e
