-- What a reader reads, as a fact of each value that it gives: the tokens after the value have names that are names.
use Rattle.std.proofs.Common.{◌≡◌, ℕ, ◌≤◌, Bool, true, false, List, [], ◌∷◌, Option, Some, None, Ok, Err, refl, arith}
use Rattle.std.specs.Prelude.{nat_le}
use Rattle.std.specs.List.{list_all}
use Rattle.std.proofs.lemmas.Bool.Decides.{nat_tests}
use Rattle.spec_terms.specs.Readable.{is_name, is_some_list}
use Rattle.spec_text.specs.declared.lexeme.Lexeme.{Lexeme}
use Rattle.spec_text.specs.declared.lexeme.Lexeme.TheVariants.{Name as name, Number as number}
use Rattle.spec_text.specs.Reading.{Reads, ◌>>=◌, Seen, taken, wrong, above, take_seen, token_by, small_number, a_name, a_number, comma_or, names_from}
use Rattle.theory_text.proofs.ListFacts.{and_is}
use Rattle.theory_text.proofs.Within.LexemeNames.{HasName, HaveNames}

pub le_yes : (m n : ℕ) → m ≤ n → nat_le m n ≡ true
le_yes m n h = grind (arith, nat_tests)

-- ---- readers

abbrev pub Within : {A : Type 0} → (A → Type 0) → Reads A → Type 0
Within P (Ok r) = P r.0 × HaveNames r.1
Within P (Err stop) = Unit {0}

-- one reader after another
pub within_then : {A B : Type 0} (P : A → Type 0) (Q : B → Type 0) (m : Reads A) (f : A × List Lexeme → Reads B) → Within P m
    → ((x : A) (ts : List Lexeme) → P x → HaveNames ts → Within Q (f (x, ts))) → Within Q (m >>= f)
within_then P Q (Ok r) f h g = g r.0 r.1 h.0 h.1
within_then P Q (Err stop) f h g = tt

-- what follows from a fact of the value
pub within_weak : {A : Type 0} (P Q : A → Type 0) (m : Reads A) → ((x : A) → P x → Q x) → Within P m → Within Q m
within_weak P Q (Ok r) f h = (f r.0 h.0, h.1)
within_weak P Q (Err stop) f h = tt

-- ---- one token

abbrev pub SeenWithin : {A : Type 0} → (A → Type 0) → Seen A → Type 0
SeenWithin P (taken x) = P x
SeenWithin P wrong = Unit {0}
SeenWithin P (above w) = Unit {0}

pub taken_within : {A : Type 0} (P : A → Type 0) (s : Seen A) (ts : List Lexeme) → SeenWithin P s → HaveNames ts → Within P (take_seen s ts)
taken_within P (taken x) ts h t = (h, t)
taken_within P wrong ts h t = tt
taken_within P (above w) ts h t = tt

pub token_within : {A : Type 0} (P : A → Type 0) (see : Lexeme → Seen A) (ts : List Lexeme)
    → ((t : Lexeme) → HasName t → SeenWithin P (see t)) → HaveNames ts → Within P (token_by see ts)
token_within P see [] f h = tt
token_within P see (t ∷ ts) f h = taken_within P (see t) ts (f t h.0) h.1

abbrev pub Any : {A : Type 0} → A → Type 0
Any x = Unit {0}

any_seen : {A : Type 0} (s : Seen A) → SeenWithin Any s
any_seen (taken x) = tt
any_seen wrong = tt
any_seen (above w) = tt

-- a token that is only looked at
pub mark_within : {A : Type 0} (see : Lexeme → Seen A) (ts : List Lexeme) → HaveNames ts → Within Any (token_by see ts)
mark_within see ts h = token_within Any see ts (λ t n. any_seen (see t)) h

abbrev pub IsName : List ℕ → Type 0
IsName x = is_name x ≡ true

name_seen : (t : Lexeme) → HasName t → SeenWithin IsName (a_name t)
name_seen (name bytes) h = h
name_seen _ h = tt

pub name_within : (ts : List Lexeme) → HaveNames ts → Within IsName (token_by a_name ts)
name_within ts h = token_within IsName a_name ts name_seen h

abbrev pub IsAtMost : ℕ → ℕ → Type 0
IsAtMost most n = nat_le n most ≡ true

small_seen : (most n : ℕ) (t : Bool) → nat_le n most ≡ t → SeenWithin (IsAtMost most) (small_number n t)
small_seen most n true h = h
small_seen most n false h = tt

number_seen : (most : ℕ) (t : Lexeme) → HasName t → SeenWithin (IsAtMost most) (a_number most t)
number_seen most (number n) h = small_seen most n (nat_le n most) refl
number_seen most _ h = tt

pub number_within : (most : ℕ) (ts : List Lexeme) → HaveNames ts → Within (IsAtMost most) (token_by (a_number most) ts)
number_within most ts h = token_within (IsAtMost most) (a_number most) ts (number_seen most) h

-- ---- names behind commas

-- names, of which there is one where one is awaited
pub record AreNames {E : Type 0} (awaited : Bool) (r : List (List ℕ) × E) : Type 0 where
  pub all : list_all is_name r.0 ≡ true
  pub some : awaited ≡ true → is_some_list r.0 ≡ true

ended : {E : Type 0} (ends : Lexeme → Seen E) (ts : List Lexeme) (o : Option E) → HaveNames ts → Within (AreNames true) (names_from ends true ts)
    → Within (AreNames false) (elim o [ None ↦ names_from ends true ts | Some e ↦ Ok (([], e), ts) ])
ended ends ts None h t = within_weak (AreNames true) (AreNames false) _ (λ x n. record { all = n.all; some = λ no'. absurd cc }) t
ended ends ts (Some e) h t = (record { all = refl; some = λ n. absurd cc }, h)

pub names_within : {E : Type 0} (ends : Lexeme → Seen E) (awaited : Bool) (ts : List Lexeme) → HaveNames ts
    → Within (AreNames awaited) (names_from ends awaited ts)
unfolding names_from
names_within ends awaited [] h = tt
names_within ends true (t ∷ ts) h =
    within_then IsName (AreNames true) _ _ (taken_within IsName (a_name t) ts (name_seen t h.0) h.1) (λ x us n k.
    within_then (AreNames false) (AreNames true) _ _ (names_within ends false ts h.1) (λ r vs m l.
    (record { all = and_is _ _ n m.all; some = λ yes. refl }, l)))
names_within ends false (t ∷ ts) h =
    within_then Any (AreNames false) _ _ (taken_within Any (comma_or ends t) ts (any_seen (comma_or ends t)) h.1)
    (λ o us n k. ended ends ts o h.1 (names_within ends true ts h.1))
