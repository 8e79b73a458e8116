-- Names that are read one after another.
use Rattle.std.proofs.Common.{◌≡◌, ℕ, suc, ◌<◌, Bool, true, false, List, [], ◌∷◌, ◌++◌, length, Option, Some, None, Ok, Err, Result, refl, sym, ap, subst, ◌∙◌, arith, append_assoc}
use Rattle.spec_text.specs.declared.stop.Stop.{Stop}
use Rattle.spec_text.specs.declared.lexeme.Lexeme.{Lexeme}
use Rattle.spec_text.specs.Reading.{Reads, ◌>>=◌, Seen, taken, wrong, above, take_seen, token_by, a_name, comma_or, name_at, names_from}
use Rattle.bm_reader.specs.declared.error.ReadError.{ReadError}
use Rattle.bm_reader.specs.declared.error.ReadError.TheVariants as reads
use Rattle.bm_reader.specs.Gives.{Fails}

-- names, and what ends them
abbrev pub Names : Type 0
Names = Reads (List (List ℕ) × Bool)

-- names before those that are still read
abbrev pub with_names : List (List ℕ) → Names → Names
with_names prefix read = read >>= λ r. Ok ((prefix ++ r.0.0, r.0.1), r.1)

-- a name, what ends the names if they end with it, and the tokens behind
abbrev pub NameEnd : Type 0
NameEnd = (List ℕ × Option Bool) × List Lexeme

-- what is read from a name on
abbrev pub from_end : (Lexeme → Seen Bool) → NameEnd → Names
from_end ends ((x, None), rest) = with_names (x ∷ []) (names_from ends true rest)
from_end ends ((x, Some e), rest) = Ok ((x ∷ [], e), rest)

-- ---- a name and the token behind it are two tokens of the names

abbrev after_comma : (Lexeme → Seen Bool) → Seen (Option Bool) → List Lexeme → Names
after_comma ends p us = take_seen p us >>= λ o. elim (o.0) [ None ↦ names_from ends true us | Some e ↦ Ok (([], e), us) ]

abbrev end_seen : List ℕ → Seen (Option Bool) → List Lexeme → Result NameEnd Stop
end_seen x p us = take_seen p us >>= λ o. Ok ((x, o.0), o.1)

comma_is : (ends : Lexeme → Seen Bool) (x : List ℕ) (p : Seen (Option Bool)) (us : List Lexeme)
    → with_names (x ∷ []) (after_comma ends p us) ≡ (end_seen x p us >>= from_end ends)
comma_is ends x (taken None) us = refl
comma_is ends x (taken (Some e)) us = refl
comma_is ends x wrong us = refl
comma_is ends x (above w) us = refl

abbrev after_name : (Lexeme → Seen Bool) → Seen (List ℕ) → List Lexeme → Names
after_name ends q ts = take_seen q ts >>= λ x. names_from ends false ts >>= λ r. Ok ((x.0 ∷ r.0.0, r.0.1), r.1)

abbrev name_seen : (Lexeme → Seen Bool) → Seen (List ℕ) → List Lexeme → Result NameEnd Stop
name_seen ends q ts = take_seen q ts >>= λ x. token_by (comma_or ends) (x.1) >>= λ o. Ok ((x.0, o.0), o.1)

name_is : (ends : Lexeme → Seen Bool) (q : Seen (List ℕ)) (ts : List Lexeme) → after_name ends q ts ≡ (name_seen ends q ts >>= from_end ends)
unfolding names_from
name_is ends (taken x) [] = refl
name_is ends (taken x) (u ∷ us) = comma_is ends x (comma_or ends u) us
name_is ends wrong ts = refl
name_is ends (above w) ts = refl

names_by_ends : (ends : Lexeme → Seen Bool) (ts : List Lexeme) → names_from ends true ts ≡ (name_at ends ts >>= from_end ends)
unfolding names_from name_at
names_by_ends ends [] = refl
names_by_ends ends (t ∷ ts) = name_is ends (a_name t) ts

-- ---- the steps of a loop

regroup : (prefix : List (List ℕ)) (x : List ℕ) (read : Names) → with_names prefix (with_names (x ∷ []) read) ≡ with_names (prefix ++ x ∷ []) read
regroup prefix x (Ok r) = ap (λ (xs : List (List ℕ)). Ok ((xs, r.0.1), r.1)) (simp append_assoc)
regroup prefix x (Err s) = refl

pub names_stop : (e : ReadError) (ends : Lexeme → Seen Bool) (prefix : List (List ℕ)) (ts : List Lexeme) (total : Names) → Fails e (name_at ends ts)
    → with_names prefix (names_from ends true ts) ≡ total → Fails e total
names_stop reads.Memory ends prefix ts total h so_far = tt
names_stop (reads.Stop s) ends prefix ts total h so_far = sym so_far ∙ rw (names_by_ends ends ts, h) refl

pub names_end : (ends : Lexeme → Seen Bool) (prefix : List (List ℕ)) (ts : List Lexeme) (x : List ℕ) (e : Bool) (rest : List Lexeme)
    (total : Names) → name_at ends ts ≡ Ok ((x, Some e), rest)
    → with_names prefix (names_from ends true ts) ≡ total → total ≡ Ok ((prefix ++ x ∷ [], e), rest)
names_end ends prefix ts x e rest total h so_far = sym so_far ∙ rw (names_by_ends ends ts, h) refl

pub names_more : (ends : Lexeme → Seen Bool) (prefix : List (List ℕ)) (ts : List Lexeme) (x : List ℕ) (rest : List Lexeme) (total : Names)
    → name_at ends ts ≡ Ok ((x, None), rest)
    → with_names prefix (names_from ends true ts) ≡ total → with_names (prefix ++ x ∷ []) (names_from ends true rest) ≡ total
names_more ends prefix ts x rest total h so_far =
    let one : with_names prefix (names_from ends true ts) ≡ with_names prefix (with_names (x ∷ []) (names_from ends true rest)) = rw (names_by_ends ends ts, h) refl in
    sym (regroup prefix x (names_from ends true rest)) ∙ sym one ∙ so_far

abbrev done : NameEnd → Result NameEnd Stop
done z = Ok z

ok_is : (y z : NameEnd) → done y ≡ done z → y ≡ z
ok_is y z h = cc

shorter_comma : (x : List ℕ) (p : Seen (Option Bool)) (us : List Lexeme) (z : NameEnd) → end_seen x p us ≡ done z → length (z.1) < suc (suc (length us))
shorter_comma x (taken o) us z h = subst (λ (y : NameEnd). length (y.1) < suc (suc (length us))) (ok_is ((x, o), us) z h) (omega arith)
shorter_comma x wrong us z h = absurd cc
shorter_comma x (above w) us z h = absurd cc

shorter_name : (ends : Lexeme → Seen Bool) (q : Seen (List ℕ)) (ts : List Lexeme) (z : NameEnd) → name_seen ends q ts ≡ done z → length (z.1) < suc (length ts)
shorter_name ends (taken x) [] z h = absurd cc
shorter_name ends (taken x) (u ∷ us) z h = shorter_comma x (comma_or ends u) us z h
shorter_name ends wrong ts z h = absurd cc
shorter_name ends (above w) ts z h = absurd cc

-- a name and the token behind it are taken from the prefix
pub shorter : (ends : Lexeme → Seen Bool) (ts : List Lexeme) (z : NameEnd) → name_at ends ts ≡ Ok z → length (z.1) < length ts
unfolding name_at
shorter ends [] z h = absurd cc
shorter ends (t ∷ ts) z h = shorter_name ends (a_name t) ts z h

pub from_nothing : (read : Names) → with_names [] read ≡ read
from_nothing (Ok r) = refl
from_nothing (Err s) = refl
