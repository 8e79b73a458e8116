-- The texts of branches as sequences, in the order in which they are read.
use Rattle.std.proofs.Common.{◌≡◌, ℕ, ◌-◌, List, [], ◌∷◌, ◌++◌, refl, sym, ap, subst, ◌∙◌, append_assoc, arith}
use Rattle.std.proofs.lemmas.List.{append-nil}
use Rattle.spec_terms.specs.Term.{Pred, Guarded, auth, after, put_reveal, withdraw, split, Contract}
use Rattle.spec_terms.specs.Readable.{count_of, count_under}
use Rattle.spec_text.specs.declared.token.Keyword.TheVariants as word
use Rattle.spec_text.specs.declared.token.Symbol.TheVariants as mark
use Rattle.spec_text.specs.declared.lexeme.Lexeme.{Lexeme}
use Rattle.spec_text.specs.declared.lexeme.Lexeme.TheVariants.{Keyword as keyword, Symbol as symbol, Name as name, Number as number}
use Rattle.spec_text.specs.Grammar.{SpellsHeading, SpellsBranch, SpellsChoice}
use Rattle.spec_text.specs.ReadContract.{Heading}
use Rattle.theory_bitcoin.proofs.Languages.{Nothing, Seq}
use Rattle.theory_text.proofs.Told.Tells.{Behind}
use Rattle.theory_text.proofs.Told.Sees.{As, that, named, numbered}
use Rattle.theory_text.proofs.Told.Formulas.{tail_is}
use Rattle.theory_text.proofs.Told.Headings.{headed, HeadedBy, Puts, Reveals, put_to, put_from, reveal_to, reveal_from}
use Rattle.theory_text.proofs.Told.BranchTexts.{BranchText, ChoiceText, PartsText}

-- ---- behind a name

abbrev Auth : List ℕ → ℕ → List Lexeme → Guarded × ℕ → Type 0
Auth party b = Seq (As (that (symbol mark.Colon))) (λ u. Seq (BranchText b) (λ g. Nothing (auth party (g.0), g.1)))

pub auth_to : (party : List ℕ) (b : ℕ) (t : List Lexeme) (v : Guarded × ℕ) → Auth party b t v → Behind (name party) (BranchText b) t v
auth_to party b t v s =
    let is : t ≡ symbol mark.Colon ∷ s.back.first = s.parts ∙ rw (s.prefix.single, s.back.parts, s.back.back.empty, append-nil s.back.first) refl in
    subst (Behind (name party) (BranchText b) t) s.back.back.same
    ((s.back.first, ap (λ (u : List Lexeme). name party ∷ u) is, s.back.prefix.0), s.back.prefix.1)

auth_of : (party : List ℕ) (b : ℕ) (t : List Lexeme) (g : Guarded) (n : ℕ) → SpellsBranch (name party ∷ t) g → n ≡ b - count_under g → Auth party b t (g, n)
auth_of party b t (auth p body) n l e =
    let k = l.1 in
    let same : party ≡ p = cc in
    record {
      first = symbol mark.Colon ∷ [];
      second = l.0;
      value = tt;
      parts = cc;
      prefix = record { single = refl };
      back = record {
        first = l.0;
        second = [];
        value = (body, n);
        parts = sym
            (append-nil l.0);
        prefix = (l.2, e);
        back = record { empty = refl; same = ap (λ (z : List ℕ). (auth z body, n)) same };
      };
    }
auth_of party b t (after height body) n l e = let k = l.1 in absurd cc
auth_of party b t (put_reveal puts reveals test next) n l e = let k = (headed (name party) t l.0 l.1 puts reveals test l.2 l.3).3 in absurd cc
auth_of party b t (withdraw p) n l e = absurd cc
auth_of party b t (split parts) n l e = let k = l.1 in absurd cc

pub auth_from : (party : List ℕ) (b : ℕ) (t : List Lexeme) (v : Guarded × ℕ) → Behind (name party) (BranchText b) t v → Auth party b t v
auth_from party b t v l = auth_of party b t (v.0) (v.1) (l.0) (l.1)

-- ---- behind `after`

abbrev pub After : ℕ → List Lexeme → Guarded × ℕ → Type 0
After b = Seq (As numbered) (λ h. Seq (As (that (symbol mark.Colon))) (λ u. Seq (BranchText b) (λ g. Nothing (after h (g.0), g.1))))

pub after_to : (b : ℕ) (t : List Lexeme) (v : Guarded × ℕ) → After b t v → Behind (keyword word.After) (BranchText b) t v
after_to b t v s =
    let r = s.back.back in
    let is : t ≡ number s.value ∷ symbol mark.Colon ∷ r.first =
    s.parts ∙ rw (s.prefix.single, s.back.parts, s.back.prefix.single, r.parts, r.back.empty, append-nil r.first) refl in
    subst (Behind (keyword word.After) (BranchText b) t) r.back.same ((r.first, ap (λ (u : List Lexeme). keyword word.After ∷ u) is, r.prefix.0), r.prefix.1)

after_of : (b : ℕ) (t : List Lexeme) (g : Guarded) (n : ℕ) → SpellsBranch (keyword word.After ∷ t) g → n ≡ b - count_under g → After b t (g, n)
after_of b t (auth p body) n l e = let k = l.1 in absurd cc
after_of b t (after height body) n l e = record {
  first = number height ∷ [];
  second = symbol mark.Colon ∷ l.0;
  value = height;
  parts = tail_is (keyword word.After) (keyword word.After) t _ l.1;
  prefix = record { single = refl };
  back = record {
    first = symbol mark.Colon ∷ [];
    second = l.0;
    value = tt;
    parts = refl;
    prefix = record { single = refl };
    back = record { first = l.0; second = []; value = (body, n); parts = sym (append-nil l.0); prefix = (l.2, e); back = record { empty = refl; same = refl } };
  };
}
after_of b t (put_reveal puts reveals test next) n l e = let k = (headed (keyword word.After) t l.0 l.1 puts reveals test l.2 l.3).3 in absurd cc
after_of b t (withdraw p) n l e = absurd cc
after_of b t (split parts) n l e = let k = l.1 in absurd cc

pub after_from : (b : ℕ) (t : List Lexeme) (v : Guarded × ℕ) → Behind (keyword word.After) (BranchText b) t v → After b t v
after_from b t v l = after_of b t (v.0) (v.1) (l.0) (l.1)

-- ---- behind `put` and `reveal`

-- the contract behind a heading
abbrev pub Headed : ℕ → Heading → List Lexeme → Guarded × ℕ → Type 0
Headed b h = Seq (ChoiceText b) (λ c. Nothing (put_reveal (h.0) (h.1) (h.2) (c.0), c.1))

abbrev pub Put : ℕ → List Lexeme → Guarded × ℕ → Type 0
Put b = Seq Puts (Headed b)

abbrev pub Reveal : ℕ → List Lexeme → Guarded × ℕ → Type 0
Reveal b = Seq (Reveals []) (Headed b)

headed_to : (c : Lexeme) (H : List Lexeme → Heading → Type 0) → ((t : List Lexeme) (h : Heading) → H t h → HeadedBy c t h)
    → (b : ℕ) (t : List Lexeme) (v : Guarded × ℕ) → Seq H (Headed b) t v → Behind c (BranchText b) t v
headed_to c H to b t v s =
    let h = to s.first s.value s.prefix in
    let is : t ≡ s.first ++ s.back.first = s.parts ∙ rw (s.back.parts, s.back.back.empty, append-nil s.back.first) refl in
    let whole : c ∷ t ≡ h.0 ++ symbol mark.Dot ∷ s.back.first =
    ap (λ (u : List Lexeme). c ∷ u) is ∙ ap (λ (u : List Lexeme). u ++ s.back.first) h.1 ∙ append_assoc h.0 (symbol mark.Dot ∷ []) s.back.first in
    subst (Behind c (BranchText b) t) s.back.back.same ((h.0, s.back.first, whole, h.2, s.back.prefix.0), s.back.prefix.1)

headed_of : (c : Lexeme) (H : List Lexeme → Heading → Type 0)
    → ((th : List Lexeme) (puts reveals : List (List ℕ)) (test : Pred) → SpellsHeading (c ∷ th) puts reveals test
    → H (th ++ symbol mark.Dot ∷ []) (puts, reveals, test))
    → (b : ℕ) (t th tn : List Lexeme) (puts reveals : List (List ℕ)) (test : Pred) (next : Contract) (n : ℕ) → c ∷ t ≡ th ++ symbol mark.Dot
    ∷ tn → SpellsHeading th puts reveals test → SpellsChoice tn next → n ≡ b - count_of next
    → Seq H (Headed b) t (put_reveal puts reveals test next, n)
headed_of c H from b t th tn puts reveals test next n is l k e =
    let h = headed c t th tn puts reveals test is l in
    record {
      first = h.0 ++ symbol mark.Dot ∷ [];
      second = tn;
      value = (puts, reveals, test);
      parts = h.1 ∙ sym (append_assoc h.0 (symbol mark.Dot ∷ []) tn);
      prefix = from h.0 puts reveals test h.2;
      back = record { first = tn; second = []; value = (next, n); parts = sym (append-nil tn); prefix = (k, e); back = record { empty = refl; same = refl } };
    }

pub puts_to : (b : ℕ) (t : List Lexeme) (v : Guarded × ℕ) → Put b t v → Behind (keyword word.Put) (BranchText b) t v
puts_to b t v s = headed_to (keyword word.Put) Puts put_to b t v s

puts_of : (b : ℕ) (t : List Lexeme) (g : Guarded) (n : ℕ) → SpellsBranch (keyword word.Put ∷ t) g → n ≡ b - count_under g → Put b t (g, n)
puts_of b t (auth p body) n l e = let k = l.1 in absurd cc
puts_of b t (after height body) n l e = let k = l.1 in absurd cc
puts_of b t (put_reveal puts reveals test next) n l e = headed_of (keyword word.Put) Puts put_from b t l.0 l.1 puts reveals test next n l.2 l.3 l.4 e
puts_of b t (withdraw p) n l e = absurd cc
puts_of b t (split parts) n l e = let k = l.1 in absurd cc

pub puts_from : (b : ℕ) (t : List Lexeme) (v : Guarded × ℕ) → Behind (keyword word.Put) (BranchText b) t v → Put b t v
puts_from b t v l = puts_of b t (v.0) (v.1) (l.0) (l.1)

pub reveals_to : (b : ℕ) (t : List Lexeme) (v : Guarded × ℕ) → Reveal b t v → Behind (keyword word.Reveal) (BranchText b) t v
reveals_to b t v s = headed_to (keyword word.Reveal) (Reveals []) reveal_to b t v s

reveals_of : (b : ℕ) (t : List Lexeme) (g : Guarded) (n : ℕ) → SpellsBranch (keyword word.Reveal ∷ t) g → n ≡ b - count_under g → Reveal b t (g, n)
reveals_of b t (auth p body) n l e = let k = l.1 in absurd cc
reveals_of b t (after height body) n l e = let k = l.1 in absurd cc
reveals_of b t (put_reveal puts reveals test next) n l e =
    headed_of (keyword word.Reveal) (Reveals []) reveal_from b t l.0 l.1 puts reveals test next n l.2 l.3 l.4 e
reveals_of b t (withdraw p) n l e = absurd cc
reveals_of b t (split parts) n l e = let k = l.1 in absurd cc

pub reveals_from : (b : ℕ) (t : List Lexeme) (v : Guarded × ℕ) → Behind (keyword word.Reveal) (BranchText b) t v → Reveal b t v
reveals_from b t v l = reveals_of b t (v.0) (v.1) (l.0) (l.1)

-- ---- behind `withdraw`

abbrev pub Withdraw : ℕ → List Lexeme → Guarded × ℕ → Type 0
Withdraw b = Seq (As named) (λ x. Nothing (withdraw x, b))

pub withdraw_to : (b : ℕ) (t : List Lexeme) (v : Guarded × ℕ) → Withdraw b t v → Behind (keyword word.Withdraw) (BranchText b) t v
withdraw_to b t v s =
    let is : t ≡ name s.value ∷ [] = s.parts ∙ rw (s.prefix.single, s.back.empty) refl in
    subst (Behind (keyword word.Withdraw) (BranchText b) t) s.back.same (ap (λ (u : List Lexeme). keyword word.Withdraw ∷ u) is, omega arith)

withdraw_of : (b : ℕ) (t : List Lexeme) (g : Guarded) (n : ℕ) → SpellsBranch (keyword word.Withdraw ∷ t) g → n ≡ b - count_under g → Withdraw b t (g, n)
withdraw_of b t (auth p body) n l e = let k = l.1 in absurd cc
withdraw_of b t (after height body) n l e = let k = l.1 in absurd cc
withdraw_of b t (put_reveal puts reveals test next) n l e = let k = (headed (keyword word.Withdraw) t l.0 l.1 puts reveals test l.2 l.3).3 in absurd cc
withdraw_of b t (withdraw p) n l e =
    let same : b ≡ n = omega (arith, e) in
    record {
      first = name p ∷ [];
      second = [];
      value = p;
      parts = tail_is (keyword word.Withdraw) (keyword word.Withdraw) t _
          l;
      prefix = record { single = refl };
      back = record { empty = refl; same = ap (λ (z : ℕ). (withdraw p, z)) same };
    }
withdraw_of b t (split parts) n l e = let k = l.1 in absurd cc

pub withdraw_from : (b : ℕ) (t : List Lexeme) (v : Guarded × ℕ) → Behind (keyword word.Withdraw) (BranchText b) t v → Withdraw b t v
withdraw_from b t v l = withdraw_of b t (v.0) (v.1) (l.0) (l.1)

-- ---- behind `split`

abbrev pub Split : ℕ → List Lexeme → Guarded × ℕ → Type 0
Split b = Seq (As (that (symbol mark.LeftBracket))) (λ u. Seq (PartsText b) (λ p. Nothing (split (p.0), p.1)))

pub split_to : (b : ℕ) (t : List Lexeme) (v : Guarded × ℕ) → Split b t v → Behind (keyword word.Split) (BranchText b) t v
split_to b t v s =
    let p = s.back.prefix.0 in
    let is : t ≡ symbol mark.LeftBracket ∷ s.back.first = s.parts ∙ rw (s.prefix.single, s.back.parts, s.back.back.empty, append-nil s.back.first) refl in
    let whole : keyword word.Split ∷ t ≡ keyword word.Split ∷ symbol mark.LeftBracket ∷ (p.0 ++ symbol mark.RightBracket ∷ []) =
    ap (λ (u : List Lexeme). keyword word.Split ∷ u) is ∙ ap (λ (u : List Lexeme). keyword word.Split ∷ symbol mark.LeftBracket ∷ u) p.1 in
    subst (Behind (keyword word.Split) (BranchText b) t) s.back.back.same ((p.0, whole, p.2), s.back.prefix.1)

split_of : (b : ℕ) (t : List Lexeme) (g : Guarded) (n : ℕ) → SpellsBranch (keyword word.Split ∷ t) g → n ≡ b - count_under g → Split b t (g, n)
split_of b t (auth p body) n l e = let k = l.1 in absurd cc
split_of b t (after height body) n l e = let k = l.1 in absurd cc
split_of b t (put_reveal puts reveals test next) n l e = let k = (headed (keyword word.Split) t l.0 l.1 puts reveals test l.2 l.3).3 in absurd cc
split_of b t (withdraw p) n l e = absurd cc
split_of b t (split parts) n l e = record {
  first = symbol mark.LeftBracket ∷ [];
  second = l.0 ++ symbol mark.RightBracket ∷ [];
  value = tt;
  parts = tail_is (keyword word.Split) (keyword word.Split) t _ l.1;
  prefix = record { single = refl };
  back = record {
    first = l.0 ++ symbol mark.RightBracket
        ∷ [];
    second = [];
    value = (parts, n);
    parts = sym
        (append-nil (l.0 ++ symbol mark.RightBracket ∷ []));
    prefix = ((l.0, refl, l.2), e);
    back = record { empty = refl; same = refl };
  };
}

pub split_from : (b : ℕ) (t : List Lexeme) (v : Guarded × ℕ) → Behind (keyword word.Split) (BranchText b) t v → Split b t v
split_from b t v l = split_of b t (v.0) (v.1) (l.0) (l.1)
