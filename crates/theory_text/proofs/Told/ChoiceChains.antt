-- The texts of choices and of parts as sequences, in the order in which they are read.
use Rattle.std.proofs.Common.{◌≡◌, ℕ, ◌+◌, ◌-◌, inl, inr, Bool, true, false, List, [], ◌∷◌, ◌++◌, refl, sym, ap, subst, ◌∙◌, append_assoc, arith}
use Rattle.std.proofs.lemmas.List.{append-nil}
use Rattle.spec_terms.specs.Term.{Guarded, Contract, no_branch, branch, Parts, no_part, part}
use Rattle.spec_terms.specs.Readable.{count_of, count_under, count_of_parts}
use Rattle.spec_text.specs.declared.token.Symbol.TheVariants as mark
use Rattle.spec_text.specs.declared.lexeme.Lexeme.{Lexeme}
use Rattle.spec_text.specs.declared.lexeme.Lexeme.TheVariants.{Symbol as symbol, Number as number}
use Rattle.spec_text.specs.Grammar.{SpellsBranch, SpellsChoice, SpellsMore, SpellsParts, SpellsMoreParts}
use Rattle.theory_bitcoin.proofs.Languages.{Nothing, Seq}
use Rattle.theory_text.proofs.Told.Tells.{Behind}
use Rattle.theory_text.proofs.Told.Sees.{As, that, numbered}
use Rattle.theory_text.proofs.Told.Formulas.{head_is, tail_is}
use Rattle.theory_text.proofs.Told.BranchTexts.{Branches, BranchText, ChoiceText, BranchesText, PartsText, branch_first}

-- ---- branches up to the bracket

abbrev pub plus_token : Bool → Lexeme
plus_token true = symbol mark.Plus
plus_token false = symbol mark.RightParen

-- behind a branch and the token after it
abbrev pub BranchesRest : Guarded × ℕ → Bool → List Lexeme → Contract × ℕ → Type 0
BranchesRest g true = Seq (BranchesText (g.1)) (λ r. Nothing (branch (g.0) (r.0), r.1))
BranchesRest g false = Nothing (branch (g.0) no_branch, g.1)

abbrev BranchesSeq : ℕ → List Lexeme → Contract × ℕ → Type 0
BranchesSeq b = Seq (BranchText (b - 1)) (λ g. Seq (As plus_token) (BranchesRest g))

more_of : (u : List Lexeme) (c : Contract) → Branches u c → (tm : List Lexeme) × (symbol mark.Plus ∷ u ≡ tm ++ symbol mark.RightParen ∷ []) × SpellsMore tm c
more_of u no_branch l = absurd l
more_of u (branch g bs) l = (
  symbol mark.Plus
      ∷ (l.0 ++ l.1),
  ap (λ (z : List Lexeme). symbol mark.Plus ∷ z) (l.2 ∙ sym (append_assoc l.0 l.1 (symbol mark.RightParen ∷ []))),
  (l.0, l.1, refl, l.3, l.4),
)

branches_at_end : (b : ℕ) (t tb ts : List Lexeme) (g : Guarded × ℕ) (o : Bool) (v : Contract × ℕ) → t ≡ tb ++ plus_token o ∷ ts
    → BranchText (b - 1) tb g → BranchesRest g o ts v → BranchesText b t v
branches_at_end b t tb ts g false v is l k =
    let whole : t ≡ tb ++ symbol mark.RightParen ∷ [] = is ∙ ap (λ (z : List Lexeme). tb ++ symbol mark.RightParen ∷ z) k.empty in
    subst (BranchesText b t) k.same ((tb, [], whole, l.0, refl), omega (arith, l.1))
branches_at_end b t tb ts g true v is l k =
    let m = more_of k.first k.value.0 k.prefix.0 in
    let text : ts ≡ k.first = k.parts ∙ rw (k.back.empty, append-nil k.first) refl in
    let whole : t ≡ tb ++ (m.0 ++ symbol mark.RightParen ∷ []) =
    is ∙ ap (λ (z : List Lexeme). tb ++ symbol mark.Plus ∷ z) text ∙ ap (λ (z : List Lexeme). tb ++ z) m.1 in
    subst (BranchesText b t) k.back.same ((tb, m.0, whole, l.0, m.2), omega (arith, l.1, k.prefix.1))

pub branches_to : (b : ℕ) (t : List Lexeme) (v : Contract × ℕ) → BranchesSeq b t v → BranchesText b t v
branches_to b t v s =
    let is : t ≡ s.first ++ plus_token s.back.value ∷ s.back.second = s.parts ∙ rw (s.back.parts, s.back.prefix.single) refl in
    branches_at_end b t s.first s.back.second s.value s.back.value v is s.prefix s.back.back

branches_of : (b : ℕ) (t tb tm : List Lexeme) (g : Guarded) (bs : Contract) (n : ℕ) → t ≡ tb ++ (tm ++ symbol mark.RightParen ∷ [])
    → SpellsBranch tb g → SpellsMore tm bs → n ≡ b - (count_under g + 1 + count_of bs) → BranchesSeq b t (branch g bs, n)
branches_of b t tb tm g no_branch n is l m e =
    let same : (b - 1) - count_under g ≡ n = omega (arith, e) in
    record {
      first = tb;
      second = symbol mark.RightParen ∷ [];
      value = (g, (b - 1) - count_under g);
      parts = is ∙ ap (λ (z : List Lexeme). tb ++ (z ++ symbol mark.RightParen ∷ [])) m;
      prefix = (l, refl);
      back = record {
        first = symbol mark.RightParen
            ∷ [];
        second = [];
        value = false;
        parts = refl;
        prefix = record { single = refl };
        back = record {
          empty = refl;
          same = ap
              (λ (z : ℕ). (branch g no_branch, z)) same;
        };
      };
    }
branches_of b t tb tm g (branch h bs) n is l m e =
    let same : ((b - 1) - count_under g) - (count_under h + 1 + count_of bs) ≡ n = omega (arith, e) in
    let text : tm ++ symbol mark.RightParen ∷ [] ≡ symbol mark.Plus ∷ (m.0 ++ (m.1 ++ symbol mark.RightParen ∷ [])) =
    ap (λ (z : List Lexeme). z ++ symbol mark.RightParen ∷ []) m.2
    ∙ ap (λ (z : List Lexeme). symbol mark.Plus ∷ z) (append_assoc m.0 m.1 (symbol mark.RightParen ∷ [])) in
    record {
      first = tb;
      second = symbol mark.Plus ∷ (m.0 ++ (m.1 ++ symbol mark.RightParen ∷ []));
      value = (g, (b - 1) - count_under g);
      parts = is ∙ ap (λ (z : List Lexeme). tb ++ z) text;
      prefix = (l, refl);
      back = record {
        first = symbol mark.Plus ∷ [];
        second = m.0 ++ (m.1 ++ symbol mark.RightParen ∷ []);
        value = true;
        parts = refl;
        prefix = record { single = refl };
        back = record {
          first = m.0 ++ (m.1 ++ symbol mark.RightParen ∷ []);
          second = [];
          value = (branch h bs, ((b - 1) - count_under g) - (count_under h + 1 + count_of bs));
          parts = sym (append-nil (m.0 ++ (m.1 ++ symbol mark.RightParen ∷ [])));
          prefix = ((m.0, m.1, refl, m.3, m.4), refl);
          back = record { empty = refl; same = ap (λ (z : ℕ). (branch g (branch h bs), z)) same };
        };
      };
    }

branches_back : (b : ℕ) (t : List Lexeme) (c : Contract) (n : ℕ) → Branches t c → n ≡ b - count_of c → BranchesSeq b t (c, n)
branches_back b t no_branch n l e = absurd l
branches_back b t (branch g bs) n l e = branches_of b t l.0 l.1 g bs n l.2 l.3 l.4 e

pub branches_from : (b : ℕ) (t : List Lexeme) (v : Contract × ℕ) → BranchesText b t v → BranchesSeq b t v
branches_from b t v l = branches_back b t (v.0) (v.1) (l.0) (l.1)

-- ---- one branch

abbrev pub OneSeq : ℕ → List Lexeme → Contract × ℕ → Type 0
OneSeq b = Seq (BranchText (b - 1)) (λ g. Nothing (branch (g.0) no_branch, g.1))

pub one_to : (b : ℕ) (t : List Lexeme) (v : Contract × ℕ) → OneSeq b t v → ChoiceText b t v
one_to b t v s =
    let is : t ≡ s.first = s.parts ∙ rw (s.back.empty, append-nil s.first) refl in
    subst (ChoiceText b t) s.back.same (inl (subst (λ (z : List Lexeme). SpellsBranch z (s.value.0)) (sym is) s.prefix.0, refl), omega (arith, s.prefix.1))

-- a bracket opens
abbrev pub opens : Lexeme → Bool
opens (symbol mark.LeftParen) = true
opens _ = false

one_of : (b : ℕ) (c : Lexeme) (t : List Lexeme) (k : Contract) (n : ℕ) → opens c ≡ false → SpellsChoice (c ∷ t) k → n ≡ b - count_of k → OneSeq b (c ∷ t) (k, n)
one_of b c t no_branch n h l e = absurd l
one_of b c t (branch g bs) n h (inl w) e =
    let one : n ≡ b - (count_under g + 1 + 0) = subst (λ (z : Contract). n ≡ b - (count_under g + 1 + count_of z)) w.1 e in
    let same : (b - 1) - count_under g ≡ n = omega (arith, one) in
    record {
      first = c ∷ t;
      second = [];
      value = (g, (b - 1) - count_under g);
      parts = sym (append-nil (c ∷ t));
      prefix = (w.0, refl);
      back = record { empty = refl; same = λ i. (branch g (sym w.1 i), same i) };
    }
one_of b c t (branch g bs) n h (inr w) e =
    let k : opens (symbol mark.LeftParen) ≡ false = subst (λ (z : Lexeme). opens z ≡ false) (head_is c (symbol mark.LeftParen) t _ w.2) h in
    absurd cc

pub one_from : (b : ℕ) (c : Lexeme) (t : List Lexeme) (v : Contract × ℕ) → opens c ≡ false → ChoiceText b (c ∷ t) v → OneSeq b (c ∷ t) v
one_from b c t v h l = one_of b c t (v.0) (v.1) h (l.0) (l.1)

-- ---- branches in brackets

opened : (t : List Lexeme) (c : Contract) → Branches t c → SpellsChoice (symbol mark.LeftParen ∷ t) c
opened t no_branch l = l
opened t (branch g bs) l = inr (l.0, l.1, ap (λ (z : List Lexeme). symbol mark.LeftParen ∷ z) l.2, l.3, l.4)

pub opened_to : (b : ℕ) (t : List Lexeme) (v : Contract × ℕ) → BranchesText b t v → Behind (symbol mark.LeftParen) (ChoiceText b) t v
opened_to b t v l = (opened t (v.0) (l.0), l.1)

closed : (t : List Lexeme) (c : Contract) → SpellsChoice (symbol mark.LeftParen ∷ t) c → Branches t c
closed t no_branch l = l
closed t (branch g bs) (inl w) = absurd (branch_first (symbol mark.LeftParen) t g w.0 refl)
closed t (branch g bs) (inr w) = (w.0, w.1, tail_is (symbol mark.LeftParen) (symbol mark.LeftParen) t _ w.2, w.3, w.4)

pub opened_from : (b : ℕ) (t : List Lexeme) (v : Contract × ℕ) → Behind (symbol mark.LeftParen) (ChoiceText b) t v → BranchesText b t v
opened_from b t v l = (closed t (v.0) (l.0), l.1)

-- ---- parts up to the bracket

abbrev pub comma_token : Bool → Lexeme
comma_token true = symbol mark.Comma
comma_token false = symbol mark.RightBracket

-- behind a part and the token after it
abbrev pub PartsRest : ℕ → Contract × ℕ → Bool → List Lexeme → Parts × ℕ → Type 0
PartsRest n c true = Seq (PartsText (c.1)) (λ r. Nothing (part n (c.0) (r.0), r.1))
PartsRest n c false = Nothing (part n (c.0) no_part, c.1)

abbrev PartsSeq : ℕ → List Lexeme → Parts × ℕ → Type 0
PartsSeq b = Seq (As numbered) (λ n. Seq (As (that (symbol mark.Arrow))) (λ u. Seq (ChoiceText b) (λ c. Seq (As comma_token) (PartsRest n c))))

further : (t : List Lexeme) (ps : Parts) → SpellsParts t ps → SpellsMoreParts (symbol mark.Comma ∷ t) ps
further t no_part l = absurd l
further t (part n c ps) l = (l.0, l.1, ap (λ (z : List Lexeme). symbol mark.Comma ∷ z) l.2, l.3, l.4)

parts_at_end : (b : ℕ) (t tn ts : List Lexeme) (n : ℕ) (c : Contract × ℕ) (o : Bool) (v : Parts × ℕ) → t ≡ number n ∷ symbol mark.Arrow
    ∷ (tn ++ comma_token o ∷ ts) → ChoiceText b tn c → PartsRest n c o ts v → PartsText b t v
parts_at_end b t tn ts n c false v is l k =
    let whole : t ≡ (number n ∷ symbol mark.Arrow ∷ (tn ++ [])) ++ symbol mark.RightBracket ∷ [] =
    is ∙ ap (λ (z : List Lexeme). number n ∷ symbol mark.Arrow ∷ (tn ++ symbol mark.RightBracket ∷ z)) k.empty
    ∙ ap (λ (z : List Lexeme). number n ∷ symbol mark.Arrow ∷ (z ++ symbol mark.RightBracket ∷ [])) (sym (append-nil tn)) in
    subst (PartsText b t) k.same ((number n ∷ symbol mark.Arrow ∷ (tn ++ []), whole, (tn, [], refl, l.0, refl)), omega (arith, l.1))
parts_at_end b t tn ts n c true v is l k =
    let p = k.prefix.0 in
    let text : ts ≡ p.0 ++ symbol mark.RightBracket ∷ [] = k.parts ∙ rw (k.back.empty, append-nil k.first) p.1 in
    let whole : t ≡ (number n ∷ symbol mark.Arrow ∷ (tn ++ symbol mark.Comma ∷ p.0)) ++ symbol mark.RightBracket ∷ [] =
    is ∙ ap (λ (z : List Lexeme). number n ∷ symbol mark.Arrow ∷ (tn ++ symbol mark.Comma ∷ z)) text
    ∙ ap (λ (z : List Lexeme). number n ∷ symbol mark.Arrow ∷ z) (sym (append_assoc tn (symbol mark.Comma ∷ p.0) (symbol mark.RightBracket ∷ []))) in
    subst (PartsText b t) k.back.same (
      (
        number n ∷ symbol mark.Arrow
            ∷ (tn ++ symbol mark.Comma ∷ p.0),
        whole,
        (tn, symbol mark.Comma ∷ p.0, refl, l.0, further p.0 (k.value.0) p.2),
      ),
      omega (arith, l.1, k.prefix.1),
    )

pub parts_to : (b : ℕ) (t : List Lexeme) (v : Parts × ℕ) → PartsSeq b t v → PartsText b t v
parts_to b t v s =
    let r = s.back.back in
    let is : t ≡ number s.value ∷ symbol mark.Arrow ∷ (r.first ++ comma_token r.back.value ∷ r.back.second) =
    s.parts ∙ rw (s.prefix.single, s.back.parts, s.back.prefix.single, r.parts, r.back.parts, r.back.prefix.single) refl in
    parts_at_end b t r.first r.back.second s.value r.value r.back.value v is r.prefix r.back.back

parts_tail : (b : ℕ) (tm : List Lexeme) (v : ℕ) (c : Contract) (ps : Parts) (n : ℕ) → SpellsMoreParts tm ps → n
    ≡ b - (count_of c + count_of_parts ps) → Seq (As comma_token) (PartsRest v (c, b - count_of c)) (tm ++ symbol mark.RightBracket ∷ []) (part v c ps, n)
parts_tail b tm v c no_part n m e =
    let same : b - count_of c ≡ n = omega (arith, e) in
    record {
      first = symbol mark.RightBracket ∷ [];
      second = [];
      value = false;
      parts = ap (λ (z : List Lexeme). z ++ symbol mark.RightBracket ∷ []) m;
      prefix = record { single = refl };
      back = record { empty = refl; same = ap (λ (z : ℕ). (part v c no_part, z)) same };
    }
parts_tail b tm v c (part w d ps) n m e =
    let same : (b - count_of c) - (count_of d + count_of_parts ps) ≡ n = omega (arith, e) in
    record {
      first = symbol mark.Comma ∷ [];
      second = (number w ∷ symbol mark.Arrow ∷ (m.0 ++ m.1)) ++ symbol mark.RightBracket ∷ [];
      value = true;
      parts = ap (λ (z : List Lexeme). z ++ symbol mark.RightBracket ∷ []) m.2;
      prefix = record { single = refl };
      back = record {
        first = (number w ∷ symbol mark.Arrow ∷ (m.0 ++ m.1)) ++ symbol mark.RightBracket ∷ [];
        second = [];
        value = (part w d ps, (b - count_of c) - (count_of d + count_of_parts ps));
        parts = sym (append-nil ((number w ∷ symbol mark.Arrow ∷ (m.0 ++ m.1)) ++ symbol mark.RightBracket ∷ []));
        prefix = ((number w ∷ symbol mark.Arrow ∷ (m.0 ++ m.1), refl, (m.0, m.1, refl, m.3, m.4)), refl);
        back = record { empty = refl; same = ap (λ (z : ℕ). (part v c (part w d ps), z)) same };
      };
    }

parts_of : (b : ℕ) (t tp : List Lexeme) (ps : Parts) (n : ℕ) → t ≡ tp ++ symbol mark.RightBracket ∷ [] → SpellsParts tp ps → n
    ≡ b - count_of_parts ps → PartsSeq b t (ps, n)
parts_of b t tp no_part n is l e = absurd l
parts_of b t tp (part v c ps) n is l e = record {
  first = number v ∷ [];
  second = symbol mark.Arrow ∷ (l.0 ++ (l.1 ++ symbol mark.RightBracket ∷ []));
  value = v;
  parts = is ∙ ap (λ (z : List Lexeme). z ++ symbol mark.RightBracket ∷ []) l.2
      ∙ ap (λ (z : List Lexeme). number v ∷ symbol mark.Arrow ∷ z) (append_assoc l.0 l.1 (symbol mark.RightBracket ∷ []));
  prefix = record { single = refl };
  back = record {
    first = symbol mark.Arrow ∷ [];
    second = l.0 ++ (l.1 ++ symbol mark.RightBracket ∷ []);
    value = tt;
    parts = refl;
    prefix = record { single = refl };
    back = record {
      first = l.0;
      second = l.1 ++ symbol mark.RightBracket ∷ [];
      value = (c, b - count_of c);
      parts = refl;
      prefix = (l.3, refl);
      back = parts_tail b l.1 v c ps n l.4 e;
    };
  };
}

pub parts_from : (b : ℕ) (t : List Lexeme) (v : Parts × ℕ) → PartsText b t v → PartsSeq b t v
parts_from b t v l = parts_of b t l.0.0 (v.0) (v.1) l.0.1 l.0.2 l.1
