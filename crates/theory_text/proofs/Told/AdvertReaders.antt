-- What the reader of adverts tells.
use Rattle.std.proofs.Common.{◌≡◌, ℕ, zero, suc, ◌+◌, ◌-◌, inl, inr, Bool, true, false, List, [], ◌∷◌, ◌++◌, Ok, refl, sym, ap, subst, ◌∙◌}
use Rattle.std.proofs.lemmas.List.{append-nil}
use Rattle.spec_terms.specs.Term.{Contract, no_branch, branch}
use Rattle.spec_terms.specs.Advert.{Advert}
use Rattle.spec_terms.specs.declared.pre.Pre.{Pre}
use Rattle.spec_terms.specs.Readable.{most_depth, most_branches, most_deposits, most_secrets, count_of}
use Rattle.spec_data.specs.Ranges.{max_money}
use Rattle.spec_text.specs.declared.token.Keyword.TheVariants as word
use Rattle.spec_text.specs.declared.token.Symbol.TheVariants as mark
use Rattle.spec_text.specs.declared.lexeme.Lexeme.{Lexeme}
use Rattle.spec_text.specs.declared.lexeme.Lexeme.TheVariants.{Keyword as keyword, Symbol as symbol, Name as name, Number as number, LongName as long_name, HugeNumber as huge_number}
use Rattle.spec_text.specs.Grammar.{SpellsChoice, SpellsPre, SpellsFee, Spells, StandsFor}
use Rattle.spec_text.specs.Reading.{Reads, ◌>>=◌}
use Rattle.spec_text.specs.ReadContract.{choice_with, branch_at}
use Rattle.spec_text.specs.ReadAdvert.{fee_at, advert_of, advert_at}
use Rattle.theory_bitcoin.proofs.Languages.{Some_text, Nothing, Seq}
use Rattle.theory_text.proofs.Told.Tells.{Tells, Exact, Clear, pure, seq, transfer, Behind, behind}
use Rattle.theory_text.proofs.Told.FirstToken.{ended_told, narrow}
use Rattle.theory_text.proofs.Told.Sees.{As, token, clear_as, that, the_symbol, numbered, the_number}
use Rattle.theory_text.proofs.Told.Clears.{Clear_to, clear_to, clear_of, clear_pure, clear_seq, clear_from, clear_behind, clear_first, clear_zero}
use Rattle.theory_text.proofs.Told.Formulas.{head_is, tail_is}
use Rattle.theory_text.proofs.Told.BranchTexts.{ChoiceText, some_choice, branch_first}
use Rattle.theory_text.proofs.Told.BranchEnds.{choice_nothing, choice_clear}
use Rattle.theory_text.proofs.Told.BranchReaders.{branch_exact, choice_exact}
use Rattle.theory_text.proofs.Told.Entries.{Entries, entries_clear, entries_exact}

-- ---- the fee and the contract

-- a fee, if there is one, and the contract of the advert with these entries
pub record FeeRoot (pre : List Pre) (t : List Lexeme) (advert : Advert) : Type 0 where
  pub fee_part : List Lexeme
  pub root_part : List Lexeme
  pub parts : t ≡ fee_part ++ root_part
  pub entries : pre ≡ advert.pre
  pub fee : SpellsFee fee_part advert.fee
  pub root : SpellsChoice root_part advert.root

-- the contract of an advert with this fee
abbrev Root : List Pre → ℕ → List Lexeme → Advert → Type 0
Root pre fee = Seq (ChoiceText most_branches) (λ c. Nothing (advert_of pre fee (c.0)))

abbrev Fee : List Pre → List Lexeme → Advert → Type 0
Fee pre = Seq (As numbered) (Root pre)

-- a fee comes
abbrev is_fee : Lexeme → Bool
is_fee (keyword word.Fee) = true
is_fee _ = false

root_text : (pre : List Pre) (fee : ℕ) (t : List Lexeme) (advert : Advert) → Root pre fee t advert → (root : Contract) × SpellsChoice t root
    × (advert_of pre fee root ≡ advert)
root_text pre fee t advert s =
    let is : t ≡ s.first = s.parts ∙ rw (s.back.empty, append-nil s.first) refl in
    (s.value.0, subst (λ (z : List Lexeme). SpellsChoice z (s.value.0)) (sym is) s.prefix.0, s.back.same)

root_of : (pre : List Pre) (fee : ℕ) (t : List Lexeme) (root : Contract) → SpellsChoice t root → Root pre fee t (advert_of pre fee root)
root_of pre fee t root l = record {
  first = t;
  second = [];
  value = (root, most_branches - count_of root);
  parts = sym
      (append-nil t);
  prefix = (l, refl);
  back = record { empty = refl; same = refl };
}

root_to : (pre : List Pre) (t : List Lexeme) (advert : Advert) → Root pre 0 t advert → FeeRoot pre t advert
root_to pre t advert s =
    let r = root_text pre 0 t advert s in
    subst (FeeRoot pre t) r.2 (record { fee_part = []; root_part = t; parts = refl; entries = refl; fee = inl (refl, refl); root = r.1 })

fee_to : (pre : List Pre) (t : List Lexeme) (advert : Advert) → Fee pre t advert → Behind (keyword word.Fee) (FeeRoot pre) t advert
fee_to pre t advert s =
    let r = root_text pre s.value s.second advert s.back in
    let is : keyword word.Fee ∷ t ≡ keyword word.Fee ∷ number s.value ∷ s.second =
    ap (λ (z : List Lexeme). keyword word.Fee ∷ z) (s.parts ∙ ap (λ (z : List Lexeme). z ++ s.second) s.prefix.single) in
    subst (Behind (keyword word.Fee) (FeeRoot pre) t) r.2
    (record { fee_part = keyword word.Fee ∷ number s.value ∷ []; root_part = s.second; parts = is; entries = refl; fee = inr refl; root = r.1 })

pub fee_contract : (t : List Lexeme) (root : Contract) → SpellsChoice (keyword word.Fee ∷ t) root → ⊥
fee_contract t no_branch l = l
fee_contract t (branch g bs) (inl w) = branch_first (keyword word.Fee) t g w.0 refl
fee_contract t (branch g bs) (inr w) = let k = w.2 in absurd cc

root_back : (pre : List Pre) (c : Lexeme) (t fp rp : List Lexeme) (advert : Advert) → c ∷ t ≡ fp ++ rp → pre ≡ advert.pre
    → SpellsFee fp advert.fee → SpellsChoice rp advert.root → is_fee c ≡ false → Root pre 0 (c ∷ t) advert
root_back pre c t fp rp advert is e (inl w) l h =
    let text : rp ≡ c ∷ t = sym (is ∙ ap (λ (z : List Lexeme). z ++ rp) w.0) in
    let same : advert_of pre 0 advert.root ≡ advert = λ i. advert_of (e i) (sym w.1 i) advert.root in
    subst (Root pre 0 (c ∷ t)) same (root_of pre 0 (c ∷ t) advert.root (subst (λ (z : List Lexeme). SpellsChoice z advert.root) text l))
root_back pre c t fp rp advert is e (inr w) l h =
    let text : c ∷ t ≡ keyword word.Fee ∷ number advert.fee ∷ rp = is ∙ ap (λ (z : List Lexeme). z ++ rp) w in
    let k : is_fee (keyword word.Fee) ≡ false = subst (λ (z : Lexeme). is_fee z ≡ false) (head_is c (keyword word.Fee) t _ text) h in
    absurd cc

root_from : (pre : List Pre) (c : Lexeme) (t : List Lexeme) (advert : Advert) → is_fee c ≡ false → FeeRoot pre (c ∷ t) advert → Root pre 0 (c ∷ t) advert
root_from pre c t advert h l = root_back pre c t l.fee_part l.root_part advert l.parts l.entries l.fee l.root h

fee_back : (pre : List Pre) (t fp rp : List Lexeme) (advert : Advert) → keyword word.Fee ∷ t ≡ fp ++ rp → pre ≡ advert.pre
    → SpellsFee fp advert.fee → SpellsChoice rp advert.root → Fee pre t advert
fee_back pre t fp rp advert is e (inl w) l =
    let text : rp ≡ keyword word.Fee ∷ t = sym (is ∙ ap (λ (z : List Lexeme). z ++ rp) w.0) in
    absurd (fee_contract t advert.root (subst (λ (z : List Lexeme). SpellsChoice z advert.root) text l))
fee_back pre t fp rp advert is e (inr w) l =
    let text : t ≡ number advert.fee ∷ rp = tail_is (keyword word.Fee) (keyword word.Fee) t _ (is ∙ ap (λ (z : List Lexeme). z ++ rp) w) in
    let same : advert_of pre advert.fee advert.root ≡ advert = λ i. advert_of (e i) advert.fee advert.root in
    record {
      first = number advert.fee ∷ [];
      second = rp;
      value = advert.fee;
      parts = text;
      prefix = record { single = refl };
      back = subst (Root pre advert.fee rp) same (root_of pre advert.fee rp advert.root l);
    }

fee_from : (pre : List Pre) (t : List Lexeme) (advert : Advert) → Behind (keyword word.Fee) (FeeRoot pre) t advert → Fee pre t advert
fee_from pre t advert l = fee_back pre t l.fee_part l.root_part advert l.parts l.entries l.fee l.root

no_parts : (fp rp : List Lexeme) (fee : ℕ) (root : Contract) → [] ≡ fp ++ rp → SpellsFee fp fee → SpellsChoice rp root → ⊥
no_parts fp rp fee root is (inl w) l =
    choice_nothing root (subst (λ (z : List Lexeme). SpellsChoice z root) (sym (is ∙ ap (λ (z : List Lexeme). z ++ rp) w.0)) l)
no_parts fp rp fee root is (inr w) l = let k : [] ≡ keyword word.Fee ∷ number fee ∷ rp = is ∙ ap (λ (z : List Lexeme). z ++ rp) w in absurd cc

fee_root_nothing : (pre : List Pre) (advert : Advert) → FeeRoot pre [] advert → ⊥
fee_root_nothing pre advert l = no_parts l.fee_part l.root_part advert.fee advert.root l.parts l.fee l.root

-- ---- where they end

root_clear : (n : ℕ) (pre : List Pre) (fee : ℕ) → Clear_to n (Root pre fee)
root_clear n pre fee = clear_seq (clear_to (choice_clear most_branches)) (λ c. clear_pure (advert_of pre fee (c.0)))

fee_root_part : (n : ℕ) (pre : List Pre) (c : Lexeme) → Clear_to n (Behind c (FeeRoot pre))
fee_root_part n pre (keyword word.Fee) =
    clear_from (Behind (keyword word.Fee) (FeeRoot pre)) (fee_from pre) (clear_seq (clear_to (clear_as (the_number max_money))) (λ f. root_clear n pre f))
fee_root_part n pre c = clear_from (Behind c (FeeRoot pre)) (λ t v l. root_from pre c t v refl l) (clear_behind c (root_clear (suc n) pre 0))

fee_root_clear : (n : ℕ) (pre : List Pre) → Clear_to n (FeeRoot pre)
fee_root_clear zero pre = clear_zero (FeeRoot pre) (fee_root_nothing pre)
fee_root_clear (suc n) pre = clear_first (FeeRoot pre) (fee_root_nothing pre) (fee_root_part n pre)

-- ---- their reader

a_root : (pre : List Pre) (fee : ℕ) → Exact (Root pre fee)
    (λ ts. choice_with (branch_at most_depth) most_depth most_branches ts >>= λ c. Ok (advert_of pre fee (c.0.0), c.1))
a_root pre fee = seq (choice_clear most_branches) (choice_exact (branch_at most_depth) (branch_exact most_depth) most_depth most_branches)
    (λ c t l. pure (advert_of pre fee (c.0)))

abbrev fee_root_at : List Pre → List Lexeme → Reads Advert
fee_root_at pre ts = fee_at ts >>= λ f. choice_with (branch_at most_depth) most_depth most_branches (f.1) >>= λ c. Ok (advert_of pre (f.0) (c.0.0), c.1)

a_fee : (pre : List Pre) → Exact (Behind (keyword word.Fee) (FeeRoot pre)) (λ ts. fee_root_at pre (keyword word.Fee ∷ ts))
unfolding fee_at
a_fee pre = transfer (Behind (keyword word.Fee) (FeeRoot pre)) (fee_to pre) (fee_from pre)
    (seq (clear_as (the_number max_money)) (token (the_number max_money)) (λ f t l. a_root pre f))

no_fee : (c d : Lexeme) → is_fee c ≡ false → StandsFor c d → is_fee d ≡ false
no_fee long_name (name bytes) h st = refl
no_fee huge_number (number n) h st = refl
no_fee c d h st = subst (λ (z : Lexeme). is_fee z ≡ false) st h

some_fee_root : (pre : List Pre) → Some_text (FeeRoot pre)
some_fee_root pre = record {
  text = some_choice.text;
  value = advert_of pre 0 some_choice.value;
  spelled = record { fee_part = []; root_part = some_choice.text; parts = refl; entries = refl; fee = inl (refl, refl); root = some_choice.spelled };
}

no_root : (pre : List Pre) → Tells (FeeRoot pre) [] (fee_root_at pre [])
unfolding fee_at choice_with
no_root pre = record { told = ended_told (FeeRoot pre) (fee_root_nothing pre) (some_fee_root pre) }

fee_root_told : (pre : List Pre) (ts : List Lexeme) → Tells (FeeRoot pre) ts (fee_root_at pre ts)
unfolding fee_at
fee_root_told pre [] = no_root pre
fee_root_told pre (keyword word.Fee ∷ ts) = behind (keyword word.Fee) (FeeRoot pre) ts (fee_root_at pre (keyword word.Fee ∷ ts)) ((a_fee pre).tells ts)
fee_root_told pre (c ∷ ts) =
    narrow (Root pre 0) (FeeRoot pre) is_fee c ts (λ d st. no_fee c d refl st) (root_to pre) (λ d t v h l. root_from pre d t v h l)
    (fee_root_at pre (c ∷ ts)) ((a_root pre 0).tells (c ∷ ts))

a_fee_root : (pre : List Pre) → Exact (FeeRoot pre) (fee_root_at pre)
a_fee_root pre = record { some = some_fee_root pre; tells = fee_root_told pre }

-- ---- adverts

abbrev Whole : List Lexeme → Advert → Type 0
Whole = Seq (As (that (symbol mark.LeftBrace))) (λ u. Seq Entries FeeRoot)

pre_of : (t : List Lexeme) (ps : List Pre) → Entries t ps → SpellsPre (symbol mark.LeftBrace ∷ t) ps
pre_of t [] l = l
pre_of t (p ∷ ps) l = ap (λ (z : List Lexeme). symbol mark.LeftBrace ∷ z) l

of_pre : (t : List Lexeme) (ps : List Pre) → SpellsPre t ps → (u : List Lexeme) × (t ≡ symbol mark.LeftBrace ∷ u) × Entries u ps
of_pre t [] l = absurd l
of_pre t (p ∷ ps) l = (_, l, refl)

whole_to : (t : List Lexeme) (advert : Advert) → Whole t advert → Spells t advert
whole_to t advert s =
    let r = s.back.back in
    let is : t ≡ (symbol mark.LeftBrace ∷ s.back.first) ++ (r.fee_part ++ r.root_part) = s.parts ∙ rw (s.prefix.single, s.back.parts, r.parts) refl in
    record {
      pre_part = symbol mark.LeftBrace ∷ s.back.first;
      fee_part = r.fee_part;
      root_part = r.root_part;
      parts = is;
      pre = subst (λ (z : List Pre). SpellsPre (symbol mark.LeftBrace ∷ s.back.first) z) r.entries (pre_of s.back.first s.back.value s.back.prefix);
      fee = r.fee;
      root = r.root;
    }

whole_from : (t : List Lexeme) (advert : Advert) → Spells t advert → Whole t advert
whole_from t advert s =
    let p = of_pre s.pre_part advert.pre s.pre in
    record {
      first = symbol mark.LeftBrace ∷ [];
      second = p.0 ++ (s.fee_part ++ s.root_part);
      value = tt;
      parts = s.parts ∙ ap (λ (z : List Lexeme). z ++ (s.fee_part ++ s.root_part)) p.1;
      prefix = record { single = refl };
      back = record {
        first = p.0;
        second = s.fee_part ++ s.root_part;
        value = advert.pre;
        parts = refl;
        prefix = p.2;
        back = record { fee_part = s.fee_part; root_part = s.root_part; parts = refl; entries = refl; fee = s.fee; root = s.root };
      };
    }

-- each text says where it ends, and which advert it spells
pub advert_clear : Clear Spells
advert_clear = clear_of (λ n. clear_from Spells whole_from
    (clear_seq (clear_to (clear_as (the_symbol mark.LeftBrace refl))) (λ u. clear_seq (clear_to entries_clear) (λ pre. fee_root_clear n pre))))

-- adverts are read exactly
pub advert_exact : Exact Spells advert_at
unfolding advert_at
advert_exact = transfer Spells whole_to whole_from
    (seq (clear_as (the_symbol mark.LeftBrace refl)) (token (the_symbol mark.LeftBrace refl)) (λ b t l.
    seq entries_clear (entries_exact (most_deposits + most_secrets) (most_deposits, most_secrets)) (λ pre u m.
    a_fee_root pre)))
