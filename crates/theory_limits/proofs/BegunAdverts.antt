-- With the first token: contracts, preconditions and adverts.
use Rattle.std.proofs.Common.{◌≡◌, ℕ, suc, List, [], ◌∷◌, ◌++◌, refl, ap, sym, ◌∙◌, append_assoc, inl, inr, ◌⊎◌}
use Rattle.spec_terms.specs.Term.{always, auth, after, put_reveal, withdraw, split, no_branch, branch, Parts, no_part, part}
use Rattle.spec_data.specs.Ranges.{max_money, last_height}
use Rattle.spec_terms.specs.Advert.{Advert}
use Rattle.spec_terms.specs.declared.pre.Pre.TheVariants.{Persistent, Volatile, Secret}
use Rattle.spec_text.specs.declared.token.Keyword.TheVariants as word
use Rattle.spec_text.specs.declared.token.Symbol.TheVariants as mark
use Rattle.spec_text.specs.declared.lexeme.Lexeme.{Lexeme}
use Rattle.spec_text.specs.declared.lexeme.Lexeme.TheVariants.{Keyword as keyword, Symbol as symbol, Name as name, Number as number, LongName as long_name, HugeNumber as huge_number}
use Rattle.spec_text.specs.Grammar.{more_names, SpellsHeading, SpellsBranch, SpellsChoice, SpellsMore, SpellsParts, SpellsMoreParts, entry, more_entries, Spells}
use Rattle.theory_limits.specs.Awaited.{Awaited, this_symbol, a_name, a_number, behind_put, behind_reveal, wrapped, behind_branch, contract, behind_part, entry_kind, behind_entry, fee_or_contract, an_advert, next, next_branch, next_contract}
use Rattle.theory_limits.specs.Awaited.{branch as a_branch, part as a_part, entry as an_entry, this_word, operator, relation, formula, test}
use Rattle.theory_limits.proofs.Texts.{add, Has, Closed, With_reveal, EntryText, EntriesText, FeeText, Text, Texts, Begun, begun_as}
use Rattle.theory_limits.proofs.BegunTests.{one, last, begun_symbol, begun_word, begun_formula, begun_test, begun_put, begun_reveal}
use Rattle.spec_text.specs.Reading.{is_symbol, is_keyword}

-- ---- guarded terms

-- a name, a text up to its point, and what follows
headed : (x : List ℕ) (t u v b w text c n : List Lexeme) → t ≡ u ++ v → u ≡ name x ∷ [] → v ≡ b ++ w → b ≡ text ++ symbol mark.Dot ∷ []
    → w ≡ c ++ n → n ≡ [] → t ≡ name x ∷ (text ++ symbol mark.Dot ∷ c)
headed x t u v b w text c n e f g k l m =
    one (name x) t u v e f
    ∙ add (name x) (g ∙ ap (λ (z : List Lexeme). z ++ w) k ∙ append_assoc text (symbol mark.Dot ∷ []) w
    ∙ ap (λ (z : List Lexeme). text ++ symbol mark.Dot ∷ z) (last w c n l m))

put_by : (d : ℕ) (t : List Lexeme) (h : Texts (a_name ∷ behind_put ∷ contract d ∷ []) t)
    → ((h.back.prefix.text ≡ more_names (h.back.prefix.names)) ⊎ With_reveal (h.back.prefix.names) (h.back.prefix.text))
    → Has SpellsBranch (keyword word.Put ∷ t)
put_by d t h (inl w) =
    let x = h.prefix.0 in
    let b = h.back in
    let c = b.back in
    let is =
    headed x t h.first h.second b.first b.second b.prefix.text c.first c.second h.parts h.prefix.1 b.parts b.prefix.parts c.parts c.back in
    let heading : SpellsHeading (keyword word.Put ∷ name x ∷ b.prefix.text) (x ∷ b.prefix.names) [] always =
    (ap (λ (z : List Lexeme). keyword word.Put ∷ name x ∷ z) w, refl) in
    record {
      value = put_reveal (x ∷ b.prefix.names) [] always c.prefix.value;
      spelled = (keyword word.Put ∷ name x ∷ b.prefix.text, c.first, add (keyword word.Put) is, heading, c.prefix.spelled);
    }
put_by d t h (inr r) =
    let x = h.prefix.0 in
    let b = h.back in
    let c = b.back in
    let is =
    headed x t h.first h.second b.first b.second b.prefix.text c.first c.second h.parts h.prefix.1 b.parts b.prefix.parts c.parts c.back in
    let heading : SpellsHeading (keyword word.Put ∷ name x ∷ b.prefix.text) (x ∷ b.prefix.names) (r.first ∷ r.others) r.condition =
    (r.reveal, ap (λ (z : List Lexeme). keyword word.Put ∷ name x ∷ z) r.parts, r.spelled) in
    record {
      value = put_reveal (x ∷ b.prefix.names) (r.first ∷ r.others) r.condition c.prefix.value;
      spelled = (keyword word.Put ∷ name x ∷ b.prefix.text, c.first, add (keyword word.Put) is, heading, c.prefix.spelled);
    }

reveal_by : (d : ℕ) (t : List Lexeme) → Texts (a_name ∷ behind_reveal ∷ contract d ∷ []) t → Has SpellsBranch (keyword word.Reveal ∷ t)
reveal_by d t h =
    let a = h.prefix.0 in
    let b = h.back in
    let r = b.prefix in
    let c = b.back in
    let is = headed a t h.first h.second b.first b.second r.text c.first c.second h.parts h.prefix.1 b.parts r.parts c.parts c.back in
    let heading : SpellsHeading (keyword word.Reveal ∷ name a ∷ r.text) [] (a ∷ r.names) r.condition =
    (r.test, ap (λ (z : List Lexeme). keyword word.Reveal ∷ name a ∷ z) r.named, r.spelled) in
    record {
      value = put_reveal [] (a ∷ r.names) r.condition c.prefix.value;
      spelled = (keyword word.Reveal ∷ name a ∷ r.text, c.first, add (keyword word.Reveal) is, heading, c.prefix.spelled);
    }

-- a guarded term behind a colon
wrapped_by : (d : ℕ) (party : List ℕ) (t : List Lexeme) → Texts (this_symbol mark.Colon ∷ wrapped d ∷ []) t
    → Has SpellsBranch (name party ∷ t)
wrapped_by d party t h =
    let b = h.back in
    let is : t ≡ symbol mark.Colon ∷ b.first =
    one (symbol mark.Colon) t h.first h.second h.parts h.prefix
    ∙ add (symbol mark.Colon) (last h.second b.first b.second b.parts b.back) in
    record { value = auth party b.prefix.value; spelled = (b.first, add (name party) is, b.prefix.spelled) }

after_by : (d most : ℕ) (t : List Lexeme) → Texts (a_number most ∷ this_symbol mark.Colon ∷ wrapped d ∷ []) t
    → Has SpellsBranch (keyword word.After ∷ t)
after_by d most t h =
    let n = h.prefix.0 in
    let k = h.back in
    let b = k.back in
    let is : t ≡ number n ∷ symbol mark.Colon ∷ b.first =
    one (number n) t h.first h.second h.parts h.prefix.1
    ∙ add (number n)
    (one (symbol mark.Colon) h.second k.first k.second k.parts k.prefix ∙ add (symbol mark.Colon)
    (last k.second b.first b.second b.parts b.back)) in
    record { value = after n b.prefix.value; spelled = (b.first, add (keyword word.After) is, b.prefix.spelled) }

split_by : (d k : ℕ) (t : List Lexeme) → Texts (this_symbol mark.LeftBracket ∷ a_part d k ∷ []) t
    → Has SpellsBranch (keyword word.Split ∷ t)
split_by d k t h =
    let b = h.back in
    let p = b.prefix in
    let is : t ≡ symbol mark.LeftBracket ∷ (p.text ++ symbol mark.RightBracket ∷ []) =
    one (symbol mark.LeftBracket) t h.first h.second h.parts h.prefix
    ∙ add (symbol mark.LeftBracket) (last h.second b.first b.second b.parts b.back ∙ p.parts) in
    record { value = split p.value; spelled = (p.text, add (keyword word.Split) is, p.spelled) }

withdraw_by : (t : List Lexeme) → Texts (a_name ∷ []) t → Has SpellsBranch (keyword word.Withdraw ∷ t)
withdraw_by t h =
    let x = h.prefix.0 in
    record {
      value = withdraw x;
      spelled = add (keyword word.Withdraw) (one (name x) t h.first h.second h.parts h.prefix.1 ∙ add (name x) h.back);
    }

begun_branch : (d : ℕ) (c : Lexeme) → Begun (Has SpellsBranch) c (next_branch d c)
begun_branch d (name party) = λ t h. (name party, refl, wrapped_by (suc d) party t h)
begun_branch d long_name = λ t h. (name [], tt, wrapped_by (suc d) [] t h)
begun_branch d (keyword word.After) = λ t h. (keyword word.After, refl, after_by (suc d) last_height t h)
begun_branch d (keyword word.Put) = λ t h. (keyword word.Put, refl, put_by (suc d) t h h.back.prefix.kind)
begun_branch d (keyword word.Reveal) = λ t h. (keyword word.Reveal, refl, reveal_by (suc d) t h)
begun_branch d (keyword word.Withdraw) = λ t h. (keyword word.Withdraw, refl, withdraw_by t h)
begun_branch d (keyword word.Split) = λ t h. (keyword word.Split, refl, split_by (suc d) 1 t h)
begun_branch d c = tt

-- ---- contracts

-- two texts and a token behind
both_closed : (c : Lexeme) (t u v b w m : List Lexeme) → t ≡ u ++ v → v ≡ b ++ w → b ≡ m ++ c ∷ [] → w ≡ [] → t ≡ (u ++ m) ++ c ∷ []
both_closed c t u v b w m e f g n = e ∙ ap (λ (z : List Lexeme). u ++ z) (last v b w f n ∙ g) ∙ sym (append_assoc u m (c ∷ []))

choice_by : (d k : ℕ) (t : List Lexeme) → Texts (a_branch d k ∷ behind_branch d k ∷ []) t → Has SpellsChoice (symbol mark.LeftParen ∷ t)
choice_by d k t h =
    let b = h.back in
    let m = b.prefix in
    let is : t ≡ h.first ++ (m.text ++ symbol mark.RightParen ∷ []) =
    h.parts ∙ ap (λ (z : List Lexeme). h.first ++ z) (last h.second b.first b.second b.parts b.back ∙ m.parts) in
    record {
      value = branch h.prefix.value m.value;
      spelled = inr (h.first, m.text, add (symbol mark.LeftParen) is, h.prefix.spelled, m.spelled);
    }

bare : (t : List Lexeme) → Has SpellsBranch t → Has SpellsChoice t
bare t h = record { value = branch h.value no_branch; spelled = inl (h.spelled, refl) }

begun_contract : (d : ℕ) (c : Lexeme) → Begun (Has SpellsChoice) c (next_contract d c)
begun_contract d (symbol mark.LeftParen) = λ t h. (symbol mark.LeftParen, refl, choice_by d 1 t h)
begun_contract d c = begun_as (Has SpellsBranch) (Has SpellsChoice) bare c (next_branch d c) (begun_branch d c)

more_by : (d k : ℕ) (t : List Lexeme) → Texts (a_branch d k ∷ behind_branch d k ∷ []) t
    → Closed (symbol mark.RightParen) SpellsMore (symbol mark.Plus ∷ t)
more_by d k t h =
    let b = h.back in
    let m = b.prefix in
    record {
      text = symbol mark.Plus ∷ (h.first ++ m.text);
      value = branch h.prefix.value m.value;
      parts =
          add (symbol mark.Plus)
          (both_closed (symbol mark.RightParen) t h.first h.second b.first b.second m.text h.parts b.parts m.parts b.back);
      spelled = (h.first, m.text, refl, h.prefix.spelled, m.spelled);
    }

begun_more : (d k : ℕ) (c : Lexeme) → Begun (Closed (symbol mark.RightParen) SpellsMore) c (next (behind_branch d k) c)
begun_more d k (symbol mark.Plus) = λ t h. (symbol mark.Plus, refl, more_by d (suc k) t h)
begun_more d k (symbol mark.RightParen) =
    λ t e. (symbol mark.RightParen, refl, record { text = []; value = no_branch; parts = add (symbol mark.RightParen) e; spelled = refl })
begun_more d k c = tt

part_by : (d k v : ℕ) (t : List Lexeme) → Texts (this_symbol mark.Arrow ∷ contract d ∷ behind_part d k ∷ []) t
    → Closed (symbol mark.RightBracket) SpellsParts (number v ∷ t)
part_by d k v t h =
    let n = h.back in
    let b = n.back in
    let m = b.prefix in
    let is = one (symbol mark.Arrow) t h.first h.second h.parts h.prefix
    ∙ add (symbol mark.Arrow)
    (both_closed (symbol mark.RightBracket) h.second n.first n.second b.first b.second m.text n.parts b.parts m.parts b.back) in
    record {
      text = number v ∷ symbol mark.Arrow ∷ (n.first ++ m.text);
      value = part v n.prefix.value m.value;
      parts = add (number v) is;
      spelled = (n.first, m.text, refl, n.prefix.spelled, m.spelled);
    }

begun_part : (d k : ℕ) (c : Lexeme) → Begun (Closed (symbol mark.RightBracket) SpellsParts) c (next (a_part d k) c)
begun_part d k (number v) = λ t h. (number v, refl, part_by d k v t h)
begun_part d k huge_number = λ t h. (number 0, tt, part_by d k 0 t h)
begun_part d k c = tt

more_parts : (ps : Parts) (t : List Lexeme) → SpellsParts t ps → SpellsMoreParts (symbol mark.Comma ∷ t) ps
more_parts no_part t l = absurd l
more_parts (part v c ps) t l = (l.0, l.1, add (symbol mark.Comma) l.2, l.3, l.4)

begun_more_parts : (d k : ℕ) (c : Lexeme) → Begun (Closed (symbol mark.RightBracket) SpellsMoreParts) c (next (behind_part d k) c)
begun_more_parts d k (symbol mark.Comma) = λ t h.
    let p = h.prefix in (
      symbol mark.Comma,
      refl,
      record {
        text = symbol mark.Comma ∷ p.text;
        value = p.value;
        parts = add (symbol mark.Comma) (last t h.first h.second h.parts h.back ∙ p.parts);
        spelled = more_parts p.value p.text p.spelled;
      },
    )
begun_more_parts d k (symbol mark.RightBracket) =
    λ t e. (symbol mark.RightBracket, refl, record { text = []; value = no_part; parts = add (symbol mark.RightBracket) e; spelled = refl })
begun_more_parts d k c = tt

-- ---- preconditions

-- what follows the token that tells which deposit an entry is
deposit_by : (most ds ss : ℕ) (t : List Lexeme) → (h : Texts (a_number most ∷ this_symbol mark.At ∷ a_name ∷ behind_entry ds ss ∷ []) t)
    → t ≡ number (h.prefix.0) ∷ symbol mark.At ∷ name (h.back.back.prefix.0) ∷
    (more_entries (h.back.back.back.prefix.0) ++ symbol mark.RightBrace ∷ [])
deposit_by most ds ss t h =
    let a = h.back in
    let n = a.back in
    let e = n.back in
    let v = h.prefix.0 in
    let x = n.prefix.0 in
    one (number v) t h.first h.second h.parts h.prefix.1
    ∙ add (number v) (one (symbol mark.At) h.second a.first a.second a.parts a.prefix
    ∙ add (symbol mark.At)
    (one (name x) a.second n.first n.second n.parts n.prefix.1 ∙ add (name x) (last n.second e.first e.second e.parts e.back ∙ e.prefix.1)))

begun_entry : (ds ss : ℕ) (c : Lexeme) → Begun EntryText c (next (entry_kind ds ss) c)
begun_entry ds ss (symbol mark.Bang) = λ t h.
    let v = h.prefix.0 in
    let x = h.back.back.prefix.0 in (
      symbol mark.Bang,
      refl,
      record {
        own = symbol mark.Bang ∷ number v ∷ symbol mark.At ∷ name x ∷ [];
        others = h.back.back.back.prefix.0;
        parts = add (symbol mark.Bang) (deposit_by max_money (suc ds) ss t h);
        entry_of = λ party. (Persistent party v x, refl);
      },
    )
begun_entry ds ss (symbol mark.Question) = λ t h.
    let v = h.prefix.0 in
    let x = h.back.back.prefix.0 in (
      symbol mark.Question,
      refl,
      record {
        own = symbol mark.Question ∷ number v ∷ symbol mark.At ∷ name x ∷ [];
        others = h.back.back.back.prefix.0;
        parts = add (symbol mark.Question) (deposit_by max_money (suc ds) ss t h);
        entry_of = λ party. (Volatile party v x, refl);
      },
    )
begun_entry ds ss (keyword word.Secret) = λ t h.
    let x = h.prefix.0 in
    let e = h.back in
    let is : t ≡ name x ∷ (more_entries (e.prefix.0) ++ symbol mark.RightBrace ∷ []) =
    one (name x) t h.first h.second h.parts h.prefix.1 ∙ add (name x) (last h.second e.first e.second e.parts e.back ∙ e.prefix.1) in (
      keyword word.Secret,
      refl,
      record {
        own = keyword word.Secret ∷ name x ∷ [];
        others = e.prefix.0;
        parts = add (keyword word.Secret) is;
        entry_of = λ party. (Secret party x, refl);
      },
    )
begun_entry ds ss c = tt

-- an entry and those behind it, behind its party
entries_by : (x : List ℕ) (ds ss : ℕ) (t : List Lexeme) → Texts (this_symbol mark.Colon ∷ entry_kind ds ss ∷ []) t
    → EntriesText (name x ∷ t)
entries_by x ds ss t h =
    let e = h.back in
    let k = e.prefix in
    let p = k.entry_of x in
    let rest = more_entries k.others ++ symbol mark.RightBrace ∷ [] in
    let is : t ≡ symbol mark.Colon ∷ (k.own ++ rest) =
    one (symbol mark.Colon) t h.first h.second h.parts h.prefix
    ∙ add (symbol mark.Colon) (last h.second e.first e.second e.parts e.back ∙ k.parts) in
    record { first = p.0; others = k.others; parts = add (name x) is ∙ ap (λ (z : List Lexeme). z ++ rest) (sym p.1) }

begun_first : (ds ss : ℕ) (c : Lexeme) → Begun EntriesText c (next (an_entry ds ss) c)
begun_first ds ss (name x) = λ t h. (name x, refl, entries_by x ds ss t h)
begun_first ds ss long_name = λ t h. (name [], tt, entries_by [] ds ss t h)
begun_first ds ss c = tt

begun_entries : (ds ss : ℕ) (c : Lexeme) → Begun (Text (behind_entry ds ss)) c (next (behind_entry ds ss) c)
begun_entries ds ss (symbol mark.Bar) = λ t h.
    let e = h.prefix in
    let is : t ≡ (entry e.first ++ more_entries e.others) ++ symbol mark.RightBrace ∷ [] =
    last t h.first h.second h.parts h.back ∙ e.parts
    ∙ sym (append_assoc (entry e.first) (more_entries e.others) (symbol mark.RightBrace ∷ [])) in
    (symbol mark.Bar, refl, (e.first ∷ e.others, add (symbol mark.Bar) is))
begun_entries ds ss (symbol mark.RightBrace) =
    λ t e. (symbol mark.RightBrace, refl, ([], add (symbol mark.RightBrace) e))
begun_entries ds ss c = tt

-- ---- adverts

no_fee : (t : List Lexeme) → Has SpellsChoice t → FeeText t
no_fee t h =
    record { fee_part = []; root_part = t; fee = 0; root = h.value; parts = refl; fee_spelled = inl (refl, refl); root_spelled = h.spelled }

begun_root : (c : Lexeme) → Begun FeeText c (next fee_or_contract c)
begun_root (keyword word.Fee) = λ t h.
    let n = h.prefix.0 in
    let b = h.back in
    let is : t ≡ number n ∷ b.first =
    one (number n) t h.first h.second h.parts h.prefix.1 ∙ add (number n) (last h.second b.first b.second b.parts b.back) in (
      keyword word.Fee,
      refl,
      record {
        fee_part = keyword word.Fee ∷ number n ∷ [];
        root_part = b.first;
        fee = n;
        root = b.prefix.value;
        parts = add (keyword word.Fee) is;
        fee_spelled = inr refl;
        root_spelled = b.prefix.spelled;
      },
    )
begun_root c = begun_as (Has SpellsChoice) FeeText no_fee c (next_contract 1 c) (begun_contract 1 c)

-- what is awaited spells an advert
pub advert_by : (t : List Lexeme) → Texts an_advert t → (advert : Advert) × Spells t advert
advert_by t h =
    let b = h.back in
    let e = b.prefix in
    let r = b.back in
    let f = r.prefix in
    let root : b.second ≡ f.fee_part ++ f.root_part = last b.second r.first r.second r.parts r.back ∙ f.parts in
    let is : t ≡ (symbol mark.LeftBrace ∷ b.first) ++ (f.fee_part ++ f.root_part) =
    one (symbol mark.LeftBrace) t h.first h.second h.parts h.prefix
    ∙ add (symbol mark.LeftBrace) (b.parts ∙ ap (λ (z : List Lexeme). b.first ++ z) root) in (
      record { pre = e.first ∷ e.others; fee = f.fee; root = f.root },
      record {
        pre_part = symbol mark.LeftBrace ∷ b.first;
        fee_part = f.fee_part;
        root_part = f.root_part;
        parts = is;
        pre = add (symbol mark.LeftBrace) e.parts;
        fee = f.fee_spelled;
        root = f.root_spelled;
      },
    )

-- ---- all parts

pub begun : (a : Awaited) (c : Lexeme) → Begun (Text a) c (next a c)
begun (this_symbol s) (symbol t) = begun_symbol s t (is_symbol t s) refl
begun (this_word k) (keyword w) = begun_word k w (is_keyword w k) refl
begun a_name (name x) = λ t e. (name x, refl, (x, add (name x) e))
begun a_name long_name = λ t e. (name [], tt, ([], add (name []) e))
begun (a_number most) (number n) = λ t e. (number n, refl, (n, add (number n) e))
begun (a_number most) huge_number = λ t e. (number 0, tt, (0, add (number 0) e))
begun operator (symbol mark.Plus) = λ t e. (symbol mark.Plus, refl, inl (add (symbol mark.Plus) e))
begun operator (symbol mark.Minus) = λ t e. (symbol mark.Minus, refl, inr (add (symbol mark.Minus) e))
begun relation (symbol mark.Equal) = λ t e. (symbol mark.Equal, refl, inl (add (symbol mark.Equal) e))
begun relation (symbol mark.Less) = λ t e. (symbol mark.Less, refl, inr (add (symbol mark.Less) e))
begun (formula d) c = begun_formula d c
begun (test d) c = begun_test d c
begun behind_put c = begun_put c
begun behind_reveal c = begun_reveal c
begun (wrapped d) c = begun_branch d c
begun (a_branch d k) c = begun_branch d c
begun (behind_branch d k) c = begun_more d k c
begun (contract d) c = begun_contract d c
begun (a_part d k) c = begun_part d k c
begun (behind_part d k) c = begun_more_parts d k c
begun (an_entry ds ss) c = begun_first ds ss c
begun (entry_kind ds ss) c = begun_entry ds ss c
begun (behind_entry ds ss) c = begun_entries ds ss c
begun fee_or_contract c = begun_root c
begun a c = tt
