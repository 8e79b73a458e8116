-- Adverts that are within the limits are read.
use Rattle.std.proofs.Common.{◌≡◌, ℕ, zero, suc, ◌+◌, ◌-◌, ◌≤◌, inl, inr, true, false, List, [], ◌∷◌, ◌++◌, length, Ok, refl, sym, ap, ◌∙◌, append_assoc, arith}
use Rattle.std.specs.Prelude.{◌&&◌, nat_le}
use Rattle.std.specs.List.{list_all}
use Rattle.std.proofs.lemmas.Bool.{leb-true}
use Rattle.std.proofs.lemmas.List.{append-nil}
use Rattle.spec_data.specs.Ranges.{max_money}
use Rattle.spec_terms.specs.Term.{Contract}
use Rattle.spec_terms.specs.Advert.{Advert}
use Rattle.spec_terms.specs.Precondition.{deposits, secrets}
use Rattle.spec_terms.specs.declared.pre.Pre.{Pre}
use Rattle.spec_terms.specs.declared.pre.Pre.TheVariants.{Persistent, Volatile, Secret}
use Rattle.spec_terms.specs.Readable.{most_depth, most_branches, most_deposits, most_secrets, is_name, is_some_list, is_readable_count, are_readable, depth_of_choice, count_of, is_readable_contract, is_readable_entry, is_readable_pre, is_readable}
use Rattle.spec_text.specs.declared.token.Keyword.TheVariants as word
use Rattle.spec_text.specs.declared.token.Symbol.TheVariants as mark
use Rattle.spec_text.specs.declared.lexeme.Lexeme.{Lexeme}
use Rattle.spec_text.specs.declared.lexeme.Lexeme.TheVariants.{Keyword as keyword, Symbol as symbol, Number as number}
use Rattle.spec_text.specs.Grammar.{entry, more_entries, SpellsChoice, SpellsPre, SpellsFee, Spells}
use Rattle.spec_text.specs.ReadContract.{choice_with, branch_at}
use Rattle.spec_text.specs.ReadAdvert.{Room, room_after, is_full, head_at, deposit_at, secret_at, entry_at, entries_at, fee_at, advert_at, advert_of_all}
use Rattle.theory_text.proofs.ListFacts.{and_left, and_right}
use Rattle.theory_text.proofs.Told.BranchEnds.{choice_nothing}
use Rattle.theory_text.proofs.Told.Entries.{kind_of}
use Rattle.theory_text.proofs.Told.AdvertReaders.{fee_contract}
use Rattle.theory_text.proofs.Again.Steps.{not_zero}
use Rattle.theory_text.proofs.Again.Contracts.{contract_again}

-- ---- entries

entry_again : (p : Pre) (room : Room) (rest : List Lexeme) → is_readable_entry p ≡ true → is_full (kind_of p) room ≡ false
    → entry_at room (entry p ++ rest) ≡ Ok ((p, room_after (kind_of p) room), rest)
unfolding entry_at head_at deposit_at secret_at
entry_again (Persistent party value x) room rest h f =
    let money : nat_le value max_money ≡ true = and_left _ _ (and_right (is_name party) _ h) in
    rw (f, money) refl
entry_again (Volatile party value x) room rest h f =
    let money : nat_le value max_money ≡ true = and_left _ _ (and_right (is_name party) _ h) in
    rw (f, money) refl
entry_again (Secret party x) room rest h f = rw f refl

-- there is room for an entry and those behind it
record Roomy (p : Pre) (ps : List Pre) (room : Room) : Type 0 where
  pub open' : is_full (kind_of p) room ≡ false
  pub deposits' : length (deposits ps) ≤ (room_after (kind_of p) room).0
  pub secrets' : length (secrets ps) ≤ (room_after (kind_of p) room).1

roomy : (p : Pre) (ps : List Pre) (room : Room) → length (deposits (p ∷ ps)) ≤ room.0 → length (secrets (p ∷ ps)) ≤ room.1 → Roomy p ps room
roomy (Persistent party value x) ps room d s = record { open' = not_zero (room.0) (omega arith); deposits' = omega arith; secrets' = s }
roomy (Volatile party value x) ps room d s = record { open' = not_zero (room.0) (omega arith); deposits' = omega arith; secrets' = s }
roomy (Secret party x) ps room d s = record { open' = not_zero (room.1) (omega arith); deposits' = d; secrets' = omega arith }

last_entry : (n : ℕ) (room after : Room) (t : List Lexeme) (p : Pre) (rest : List Lexeme) → entry_at room t
    ≡ Ok ((p, after), symbol mark.RightBrace ∷ rest) → entries_at (suc n) room t ≡ Ok (p ∷ [], rest)
unfolding entries_at
last_entry n room after t p rest h = rw h refl

bar_entry : (n : ℕ) (room after : Room) (t u : List Lexeme) (p : Pre) (ps : List Pre) (rest : List Lexeme) → entry_at room t
    ≡ Ok ((p, after), symbol mark.Bar ∷ u) → entries_at n after u ≡ Ok (ps, rest) → entries_at (suc n) room t ≡ Ok (p ∷ ps, rest)
unfolding entries_at
bar_entry n room after t u p ps rest h more = rw (h, more) refl

entries_again : (ps : List Pre) (p : Pre) (n : ℕ) (room : Room) (rest : List Lexeme) → list_all is_readable_entry (p ∷ ps) ≡ true
    → length (deposits (p ∷ ps)) ≤ room.0 → length (secrets (p ∷ ps)) ≤ room.1 → suc (length ps) ≤ n
    → entries_at n room (entry p ++ (more_entries ps ++ symbol mark.RightBrace ∷ rest)) ≡ Ok (p ∷ ps, rest)
entries_again ps p zero room rest h d s le = absurd (omega arith)
entries_again [] p (suc n) room rest h d s le =
    let r = roomy p [] room d s in
    last_entry n room (room_after (kind_of p) room) (entry p ++ symbol mark.RightBrace ∷ rest) p rest
    (entry_again p room (symbol mark.RightBrace ∷ rest) (and_left (is_readable_entry p) _ h) r.open')
entries_again (q ∷ ps) p (suc n) room rest h d s le =
    let r = roomy p (q ∷ ps) room d s in
    let u : List Lexeme = entry q ++ (more_entries ps ++ symbol mark.RightBrace ∷ rest) in
    let text : entry p ++ (more_entries (q ∷ ps) ++ symbol mark.RightBrace ∷ rest) ≡ entry p ++ symbol mark.Bar ∷ u =
    ap (λ (z : List Lexeme). entry p ++ symbol mark.Bar ∷ z) (append_assoc (entry q) (more_entries ps) (symbol mark.RightBrace ∷ rest)) in
    let one = entry_again p room (symbol mark.Bar ∷ u) (and_left (is_readable_entry p) _ h) r.open' in
    let more = entries_again ps q n (room_after (kind_of p) room) rest (and_right (is_readable_entry p) _ h) r.deposits' r.secrets' (omega arith) in
    ap (entries_at (suc n) room) text ∙ bar_entry n room (room_after (kind_of p) room) (entry p ++ symbol mark.Bar ∷ u) u p (q ∷ ps) rest one more

-- each entry is a deposit or a secret
entry_count : (ps : List Pre) → length ps ≡ length (deposits ps) + length (secrets ps)
entry_count [] = omega arith
entry_count (Persistent party value x ∷ ps) = omega (arith, entry_count ps)
entry_count (Volatile party value x ∷ ps) = omega (arith, entry_count ps)
entry_count (Secret party x ∷ ps) = omega (arith, entry_count ps)

pre_again : (ps : List Pre) (t rest : List Lexeme) → SpellsPre t ps → is_readable_pre ps ≡ true → (u : List Lexeme)
    × (t ++ rest ≡ symbol mark.LeftBrace ∷ u) × (entries_at (most_deposits + most_secrets) (most_deposits, most_secrets) u ≡ Ok (ps, rest))
pre_again [] t rest l h = absurd l
pre_again (p ∷ ps) t rest l h =
    let first : (is_some_list (p ∷ ps) && list_all is_readable_entry (p ∷ ps)) ≡ true = and_left _ _ h in
    let all : list_all is_readable_entry (p ∷ ps) ≡ true = and_right (is_some_list (p ∷ ps)) _ first in
    let second : (nat_le (length (deposits (p ∷ ps))) most_deposits && nat_le (length (secrets (p ∷ ps))) most_secrets) ≡ true =
    and_right (is_some_list (p ∷ ps) && list_all is_readable_entry (p ∷ ps)) _ h in
    let d = leb-true (length (deposits (p ∷ ps))) most_deposits (and_left _ _ second) in
    let s = leb-true (length (secrets (p ∷ ps))) most_secrets (and_right (nat_le (length (deposits (p ∷ ps))) most_deposits) _ second) in
    let count = entry_count (p ∷ ps) in
    let text : t ++ rest ≡ symbol mark.LeftBrace ∷ (entry p ++ (more_entries ps ++ symbol mark.RightBrace ∷ rest)) =
    ap (λ (z : List Lexeme). z ++ rest) l
    ∙ ap (λ (z : List Lexeme). symbol mark.LeftBrace ∷ z) (append_assoc (entry p) (more_entries ps ++ symbol mark.RightBrace ∷ []) rest
    ∙ ap (λ (z : List Lexeme). entry p ++ z) (append_assoc (more_entries ps) (symbol mark.RightBrace ∷ []) rest)) in (
      entry p ++ (more_entries ps ++ symbol mark.RightBrace ∷ rest),
      text,
      entries_again ps p (most_deposits + most_secrets)
          (most_deposits, most_secrets) rest all d s (omega (arith, count, d, s)),
    )

-- ---- the fee and the contract

bare_fee : (t : List Lexeme) (root : Contract) → SpellsChoice t root → fee_at t ≡ Ok (0, t)
unfolding fee_at
bare_fee [] root l = absurd (choice_nothing root l)
bare_fee (keyword word.Fee ∷ t) root l = absurd (fee_contract t root l)
bare_fee (c ∷ t) root l = refl

some_fee : (fee : ℕ) (t : List Lexeme) → nat_le fee max_money ≡ true → fee_at (keyword word.Fee ∷ number fee ∷ t) ≡ Ok (fee, t)
unfolding fee_at
some_fee fee t h = rw h refl

fee_again : (fee : ℕ) (fp rp : List Lexeme) (root : Contract) → SpellsFee fp fee → SpellsChoice rp root → nat_le fee max_money ≡ true
    → fee_at (fp ++ rp) ≡ Ok (fee, rp)
fee_again fee fp rp root (inl w) l h =
    let one : fee_at (fp ++ rp) ≡ Ok (0, rp) = ap (λ (z : List Lexeme). fee_at (z ++ rp)) w.0 ∙ bare_fee rp root l in
    rw w.1 one
fee_again fee fp rp root (inr w) l h = ap (λ (z : List Lexeme). fee_at (z ++ rp)) w ∙ some_fee fee rp h

root_again : (root : Contract) (t : List Lexeme) → SpellsChoice t root → is_readable_contract root ≡ true
    → choice_with (branch_at most_depth) most_depth most_branches t ≡ Ok ((root, most_branches - count_of root), [])
root_again root t l h =
    let first : (is_readable_count root && are_readable root) ≡ true = and_left _ _ h in
    let second : (nat_le (depth_of_choice root) most_depth && nat_le (count_of root) most_branches) ≡ true =
    and_right (is_readable_count root && are_readable root) _ h in
    let d = leb-true (depth_of_choice root) most_depth (and_left _ _ second) in
    let b = leb-true (count_of root) most_branches (and_right (nat_le (depth_of_choice root) most_depth) _ second) in
    ap (choice_with (branch_at most_depth) most_depth most_branches) (sym (append-nil t))
    ∙ contract_again root most_depth most_branches t [] l (and_left (is_readable_count root) _ first) (and_right (is_readable_count root) _ first) d b

-- ---- adverts

advert_steps : (t u v w : List Lexeme) (pre : List Pre) (fee : ℕ) (root : Contract) (left : ℕ) → t ≡ symbol mark.LeftBrace ∷ u
    → entries_at (most_deposits + most_secrets) (most_deposits, most_secrets) u ≡ Ok (pre, v) → fee_at v ≡ Ok (fee, w)
    → choice_with (branch_at most_depth) most_depth most_branches w ≡ Ok ((root, left), []) → advert_at t
    ≡ Ok (record { pre = pre; fee = fee; root = root }, [])
unfolding advert_at
advert_steps t u v w pre fee root left is one two three = rw (is, one, two, three) refl

advert_again : (t : List Lexeme) (advert : Advert) → Spells t advert → is_readable advert ≡ true → advert_at t ≡ Ok (advert, [])
advert_again t advert s h =
    let p = pre_again advert.pre s.pre_part (s.fee_part ++ s.root_part) s.pre (and_left (is_readable_pre advert.pre) _ h) in
    let second : (nat_le advert.fee max_money && is_readable_contract advert.root) ≡ true = and_right (is_readable_pre advert.pre) _ h in
    advert_steps t p.0 (s.fee_part ++ s.root_part) s.root_part advert.pre advert.fee advert.root (most_branches - count_of advert.root) (s.parts ∙ p.1) p.2
    (fee_again advert.fee s.fee_part s.root_part advert.root s.fee s.root (and_left (nat_le advert.fee max_money) _ second))
    (root_again advert.root s.root_part s.root (and_right (nat_le advert.fee max_money) _ second))

-- tokens that spell an advert within the limits are read as that advert
pub all_again : (t : List Lexeme) (advert : Advert) → Spells t advert → is_readable advert ≡ true → advert_of_all t ≡ Ok advert
unfolding advert_of_all
all_again t advert s h = rw (advert_again t advert s h) refl
