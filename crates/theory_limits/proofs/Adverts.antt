-- The walk over whole adverts.
use Rattle.std.proofs.Common.{◌≡◌, ℕ, zero, suc, ◌+◌, ◌-◌, Bool, true, false, List, [], ◌∷◌, length, Result, Ok, Err, refl, ◌∙◌, arith}
use Rattle.spec_data.specs.Ranges.{max_money}
use Rattle.spec_terms.specs.Advert.{Advert}
use Rattle.spec_terms.specs.Term.{Contract}
use Rattle.spec_terms.specs.declared.pre.Pre.{Pre}
use Rattle.spec_terms.specs.Readable.{most_depth, most_branches, most_deposits, most_secrets}
use Rattle.spec_text.specs.declared.stop.Stop.{Stop}
use Rattle.spec_text.specs.declared.token.Keyword.TheVariants as word
use Rattle.spec_text.specs.declared.token.Symbol.TheVariants as mark
use Rattle.spec_text.specs.declared.lexeme.Lexeme.{Lexeme}
use Rattle.spec_text.specs.declared.lexeme.Lexeme.TheVariants.{Keyword as keyword, Symbol as symbol, Name as name}
use Rattle.spec_text.specs.Reading.{Reads, ◌>>=◌, token_by, a_symbol, a_number}
use Rattle.spec_text.specs.ReadContract.{choice_with, branch_at}
use Rattle.spec_text.specs.ReadAdvert.{EntryKind, persistent, volatile, secret, head_at, deposit_at, secret_at, entry_rest_at, Room, room_after, room_for, is_full, entry_at, entries_go_on, entries_at, fee_at, advert_of, advert_at, if_last, advert_of_all}
use Rattle.theory_text.proofs.Again.Steps.{not_zero}
use Rattle.theory_limits.specs.Awaited.{Awaited, this_symbol, contract, entry, behind_entry, fee_or_contract, an_advert}
use Rattle.theory_limits.specs.Awaited.{a_name as some_name, a_number as some_number}
use Rattle.theory_limits.proofs.Judged.{Judgement, judged, followed, followed_by, Walks, walks_none, walks_seq, Counts}
use Rattle.theory_limits.proofs.Tokens.{walks_symbol, walks_name, walks_number}
use Rattle.theory_limits.proofs.Formulas.{within, above}
use Rattle.theory_limits.proofs.Contracts.{walks_root}

-- ---- entries

-- what the answer to an entry tells, where so many may come with it
abbrev Roomed : Judgement → List Awaited → ℕ → ℕ → Reads (Pre × Room) → Type 0
Roomed j more before sum (Ok x) =
    (ds : ℕ) × (ss : ℕ) × (ds + x.0.1.0 ≡ most_deposits) × (ss + x.0.1.1 ≡ most_secrets) × (suc (x.0.1.0 + x.0.1.1) ≡ sum)
    × (j ≡ judged (behind_entry ds ss ∷ more) before (x.1))
Roomed j more before sum (Err e) = j ≡ Err e

roomed : (j : Judgement) (more : List Awaited) (before sum ds ss : ℕ) (room : Room) (r : Reads Pre)
    → j ≡ followed r (judged (behind_entry ds ss ∷ more) before) → ds + room.0 ≡ most_deposits → ss + room.1 ≡ most_secrets
    → suc (room.0 + room.1) ≡ sum → Roomed j more before sum (r >>= λ p. Ok ((p.0, room), p.1))
roomed j more before sum ds ss room (Ok x) e d s n = (ds, ss, d, s, n, e)
roomed j more before sum ds ss room (Err f) e d s n = e

deposit_walks : (b : Bool) (party : List ℕ) → Walks (some_number max_money ∷ this_symbol mark.At ∷ some_name ∷ []) (deposit_at b party)
unfolding deposit_at
deposit_walks b party =
    walks_seq (walks_number max_money) (λ v. walks_seq (walks_symbol mark.At) (λ o. walks_seq walks_name (λ x. walks_none _)))

secret_walks : (party : List ℕ) → Walks (some_name ∷ []) (secret_at party)
unfolding secret_at
secret_walks party = walks_seq walks_name (λ x. walks_none _)

-- what the reader does behind the token that tells what the entry is
abbrev told_at : EntryKind → List ℕ → Room → ℕ → List Lexeme → Reads (Pre × Room)
told_at k party room left ts =
    room_for k (is_full k room) left >>= λ r. entry_rest_at k party ts >>= λ p. Ok ((p.0, room_after k room), p.1)

persistent_goes : (party : List ℕ) (more : List Awaited) (before ds ss p q : ℕ) (ts : List Lexeme) → ds + p ≡ most_deposits
    → ss + q ≡ most_secrets
    → Roomed (judged (entry ds ss ∷ more) before (name party ∷ symbol mark.Colon ∷ symbol mark.Bang ∷ ts)) more before (p + q)
    (told_at persistent party (p, q) (suc (suc (suc (length ts)))) ts)
persistent_goes party more before ds ss zero q ts d s = rw (above (suc ds) most_deposits (omega arith)) refl
persistent_goes party more before ds ss (suc p) q ts d s =
    rw (within (suc ds) most_deposits (omega arith), not_zero (suc p) (omega arith))
    (roomed (judged (some_number max_money ∷ this_symbol mark.At ∷ some_name ∷ behind_entry (suc ds) ss ∷ more) before ts) more before
    (suc p + q) (suc ds) ss (suc p - 1, q) (deposit_at true party ts)
    ((deposit_walks true party).goes (behind_entry (suc ds) ss ∷ more) before ts) (omega arith) s (omega arith))

volatile_goes : (party : List ℕ) (more : List Awaited) (before ds ss p q : ℕ) (ts : List Lexeme) → ds + p ≡ most_deposits
    → ss + q ≡ most_secrets
    → Roomed (judged (entry ds ss ∷ more) before (name party ∷ symbol mark.Colon ∷ symbol mark.Question ∷ ts)) more before (p + q)
    (told_at volatile party (p, q) (suc (suc (suc (length ts)))) ts)
volatile_goes party more before ds ss zero q ts d s = rw (above (suc ds) most_deposits (omega arith)) refl
volatile_goes party more before ds ss (suc p) q ts d s =
    rw (within (suc ds) most_deposits (omega arith), not_zero (suc p) (omega arith))
    (roomed (judged (some_number max_money ∷ this_symbol mark.At ∷ some_name ∷ behind_entry (suc ds) ss ∷ more) before ts) more before
    (suc p + q) (suc ds) ss (suc p - 1, q) (deposit_at false party ts)
    ((deposit_walks false party).goes (behind_entry (suc ds) ss ∷ more) before ts) (omega arith) s (omega arith))

secret_goes : (party : List ℕ) (more : List Awaited) (before ds ss p q : ℕ) (ts : List Lexeme) → ds + p ≡ most_deposits
    → ss + q ≡ most_secrets
    → Roomed (judged (entry ds ss ∷ more) before (name party ∷ symbol mark.Colon ∷ keyword word.Secret ∷ ts)) more before (p + q)
    (told_at secret party (p, q) (suc (suc (suc (length ts)))) ts)
secret_goes party more before ds ss p zero ts d s = rw (above (suc ss) most_secrets (omega arith)) refl
secret_goes party more before ds ss p (suc q) ts d s =
    rw (within (suc ss) most_secrets (omega arith), not_zero (suc q) (omega arith))
    (roomed (judged (some_name ∷ behind_entry ds (suc ss) ∷ more) before ts) more before (p + suc q) ds (suc ss) (p, suc q - 1)
    (secret_at party ts) ((secret_walks party).goes (behind_entry ds (suc ss) ∷ more) before ts) d (omega arith) (omega arith))

entry_goes : (more : List Awaited) (before ds ss p q : ℕ) (ts : List Lexeme) → ds + p ≡ most_deposits → ss + q ≡ most_secrets
    → Roomed (judged (entry ds ss ∷ more) before ts) more before (p + q) (entry_at (p, q) ts)
unfolding entry_at head_at
entry_goes more before ds ss p q [] d s = refl
entry_goes more before ds ss p q (name x ∷ []) d s = refl
entry_goes more before ds ss p q (name x ∷ symbol mark.Colon ∷ []) d s = refl
entry_goes more before ds ss p q (name x ∷ symbol mark.Colon ∷ symbol mark.Bang ∷ ts) d s = persistent_goes x more before ds ss p q ts d s
entry_goes more before ds ss p q (name x ∷ symbol mark.Colon ∷ symbol mark.Question ∷ ts) d s = volatile_goes x more before ds ss p q ts d s
entry_goes more before ds ss p q (name x ∷ symbol mark.Colon ∷ keyword word.Secret ∷ ts) d s = secret_goes x more before ds ss p q ts d s
entry_goes more before ds ss p q (name x ∷ symbol mark.Colon ∷ t ∷ ts) d s = refl
entry_goes more before ds ss p q (name x ∷ t ∷ ts) d s = refl
entry_goes more before ds ss p q (t ∷ ts) d s = refl

-- what follows an entry
entries_by : (j : Judgement) (more : List Awaited) (before sum : ℕ) (r : Reads (Pre × Room))
    (k : Pre → Room → List Lexeme → Reads (List Pre)) → Roomed j more before sum r
    → ((x : Pre) (room : Room) (ds ss : ℕ) (ts : List Lexeme) → ds + room.0 ≡ most_deposits → ss + room.1 ≡ most_secrets
    → suc (room.0 + room.1) ≡ sum → judged (behind_entry ds ss ∷ more) before ts ≡ followed (k x room ts) (judged more before))
    → j ≡ followed (r >>= λ x. k (x.0.0) (x.0.1) (x.1)) (judged more before)
entries_by j more before sum (Ok x) k e h = e.5 ∙ h (x.0.0) (x.0.1) (e.0) (e.1) (x.1) e.2 e.3 e.4
entries_by j more before sum (Err f) k e h = e

-- what the reader does behind an entry
abbrev behind_at : ℕ → Pre → Room → List Lexeme → Reads (List Pre)
behind_at n x room ts =
    token_by entries_go_on ts >>= λ o. elim (o.0) [ true ↦ entries_at n room (o.1) >>= λ r. Ok (x ∷ r.0, r.1) | false ↦ Ok (x ∷ [], o.1) ]

behind_goes : (n : ℕ) (x : Pre) (room : Room) (ds ss : ℕ) (more : List Awaited) (before : ℕ) (ts : List Lexeme)
    → Walks (entry ds ss ∷ []) (entries_at n room)
    → judged (behind_entry ds ss ∷ more) before ts ≡ followed (behind_at n x room ts) (judged more before)
behind_goes n x room ds ss more before [] w = refl
behind_goes n x room ds ss more before (symbol mark.Bar ∷ ts) w = (walks_seq w (λ r. walks_none (x ∷ r))).goes more before ts
behind_goes n x room ds ss more before (symbol mark.RightBrace ∷ ts) w = refl
behind_goes n x room ds ss more before (t ∷ ts) w = refl

entries_go : (n ds ss : ℕ) (room : Room) (more : List Awaited) (before : ℕ) (ts : List Lexeme) → ds + room.0 ≡ most_deposits
    → ss + room.1 ≡ most_secrets → room.0 + room.1 ≡ n
    → judged (entry ds ss ∷ more) before ts ≡ followed (entries_at n room ts) (judged more before)
unfolding entries_at
entries_go zero ds ss room more before ts d s e =
    let p : room.0 ≡ 0 = omega arith in
    let q : room.1 ≡ 0 = omega arith in
    entries_by (judged (entry ds ss ∷ more) before ts) more before 0 (entry_at (0, 0) ts) (λ x room ts. Ok (x ∷ [], ts))
    (entry_goes more before ds ss 0 0 ts (omega arith) (omega arith)) (λ x room ds ss ts d s k. absurd (omega (arith, k)))
entries_go (suc n) ds ss room more before ts d s e =
    entries_by (judged (entry ds ss ∷ more) before ts) more before (room.0 + room.1) (entry_at room ts) (behind_at n)
    (entry_goes more before ds ss (room.0) (room.1) ts d s)
    (λ x r es us ts f g k. behind_goes n x r es us more before ts
    (record { goes = λ m b u. entries_go n es us r m b u f g (omega (arith, k)) }))

walks_entries : Walks (entry 0 0 ∷ []) (entries_at (most_deposits + most_secrets) (most_deposits, most_secrets))
walks_entries =
    record {
      goes = λ more before ts. entries_go (most_deposits + most_secrets) 0 0 (most_deposits, most_secrets) more before ts refl refl refl;
    }

-- ---- the fee and the contract

after_all : (m n : ℕ) (ts : List Lexeme) → judged [] m ts ≡ judged [] n ts
after_all m n [] = refl
after_all m n (t ∷ ts) = refl

root_by : (pre : List Pre) (fee : ℕ) (j : Judgement) (r : Reads (Contract × ℕ)) → Counts j [] r
    → j ≡ followed (r >>= λ c. Ok (advert_of pre fee (c.0.0), c.1)) (judged [] 0)
root_by pre fee j (Ok x) c = c.2 ∙ after_all (c.0) 0 (x.1)
root_by pre fee j (Err e) c = c

root_goes : (pre : List Pre) (fee : ℕ) (ts : List Lexeme)
    → judged (contract 1 ∷ []) 0 ts
    ≡ followed (choice_with (branch_at most_depth) most_depth most_branches ts >>= λ c. Ok (advert_of pre fee (c.0.0), c.1)) (judged [] 0)
root_goes pre fee ts =
    root_by pre fee (judged (contract 1 ∷ []) 0 ts) (choice_with (branch_at most_depth) most_depth most_branches ts)
    (walks_root.goes [] 0 most_branches ts refl)

abbrev fee_root_at : List Pre → List Lexeme → Reads Advert
fee_root_at pre ts =
    fee_at ts >>= λ f. choice_with (branch_at most_depth) most_depth most_branches (f.1) >>= λ c. Ok (advert_of pre (f.0) (c.0.0), c.1)

fee_root_goes : (pre : List Pre) (ts : List Lexeme) → judged (fee_or_contract ∷ []) 0 ts ≡ followed (fee_root_at pre ts) (judged [] 0)
unfolding fee_at choice_with
fee_root_goes pre [] = refl
fee_root_goes pre (keyword word.Fee ∷ ts) =
    (walks_number max_money).goes (contract 1 ∷ []) 0 ts
    ∙ followed_by (token_by (a_number max_money) ts)
    (λ f u. choice_with (branch_at most_depth) most_depth most_branches u >>= λ c. Ok (advert_of pre f (c.0.0), c.1))
    (judged (contract 1 ∷ []) 0) (judged [] 0) (λ f u. root_goes pre f u)
fee_root_goes pre (t ∷ ts) = root_goes pre 0 (t ∷ ts)

-- ---- adverts

abbrev all_entries : List Lexeme → Reads (List Pre)
all_entries ts = entries_at (most_deposits + most_secrets) (most_deposits, most_secrets) ts

entries_and_root : (ts : List Lexeme)
    → judged (entry 0 0 ∷ fee_or_contract ∷ []) 0 ts ≡ followed (all_entries ts >>= λ p. fee_root_at (p.0) (p.1)) (judged [] 0)
entries_and_root ts = walks_entries.goes (fee_or_contract ∷ []) 0 ts
    ∙ followed_by (all_entries ts) (λ p u. fee_root_at p u) (judged (fee_or_contract ∷ []) 0) (judged [] 0) (λ p u. fee_root_goes p u)

advert_goes : (ts : List Lexeme) → judged an_advert 0 ts ≡ followed (advert_at ts) (judged [] 0)
unfolding advert_at
advert_goes ts =
    (walks_symbol mark.LeftBrace).goes (entry 0 0 ∷ fee_or_contract ∷ []) 0 ts
    ∙ followed_by (token_by (a_symbol mark.LeftBrace) ts) (λ b u. all_entries u >>= λ p. fee_root_at (p.0) (p.1))
    (judged (entry 0 0 ∷ fee_or_contract ∷ []) 0) (judged [] 0) (λ b u. entries_and_root u)

-- the answer without the advert
abbrev pub bare_answer : Result Advert Stop → Judgement
bare_answer (Ok a) = Ok tt
bare_answer (Err e) = Err e

last_at : (a : Advert) (ts : List Lexeme) → judged [] 0 ts ≡ bare_answer (if_last a ts)
last_at a [] = refl
last_at a (t ∷ ts) = refl

last_by : (r : Reads Advert) → followed r (judged [] 0) ≡ bare_answer (r >>= λ a. if_last (a.0) (a.1))
last_by (Ok x) = last_at (x.0) (x.1)
last_by (Err e) = refl

-- the walk answers as the reader does
pub judged_is : (t : List Lexeme) → judged an_advert 0 t ≡ bare_answer (advert_of_all t)
unfolding advert_of_all
judged_is t = advert_goes t ∙ last_by (advert_at t)
