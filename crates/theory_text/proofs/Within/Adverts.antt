-- The adverts that are read are within the limits of the reader.
use Rattle.std.proofs.Common.{◌≡◌, ℕ, zero, suc, ◌+◌, ◌≤◌, Bool, true, false, List, [], ◌∷◌, length, Result, Ok, Err, refl, subst, arith}
use Rattle.std.specs.List.{list_all}
use Rattle.std.proofs.lemmas.Bool.Decides.{nat_tests}
use Rattle.spec_data.specs.Ranges.{max_money}
use Rattle.spec_terms.specs.Term.{Contract}
use Rattle.spec_terms.specs.Advert.{Advert}
use Rattle.spec_terms.specs.Precondition.{deposits, secrets}
use Rattle.spec_terms.specs.Readable.{is_some_list, most_depth, most_choices, most_branches, most_deposits, most_secrets, is_readable_contract, is_readable_entry, is_readable_pre, is_readable}
use Rattle.spec_terms.specs.declared.pre.Pre.{Pre}
use Rattle.spec_terms.specs.declared.pre.Pre.TheVariants.{Persistent, Volatile, Secret}
use Rattle.spec_text.specs.declared.stop.Stop.{Stop}
use Rattle.spec_text.specs.declared.stop.TextFault.{TextFault}
use Rattle.spec_text.specs.declared.token.Token.{Token}
use Rattle.spec_text.specs.declared.token.Keyword.TheVariants as word
use Rattle.spec_text.specs.declared.token.Symbol.TheVariants as mark
use Rattle.spec_text.specs.declared.lexeme.Lexeme.{Lexeme}
use Rattle.spec_text.specs.declared.lexeme.Lexeme.TheVariants.{Keyword as keyword}
use Rattle.spec_text.specs.Lexis.{Tokens, tokens_of}
use Rattle.spec_text.specs.Lexeme.{lexemes}
use Rattle.spec_text.specs.Reading.{Reads, ◌>>=◌, a_symbol}
use Rattle.spec_text.specs.ReadContract.{branch_at}
use Rattle.spec_text.specs.ReadAdvert.{EntryKind, persistent, volatile, secret, an_entry_kind, head_at, deposit_of, deposit_at, secret_at, entry_rest_at, Room, room_after, is_full, room_for, entry_at, entries_go_on, entries_at, fee_at, advert_of, advert_at, if_last, advert_of_all, answer_of, answer_from, read_answer}
use Rattle.theory_text.proofs.ListFacts.{and_is}
use Rattle.theory_text.proofs.Within.LexemeNames.{HaveNames, text_has_names}
use Rattle.theory_text.proofs.Within.ReadWithin.{le_yes, Within, within_then, Any, mark_within, IsName, name_within, IsAtMost, number_within}
use Rattle.theory_text.proofs.Within.Contracts.{ChoiceWithin, choice_within, branch_within, count_is}

-- ---- an entry

-- how many deposits an entry of this kind is
abbrev deposits_in : EntryKind → ℕ
deposits_in persistent = 1
deposits_in volatile = 1
deposits_in secret = 0

-- how many secrets
abbrev secrets_in : EntryKind → ℕ
secrets_in persistent = 0
secrets_in volatile = 0
secrets_in secret = 1

record EntryIs (k : EntryKind) (p : Pre) : Type 0 where
  readable : is_readable_entry p ≡ true
  deposits' : length (deposits (p ∷ [])) ≡ deposits_in k
  secrets' : length (secrets (p ∷ [])) ≡ secrets_in k

abbrev HeadWithin : List ℕ × EntryKind → Type 0
HeadWithin h = IsName h.0

head_within : (ts : List Lexeme) → HaveNames ts → Within HeadWithin (head_at ts)
unfolding head_at
head_within ts h =
    within_then IsName HeadWithin _ _ (name_within ts h) (λ a us is k.
    within_then Any HeadWithin _ _ (mark_within (a_symbol mark.Colon) us k) (λ c vs y l.
    within_then Any HeadWithin _ _ (mark_within an_entry_kind vs l) (λ e ws z m. (is, m))))

deposit_within : (t : Bool) (party : List ℕ) (ts : List Lexeme) (k : EntryKind) → deposits_in k ≡ 1 → secrets_in k ≡ 0 → IsName party
    → HaveNames ts → Within (EntryIs k) (deposit_at t party ts)
unfolding deposit_at
deposit_within t party ts k one none is h =
    within_then (IsAtMost max_money) (EntryIs k) _ _ (number_within max_money ts h) (λ v us small l.
    within_then Any (EntryIs k) _ _ (mark_within (a_symbol mark.At) us l) (λ o vs y m.
    within_then IsName (EntryIs k) _ _ (name_within vs m) (λ x ws so n. (either_deposit t party v x k one none is small so, n))))
  where
    either_deposit : (t : Bool) (party : List ℕ) (v : ℕ) (x : List ℕ) (k : EntryKind) → deposits_in k ≡ 1 → secrets_in k ≡ 0 → IsName party
        → IsAtMost max_money v → IsName x → EntryIs k (deposit_of t party v x)
    either_deposit true party v x k one none is small so =
        record { readable = and_is _ _ is (and_is _ _ small so); deposits' = rw one refl; secrets' = rw none refl }
    either_deposit false party v x k one none is small so =
        record { readable = and_is _ _ is (and_is _ _ small so); deposits' = rw one refl; secrets' = rw none refl }

secret_within : (party : List ℕ) (ts : List Lexeme) → IsName party → HaveNames ts → Within (EntryIs secret) (secret_at party ts)
unfolding secret_at
secret_within party ts is h =
    within_then IsName (EntryIs secret) _ _ (name_within ts h) (λ x us so k.
    (record { readable = and_is _ _ is so; deposits' = refl; secrets' = refl }, k))

rest_within : (k : EntryKind) (party : List ℕ) (ts : List Lexeme) → IsName party → HaveNames ts → Within (EntryIs k) (entry_rest_at k party ts)
rest_within persistent party ts is h = deposit_within true party ts persistent refl refl is h
rest_within volatile party ts is h = deposit_within false party ts volatile refl refl is h
rest_within secret party ts is h = secret_within party ts is h

-- ---- room

-- the room after an entry, and the entry, are within the room before it
record Taken (k : EntryKind) (room : Room) : Type 0 where
  deposits' : deposits_in k + (room_after k room).0 ≤ room.0
  secrets' : secrets_in k + (room_after k room).1 ≤ room.1

room_taken : (k : EntryKind) (room : Room) → is_full k room ≡ false → Taken k room
room_taken persistent room h = record { deposits' = grind (arith, nat_tests); secrets' = omega arith }
room_taken volatile room h = record { deposits' = grind (arith, nat_tests); secrets' = omega arith }
room_taken secret room h = record { deposits' = omega arith; secrets' = grind (arith, nat_tests) }

-- where there is no room reading stops
roomed : {B : Type 0} (Q : B → Type 0) (k : EntryKind) (t : Bool) (left : ℕ) (later : Unit {0} → Reads B)
    → (t ≡ false → Within Q (later tt)) → Within Q (room_for k t left >>= later)
roomed Q k true left later f = tt
roomed Q k false left later f = f refl

record EntryWithin (room : Room) (r : Pre × Room) : Type 0 where
  readable : is_readable_entry r.0 ≡ true
  deposits' : length (deposits (r.0 ∷ [])) + r.1.0 ≤ room.0
  secrets' : length (secrets (r.0 ∷ [])) + r.1.1 ≤ room.1

entry_taken : (k : EntryKind) (room : Room) (p : Pre) → Taken k room → EntryIs k p → EntryWithin room (p, room_after k room)
entry_taken k room p t e =
    record { readable = e.readable; deposits' = omega (arith, t.deposits', e.deposits'); secrets' = omega (arith, t.secrets', e.secrets') }

entry_within : (room : Room) (ts : List Lexeme) → HaveNames ts → Within (EntryWithin room) (entry_at room ts)
unfolding entry_at
entry_within room ts h =
    within_then HeadWithin (EntryWithin room) _ _ (head_within ts h) (λ a us is l.
    roomed (EntryWithin room) (a.1) (is_full (a.1) room) (length ts) _ (λ free.
    within_then (EntryIs a.1) (EntryWithin room) _ _ (rest_within (a.1) (a.0) us is l) (λ p vs so m.
    (entry_taken a.1 room p (room_taken (a.1) room free) so, m))))

-- ---- entries

record EntriesWithin (room : Room) (ps : List Pre) : Type 0 where
  some : is_some_list ps ≡ true
  readable : list_all is_readable_entry ps ≡ true
  deposits' : length (deposits ps) ≤ room.0
  secrets' : length (secrets ps) ≤ room.1

deposits_more : (p : Pre) (ps : List Pre) → length (deposits (p ∷ ps)) ≡ length (deposits (p ∷ [])) + length (deposits ps)
deposits_more (Persistent party value name) ps = omega arith
deposits_more (Volatile party value name) ps = omega arith
deposits_more (Secret party name) ps = omega arith

secrets_more : (p : Pre) (ps : List Pre) → length (secrets (p ∷ ps)) ≡ length (secrets (p ∷ [])) + length (secrets ps)
secrets_more (Persistent party value name) ps = omega arith
secrets_more (Volatile party value name) ps = omega arith
secrets_more (Secret party name) ps = omega arith

last_entry : (room least : Room) (r : Pre × Room) → least.0 ≤ room.0 → least.1 ≤ room.1 → EntryWithin least r → EntriesWithin room (r.0 ∷ [])
last_entry room least r ge he is =
    record { some = refl; readable = and_is _ _ is.readable refl; deposits' = omega (arith, is.deposits', ge); secrets' = omega (arith, is.secrets', he) }

more_entries : (room : Room) (r : Pre × Room) (ps : List Pre) → EntryWithin room r → EntriesWithin r.1 ps → EntriesWithin room (r.0 ∷ ps)
more_entries room r ps is more =
    record {
      some = refl;
      readable = and_is _ _ is.readable more.readable;
      deposits' = omega
          (arith, is.deposits', more.deposits', deposits_more r.0 ps);
      secrets' = omega (arith, is.secrets', more.secrets', secrets_more r.0 ps);
    }

behind_entry : (n : ℕ) (room : Room) (r : Pre × Room) (ts : List Lexeme) (t : Bool) → EntryWithin room r → HaveNames ts
    → Within (EntriesWithin r.1) (entries_at n r.1 ts)
    → Within (EntriesWithin room) (elim t [ true ↦ entries_at n (r.1) ts >>= λ ps. Ok (r.0 ∷ ps.0, ps.1) | false ↦ Ok (r.0 ∷ [], ts) ])
behind_entry n room r ts true is h more = within_then (EntriesWithin r.1) (EntriesWithin room) _ _ more (λ ps us so k. (more_entries room r ps is so, k))
behind_entry n room r ts false is h more = (last_entry room room r (omega arith) (omega arith) is, h)

entries_within : (n : ℕ) (room : Room) (ts : List Lexeme) → HaveNames ts → Within (EntriesWithin room) (entries_at n room ts)
unfolding entries_at
entries_within zero room ts h =
    let none : Room = (0, 0) in
    within_then (EntryWithin none) (EntriesWithin room) _ _ (entry_within none ts h) (λ r us is k. (last_entry room none r (omega arith) (omega arith) is, k))
entries_within (suc n) room ts h =
    within_then (EntryWithin room) (EntriesWithin room) _ _ (entry_within room ts h) (λ r us is k.
    within_then Any (EntriesWithin room) _ _ (mark_within entries_go_on us k) (λ t vs y l.
    behind_entry n room r vs t is l (entries_within n (r.1) vs l)))

-- ---- adverts

fee_within : (ts : List Lexeme) → HaveNames ts → Within (IsAtMost max_money) (fee_at ts)
unfolding fee_at
fee_within (keyword word.Fee ∷ ts) h = number_within max_money ts h.1
fee_within ts h = (refl, h)

abbrev IsReadable : Advert → Type 0
IsReadable a = is_readable a ≡ true

advert_readable : (ps : List Pre) (fee : ℕ) (c : Contract × ℕ) → EntriesWithin (most_deposits, most_secrets) ps → IsAtMost max_money fee
    → ChoiceWithin most_depth most_choices most_branches c → IsReadable (advert_of ps fee c.0)
advert_readable ps fee c e small is =
    let pre : is_readable_pre ps ≡ true = and_is _ _ (and_is _ _ e.some e.readable) (and_is _ _ (le_yes _ _ e.deposits') (le_yes _ _ e.secrets')) in
    let root : is_readable_contract c.0 ≡ true =
    and_is _ _ (and_is _ _ (count_is c.0 is.some is.few) is.readable) (and_is _ _ (le_yes _ _ is.depth) (le_yes _ _ (omega (arith, is.count)))) in
    and_is _ _ pre (and_is _ _ small root)

advert_within : (ts : List Lexeme) → HaveNames ts → Within IsReadable (advert_at ts)
unfolding advert_at
advert_within ts h =
    within_then Any IsReadable _ _ (mark_within (a_symbol mark.LeftBrace) ts h) (λ b us y k.
    within_then (EntriesWithin (most_deposits, most_secrets)) IsReadable _ _
    (entries_within (most_deposits + most_secrets) (most_deposits, most_secrets) us k) (λ p vs e l.
    within_then (IsAtMost max_money) IsReadable _ _ (fee_within vs l) (λ f ws small m.
    within_then (ChoiceWithin most_depth most_choices most_branches) IsReadable _ _
    (choice_within (branch_at most_depth) most_depth most_branches ws (branch_within most_depth) m) (λ c xs is n.
    (advert_readable p f c e small is, n)))))

-- ---- the answer to a text

abbrev ReadableOr : {E : Type 0} → Result Advert E → Type 0
ReadableOr (Ok a) = IsReadable a
ReadableOr (Err e) = Unit {0}

last_readable : (r : Reads Advert) → Within IsReadable r → ReadableOr (r >>= λ a. if_last (a.0) (a.1))
last_readable (Err stop) h = tt
last_readable (Ok r) h = if_end r.0 r.1 h.0
  where
    if_end : (a : Advert) (ts : List Lexeme) → IsReadable a → ReadableOr (if_last a ts)
    if_end a [] h = h
    if_end a (t ∷ ts) h = tt

all_readable : (ts : List Lexeme) → HaveNames ts → ReadableOr (advert_of_all ts)
unfolding advert_of_all
all_readable ts h = last_readable (advert_at ts) (advert_within ts h)

answer_readable : (text : List ℕ) (tokens : List Token) (r : Result Advert Stop) → ReadableOr r → ReadableOr (answer_of text tokens r)
answer_readable text tokens (Ok a) h = h
answer_readable text tokens (Err stop) h = tt

from_readable : (text : List ℕ) (cut : Tokens) → tokens_of text ≡ cut → ReadableOr (answer_from text cut)
from_readable text (Ok tokens) e =
    answer_readable text tokens (advert_of_all (lexemes text tokens)) (all_readable (lexemes text tokens) (text_has_names text tokens e))
from_readable text (Err place) e = tt

any_answer : (text : List ℕ) → ReadableOr (read_answer text)
unfolding read_answer
any_answer text = from_readable text (tokens_of text) refl

answered : (answer : Result Advert TextFault) (a : Advert) → ReadableOr answer → answer ≡ Ok a → IsReadable a
answered answer a h e = subst ReadableOr e h

-- what is read is within the limits of the reader
pub read_is_readable : (text : List ℕ) (advert : Advert) → read_answer text ≡ Ok advert → is_readable advert ≡ true
read_is_readable text a e = answered (read_answer text) a (any_answer text) e
