-- Reading of a whole contract text: its advert, or why it is none and where.
use Rattle.std.specs.Prelude.{ℕ, zero, suc, ◌+◌, ◌-◌, List, [], ◌∷◌, length, drop, Bool, true, false, ◌==◌, Result, Ok, Err}
use Rattle.spec_terms.specs.Term.{Contract}
use Rattle.spec_terms.specs.Advert.{Advert}
use Rattle.spec_terms.specs.declared.pre.Pre.{Pre}
use Rattle.spec_terms.specs.declared.pre.Pre.TheVariants.{Persistent, Volatile, Secret}
use Rattle.spec_terms.specs.declared.limit.Limit.{Limit}
use Rattle.spec_terms.specs.declared.limit.Limit.TheVariants as limits
use Rattle.spec_text.specs.declared.stop.Stop.{Stop}
use Rattle.spec_text.specs.declared.stop.Stop.TheVariants as stops
use Rattle.spec_text.specs.declared.stop.TextFault.{TextFault}
use Rattle.spec_text.specs.declared.stop.TextFault.TheVariants as faults
use Rattle.spec_text.specs.declared.token.Token.{Token}
use Rattle.spec_text.specs.declared.token.Keyword.TheVariants as word
use Rattle.spec_text.specs.declared.token.Symbol.TheVariants as mark
use Rattle.spec_text.specs.Lexis.{tokens_of, Tokens}
use Rattle.spec_text.specs.declared.lexeme.Lexeme.{Lexeme}
use Rattle.spec_text.specs.declared.lexeme.Lexeme.TheVariants.{Keyword as keyword, Symbol as symbol}
use Rattle.spec_text.specs.Lexeme.{lexemes}
use Rattle.spec_data.specs.Ranges.{max_money}
use Rattle.spec_terms.specs.Readable.{most_depth, most_branches, most_deposits, most_secrets}
use Rattle.spec_text.specs.Reading.{Reads, ◌>>=◌, Seen, taken, wrong, token_by, a_symbol, a_name, a_number}
use Rattle.spec_text.specs.ReadContract.{choice_with, branch_at}

-- ---- entries of the precondition

-- what an entry is, by the token behind its colon
pub data EntryKind : Type 0 where
  persistent : EntryKind
  volatile : EntryKind
  secret : EntryKind

abbrev pub an_entry_kind : Lexeme → Seen EntryKind
an_entry_kind (symbol mark.Bang) = taken persistent
an_entry_kind (symbol mark.Question) = taken volatile
an_entry_kind (keyword word.Secret) = taken secret
an_entry_kind _ = wrong

-- the party of an entry and what the entry is
unfoldable pub head_at : List Lexeme → Reads (List ℕ × EntryKind)
head_at ts = do
  a ← token_by a_name ts
  c ← token_by (a_symbol mark.Colon) (a.1)
  k ← token_by an_entry_kind (c.1)
  Ok ((a.0, k.0), k.1)

abbrev pub deposit_of : Bool → List ℕ → ℕ → List ℕ → Pre
deposit_of true party value deposit = Persistent party value deposit
deposit_of false party value deposit = Volatile party value deposit

-- a deposit behind its `!` or `?`
unfoldable pub deposit_at : Bool → List ℕ → List Lexeme → Reads Pre
deposit_at persists party ts = do
  v ← token_by (a_number max_money) ts
  o ← token_by (a_symbol mark.At) (v.1)
  x ← token_by a_name (o.1)
  Ok (deposit_of persists party (v.0) (x.0), x.1)

-- a secret behind its keyword
unfoldable pub secret_at : List ℕ → List Lexeme → Reads Pre
secret_at party ts = do
  x ← token_by a_name ts
  Ok (Secret party (x.0), x.1)

abbrev pub entry_rest_at : EntryKind → List ℕ → List Lexeme → Reads Pre
entry_rest_at persistent party ts = deposit_at true party ts
entry_rest_at volatile party ts = deposit_at false party ts
entry_rest_at secret party ts = secret_at party ts

-- how many deposits and secrets may still come
abbrev pub Room : Type 0
Room = ℕ × ℕ

-- the room after an entry of this kind
abbrev pub room_after : EntryKind → Room → Room
room_after persistent r = (r.0 - 1, r.1)
room_after volatile r = (r.0 - 1, r.1)
room_after secret r = (r.0, r.1 - 1)

abbrev pub is_full : EntryKind → Room → Bool
is_full persistent r = r.0 == 0
is_full volatile r = r.0 == 0
is_full secret r = r.1 == 0

-- the limit that an entry of this kind is above
abbrev pub entry_limit : EntryKind → Limit
entry_limit persistent = limits.Deposits
entry_limit volatile = limits.Deposits
entry_limit secret = limits.Secrets

abbrev pub room_for : EntryKind → Bool → ℕ → Result (Unit {0}) Stop
room_for k true left = Err (stops.Limit (entry_limit k) left)
room_for k false left = Ok tt

-- an entry, where its kind has room; one too many is met at its first token, once its kind shows
unfoldable pub entry_at : Room → List Lexeme → Reads (Pre × Room)
entry_at room ts = do
  h ← head_at ts
  r ← room_for (h.0.1) (is_full (h.0.1) room) (length ts)
  p ← entry_rest_at (h.0.1) (h.0.0) (h.1)
  Ok ((p.0, room_after (h.0.1) room), p.1)

-- a bar is true, a brace that closes is false
abbrev pub entries_go_on : Lexeme → Seen Bool
entries_go_on (symbol mark.Bar) = taken true
entries_go_on (symbol mark.RightBrace) = taken false
entries_go_on _ = wrong

-- Entries up to the brace that closes, of which at most so many may come. Where none may, there is room for
-- no kind, so reading stops in the entry that begins here.
unfoldable pub entries_at : ℕ → Room → List Lexeme → Reads (List Pre)
entries_at zero room ts = do
  p ← entry_at (0, 0) ts
  Ok (p.0.0 ∷ [], p.1)
entries_at (suc n) room ts = do
  p ← entry_at room ts
  o ← token_by entries_go_on (p.1)
  elim (o.0) [
    | true ↦ entries_at n (p.0.1) (o.1) >>= λ r. Ok (p.0.0 ∷ r.0, r.1)
    | false ↦ Ok (p.0.0 ∷ [], o.1)
  ]

-- ---- the advert

-- a fee, or none
unfoldable pub fee_at : List Lexeme → Reads ℕ
fee_at (keyword word.Fee ∷ ts) = token_by (a_number max_money) ts
fee_at ts = Ok (0, ts)

abbrev pub advert_of : List Pre → ℕ → Contract → Advert
advert_of pre fee root = record { pre = pre; fee = fee; root = root }

-- an advert at the front
unfoldable pub advert_at : List Lexeme → Reads Advert
advert_at ts = do
  b ← token_by (a_symbol mark.LeftBrace) ts
  p ← entries_at (most_deposits + most_secrets) (most_deposits, most_secrets) (b.1)
  f ← fee_at (p.1)
  c ← choice_with (branch_at most_depth) most_depth most_branches (f.1)
  Ok (advert_of (p.0) (f.0) (c.0.0), c.1)

-- what was read, where nothing follows it
abbrev pub if_last : {A : Type 0} → A → List Lexeme → Result A Stop
if_last x [] = Ok x
if_last x (t ∷ ts) = Err (stops.Syntax (suc (length ts)))

-- the advert that the tokens are
unfoldable pub advert_of_all : List Lexeme → Result Advert Stop
advert_of_all ts = do
  a ← advert_at ts
  if_last (a.0) (a.1)

-- ---- the answer to a text

-- where the first of the tokens begins; the end of the text where there is none
abbrev pub first_start : ℕ → List Token → ℕ
first_start end [] = end
first_start end (t ∷ ts) = t.start

-- the place of the token from which on so many are left
abbrev pub place_of : List ℕ → List Token → ℕ → ℕ
place_of text tokens left = first_start (length text) (drop (length tokens - left) tokens)

abbrev pub fault_of : List ℕ → List Token → Stop → TextFault
fault_of text tokens (stops.Syntax left) = faults.Syntax (place_of text tokens left)
fault_of text tokens (stops.Limit w left) = faults.Limit w (place_of text tokens left)

abbrev pub answer_of : List ℕ → List Token → Result Advert Stop → Result Advert TextFault
answer_of text tokens (Ok advert) = Ok advert
answer_of text tokens (Err stop) = Err (fault_of text tokens stop)

abbrev pub answer_from : List ℕ → Tokens → Result Advert TextFault
answer_from text (Err place) = Err (faults.BadByte place)
answer_from text (Ok tokens) = answer_of text tokens (advert_of_all (lexemes text tokens))

-- the advert that a text spells, or why it spells none and where
unfoldable pub read_answer : List ℕ → Result Advert TextFault
read_answer text = answer_from text (tokens_of text)
