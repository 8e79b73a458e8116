-- What is found of lines, by the list of a contract's transactions.
use Rattle.std.specs.Prelude.{◌≡◌, ℕ, ◌+◌, List, [], ◌∷◌, ◌++◌, Option, Some, None}
use Rattle.std.specs.List.{flat_map}
use Rattle.spec_bitcoin.specs.declared.tx.Tx.{Tx}
use Rattle.spec_run.specs.Setup.{Setup}
use Rattle.spec_run.specs.World.{World}
use Rattle.spec_run.specs.Ledger.{strings_of}
use Rattle.spec_text.specs.Lines.{lines_of}
use Rattle.spec_tool.specs.declared.finding.Kind.{Kind}
use Rattle.spec_tool.specs.declared.finding.Kind.TheVariants as kinds
use Rattle.spec_tool.specs.declared.finding.Finding.{Finding}
use Rattle.spec_tool.specs.Audit.{Given, empty, not_hex, bad, read, onto_given, given_line, given_transactions, now_of, finding}
use Rattle.bm_audit_listed.specs.declared.entries.Candidate.{Candidate}
use Rattle.bm_audit_listed.specs.Parts.{names_of}
use Rattle.bm_world.specs.Playing.{Played, setup_in}
use Rattle.bm_world_heard.specs.Heard.{Calm, Reaches}

-- ---- strings

-- those of the transaction that a line is, if it is one
abbrev pub given_strings : Setup → World → Given → List (List ℕ)
given_strings s w given = flat_map (strings_of s w) (onto_given given [])

-- those of the transactions that lines are
abbrev pub lines_strings : Setup → World → List (List ℕ) → List (List ℕ)
lines_strings s w lines = flat_map (strings_of s w) (given_transactions lines)

abbrev pub text_strings : Setup → World → List ℕ → List (List ℕ)
text_strings s w text = lines_strings s w (lines_of text)

-- ---- kinds

abbrev pub read_kind : Setup → World → List Candidate → Tx → Kind
read_kind s w cs tx = kinds.Read (names_of cs tx) (now_of s w tx)

abbrev pub kind_said : Setup → World → List Candidate → Given → Option Kind
kind_said s w cs empty = None
kind_said s w cs not_hex = Some kinds.NotHex
kind_said s w cs (bad place) = Some (kinds.Bad place)
kind_said s w cs (read tx) = Some (read_kind s w cs tx)

-- the finding of line n, if something is said of it
abbrev pub onto_found : ℕ → Option Kind → List Finding → List Finding
onto_found n None later = later
onto_found n (Some kind) later = finding n kind ∷ later

-- one for each line of which something is said, the lines numbered from n on
abbrev pub found_from : Setup → World → List Candidate → ℕ → List (List ℕ) → List Finding
found_from s w cs n [] = []
found_from s w cs n (line ∷ lines) = onto_found n (kind_said s w cs (given_line line)) (found_from s w cs (n + 1) lines)

-- ---- what is found by a call

-- a transaction was judged
pub record Reads {H : Type 0} (digest : H → List ℕ → List ℕ) (old new : Played H) (cs : List Candidate) (tx : Tx)
    (kind : Kind) : Type 0 where
  pub calm : Calm digest old new (strings_of (setup_in digest old) old.world tx)
  pub said : kind ≡ read_kind (setup_in digest old) old.world cs tx

-- a line was read, and judged where it is a transaction
pub record Takes {H : Type 0} (digest : H → List ℕ → List ℕ) (old new : Played H) (cs : List Candidate) (given : Given)
    (kind : Option Kind) : Type 0 where
  pub calm : Calm digest old new (given_strings (setup_in digest old) old.world given)
  pub said : kind ≡ kind_said (setup_in digest old) old.world cs given

-- the same, and what is said of it was added
pub record Adds {H : Type 0} (digest : H → List ℕ → List ℕ) (old new : Played H) (cs : List Candidate) (given : Given) (n : ℕ)
    (before later : List Finding) : Type 0 where
  pub calm : Calm digest old new (given_strings (setup_in digest old) old.world given)
  pub added : later ≡ before ++ onto_found n (kind_said (setup_in digest old) old.world cs given) []

-- all lines of a text were
pub record Finds {H : Type 0} (digest : H → List ℕ → List ℕ) (old new : Played H) (cs : List Candidate) (text : List ℕ)
    (findings : List Finding) : Type 0 where
  pub calm : Calm digest old new (text_strings (setup_in digest old) old.world text)
  pub found : findings ≡ found_from (setup_in digest old) old.world cs 1 (lines_of text)

-- the lines before these were, and these are left
pub record Midway {H : Type 0} (digest : H → List ℕ → List ℕ) (old now : Played H) (cs : List Candidate) (text rest : List ℕ) (line : ℕ)
    (findings : List Finding) : Type 0 where
  pub reach : Reaches digest old now (text_strings (setup_in digest old) old.world rest) (text_strings (setup_in digest old) old.world text)
  pub found : findings ++ found_from (setup_in digest old) old.world cs line (lines_of rest)
      ≡ found_from (setup_in digest old) old.world cs 1 (lines_of text)
