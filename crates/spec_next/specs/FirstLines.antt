-- The first lines of a run of a contract: the header that it needs, and the events up to its beginning.
use Rattle.std.specs.Prelude.{ℕ, ◌+◌, List, [], ◌∷◌, ◌++◌, map, codes, flat_map}
use Rattle.spec_terms.specs.Advert.{Advert}
use Rattle.spec_terms.specs.Parties.{participants}
use Rattle.spec_terms.specs.Precondition.{Holding, deposits, secrets, names_of}
use Rattle.spec_run.specs.declared.event.Event.{Event}
use Rattle.spec_run.specs.declared.event.Event.TheVariants as events
use Rattle.spec_run.specs.declared.event.Run.{Run}
use Rattle.spec_run.specs.declared.header.Header.{Header}
use Rattle.spec_run.specs.declared.header.HeldSecret.{HeldSecret}
use Rattle.spec_text.specs.RunText.{newline, event_text, party_text, honest_text, deposit_text}

-- ---- the run, with the bytes of its secrets in the precondition's order

-- the secrets, which are given with their parties, with these bytes one by one
abbrev pub held : List (List ℕ × List ℕ) → List (List ℕ) → List HeldSecret
held [] strings = []
held (x ∷ xs) [] = []
held (x ∷ xs) (bytes ∷ strings) = record { party = x.1; name = x.0; bytes = bytes } ∷ held xs strings

-- the owner and the value of each deposit
abbrev pub owned : List (List ℕ × Holding) → List (List ℕ × ℕ)
owned ds = map (λ d. ((d.1).owner, (d.1).value)) ds

-- everyone who takes part is honest, and has the deposits of the precondition
abbrev pub first_header : Advert → List (List ℕ) → Header
first_header advert strings = record {
  parties = participants advert;
  honest = participants advert;
  secrets = held (secrets advert.pre) strings;
  deposits = owned (deposits advert.pre);
}

-- these names are bound to the outputs from number n on
abbrev pub bound_from : ℕ → List (List ℕ) → List (List ℕ × ℕ)
bound_from n [] = []
bound_from n (name ∷ names) = (name, n) ∷ bound_from (n + 1) names

-- the contract is advertised; all commit, all endorse, all sign the initial transaction; it begins
abbrev pub first_events : Advert → List Event
first_events advert =
    events.Advertise 0 (bound_from 0 (names_of (deposits advert.pre)))
    ∷ (map (λ party. events.Commit 0 party []) (participants advert)
    ++ (map (λ party. events.Endorse 0 party) (participants advert)
    ++ (map (λ party. events.Init 0 party) (participants advert)
    ++ events.FireInit 0 ∷ [])))

abbrev pub first_run : Advert → List (List ℕ) → Run
first_run advert strings = record { header = first_header advert strings; events = first_events advert }

-- ---- its text

-- the line of a secret with this word for its bytes
abbrev pub secret_line : List ℕ × List ℕ → List ℕ → List ℕ
secret_line x word = codes "secret " ++ (x.1 ++ (codes " " ++ (x.0 ++ (codes " " ++ (word ++ newline)))))

-- the lines of the secrets with these words, one by one
abbrev pub secret_lines : List (List ℕ × List ℕ) → List (List ℕ) → List ℕ
secret_lines [] words = []
secret_lines (x ∷ xs) [] = []
secret_lines (x ∷ xs) (word ∷ words) = secret_line x word ++ secret_lines xs words

-- the run file with these words for the bytes of its secrets
abbrev pub first_lines : Advert → List (List ℕ) → List ℕ
first_lines advert words =
    flat_map party_text (participants advert)
    ++ (flat_map honest_text (participants advert)
    ++ (secret_lines (secrets advert.pre) words
    ++ (flat_map deposit_text (owned (deposits advert.pre))
    ++ ((codes "--" ++ newline)
    ++ flat_map (λ e. event_text e ++ newline) (first_events advert)))))

-- a word that is no bytes: the secret is to be filled in
abbrev pub placeholder : List ℕ
placeholder = codes "HEX"

-- the run file to start from
unfoldable pub begin_text : Advert → List ℕ
begin_text advert = first_lines advert (map (λ x. placeholder) (secrets advert.pre))
