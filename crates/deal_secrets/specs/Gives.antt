-- What the readers of files of secrets answer, against what reading gives.
use Rattle.std.specs.Prelude.{◌≡◌, ℕ, List, [], ◌∷◌, ◌++◌, IsSome, Bool, true, Option, Some, None, Result, Ok, Err}
use Rattle.std.specs.List.{find}
use Rattle.std.specs.Str.{bytes_eq}
use Rattle.spec_data.specs.Lists.{is_among}
use Rattle.spec_data.specs.Messages.{noted, collision_with}
use Rattle.spec_compiler.specs.Keyed.Instance.{Instance}
use Rattle.bm_hash.specs.Messages.{evidence_of}
use Rattle.spec_deal.specs.declared.entry.Shown.{Shown}
use Rattle.spec_deal.specs.declared.fault.SecretFault.TheVariants as faults
use Rattle.spec_deal.specs.SecretFile.{Line, empty, bad, collides, gives, if_new, state_words, SecretsRead, shows, refused, collided}
use Rattle.deal_secrets.specs.declared.error.LineError.{LineError}
use Rattle.deal_secrets.specs.declared.error.LineError.TheVariants as lines
use Rattle.deal_secrets.specs.declared.error.SecretsError.{SecretsError}
use Rattle.deal_secrets.specs.declared.error.SecretsError.TheVariants as files

-- two different messages with one digest, the earlier one first
abbrev pub Evidence : Type 0
Evidence = Option (List ℕ × List ℕ)

-- the string that is hashed and the earlier one are those that collide
abbrev pub Collides : Evidence → Line → Type 0
Collides None line = ⊥
Collides (Some pair) line = line ≡ collides (pair.0) (pair.1)

-- a line doesn't count where the code says so, unless memory ran out
abbrev pub Stops : Evidence → LineError → Line → Type 0
Stops evidence (lines.Bad reason) line = line ≡ bad reason
Stops evidence lines.Collided line = Collides evidence line
Stops evidence lines.Memory line = Unit {0}

-- whether words say nothing of secrets: there are none, or the first is of a text that says where a deal stands
abbrev pub reads_over : List (List ℕ) → Bool
reads_over [] = true
reads_over (word ∷ words) = is_among word state_words

-- what the code says that a line gives, that it gives, if it is new behind these strings
abbrev pub Leads : (List ℕ → List ℕ) → Instance → List (List ℕ) → List Shown → Result Shown LineError → Line → Type 0
Leads hash s messages taken (Ok shown) line =
    line ≡ if_new hash s messages shown (find (λ (x : Shown). bytes_eq x.name shown.name) taken)
Leads hash s messages taken (Err e) line = Stops None e line

-- the same of a line that may have no words
abbrev pub LeadsOn : (List ℕ → List ℕ) → Instance → List (List ℕ) → List Shown → Result (Option Shown) LineError → Line → Type 0
LeadsOn hash s messages taken (Ok None) line = line ≡ empty
LeadsOn hash s messages taken (Ok (Some shown)) line = Leads hash s messages taken (Ok shown) line
LeadsOn hash s messages taken (Err e) line = Stops None e line

-- a message was hashed behind others among which none collided: its digest, or that it collides with one of them
abbrev pub IsHashed : (List ℕ → List ℕ) → List (List ℕ) → List (List ℕ) → List ℕ → Result (List ℕ) LineError → Type 0
IsHashed hash old new message (Ok digest) =
    (digest ≡ hash message) × (collision_with hash old message ≡ None) × (new ≡ noted old message) × (evidence_of hash new ≡ None)
IsHashed hash old new message (Err lines.Collided) = (evidence_of hash new ≡ collision_with hash old message) × IsSome (collision_with hash old message)
IsHashed hash old new message (Err lines.Memory) = Unit {0}
IsHashed hash old new message (Err (lines.Bad reason)) = ⊥

-- what a line adds to the messages and strings before it
abbrev pub Added : List (List ℕ) → List (List ℕ) → List Shown → List Shown → Line → Type 0
Added messages more taken new empty = (more ≡ messages) × (new ≡ taken)
Added messages more taken new (gives shown) = (more ≡ noted messages shown.bytes) × (new ≡ taken ++ shown ∷ [])
Added messages more taken new (bad reason) = ⊥
Added messages more taken new (collides earlier later) = ⊥

-- a line is taken, or why it isn't
abbrev pub Takes : {U : Type 0} → (List ℕ → List ℕ) → List (List ℕ) → List (List ℕ) → List Shown → List Shown → Result U LineError → Line
    → Type 0
Takes hash messages more taken new (Ok done) line = Added messages more taken new line
Takes hash messages more taken new (Err e) line = Stops (evidence_of hash more) e line

-- ---- a file

abbrev pub CollidesThere : Evidence → SecretsRead → Type 0
CollidesThere None read = ⊥
CollidesThere (Some pair) read = read ≡ collided (pair.0) (pair.1)

-- a text is refused where the code says so, unless memory ran out
abbrev pub Refuses : Evidence → SecretsError → SecretsRead → Type 0
Refuses evidence (files.Refused fault) read = read ≡ refused fault
Refuses evidence files.Collided read = CollidesThere evidence read
Refuses evidence files.Memory read = Unit {0}

-- what a function returned is what the text gives, unless memory ran out
abbrev pub Gives : Evidence → Result (List Shown) SecretsError → SecretsRead → Type 0
Gives evidence (Ok strings) read = read ≡ shows strings
Gives evidence (Err e) read = Refuses evidence e read

-- why a text is refused, by its line
abbrev pub at_line : LineError → ℕ → SecretsError
at_line (lines.Bad reason) n = files.Refused (faults.Line n reason)
at_line lines.Collided n = files.Collided
at_line lines.Memory n = files.Memory
