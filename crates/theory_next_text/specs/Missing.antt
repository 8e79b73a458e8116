-- What a line says to be missing, read from its words: the grammar of `needs` and `never:`.
use Rattle.std.specs.Prelude.{ℕ, List, [], ◌∷◌, ◌++◌, Bool, ◌&&◌, if◌then◌else◌, Option, Some, None, codes}
use Rattle.std.specs.Str.{bytes_eq}
use Rattle.spec_text.specs.Canonical.{joined}
use Rattle.spec_text.specs.Words.{◌>>=◌, given, a_name, all_of}
use Rattle.spec_next.specs.declared.requirement.Requirement.{Requirement}
use Rattle.spec_next.specs.declared.requirement.Requirement.TheVariants as requirements
use Rattle.theory_play_text.specs.Lines.{Words, number, begins_number, an_output}

-- ---- what a line says

pub data Lack : Type 0 where
  -- what one line says alone
  one : (requirement : Requirement) → Lack
  -- `needs A B commit K`, `needs A commits K`
  commitments : (parties : List (List ℕ)) → (contract : ℕ) → Lack
  endorsements : (parties : List (List ℕ)) → (contract : ℕ) → Lack
  starts : (parties : List (List ℕ)) → (contract : ℕ) → Lack
  -- `needs A B authorise #n i`
  authorisations : (parties : List (List ℕ)) → (output : ℕ) → (branch : ℕ) → Lack

-- ---- what several parties lack

-- the words before the last one, and the last
abbrev pub onto_last : List ℕ → Option (Words × List ℕ) → Option (Words × List ℕ)
onto_last word None = Some ([], word)
onto_last word (Some p) = Some (word ∷ p.0, p.1)

abbrev pub last_of : Words → Option (Words × List ℕ)
last_of [] = None
last_of (word ∷ words) = onto_last word (last_of words)

-- of one party the verb ends in `s`
abbrev pub is_verb : Words → List ℕ → List ℕ → Bool
is_verb (party ∷ []) verb word = bytes_eq word (verb ++ codes "s")
is_verb _ verb word = bytes_eq word verb

abbrev pub by_contract : Words → List ℕ → ℕ → Option Lack
by_contract parties word k =
    if is_verb parties (codes "commit") word then (all_of a_name parties >>= λ ps. Some (commitments ps k))
    else if is_verb parties (codes "endorse") word then (all_of a_name parties >>= λ ps. Some (endorsements ps k))
    else if is_verb parties (codes "init") word then (all_of a_name parties >>= λ ps. Some (starts ps k))
    else None

abbrev pub by_branch : Words → List ℕ → ℕ → ℕ → Option Lack
by_branch parties word n i =
    if is_verb parties (codes "authorise") word then (all_of a_name parties >>= λ ps. Some (authorisations ps n i)) else None

-- the words before a number, by the last of them
abbrev pub by_ending : Words → List ℕ → Option ℕ → ℕ → Option Lack
by_ending words word None k = by_contract words word k
by_ending words word (Some n) i = last_of words >>= λ p. by_branch (p.0) (p.1) n i

abbrev pub a_number : List ℕ → Option ℕ
a_number word = given (begins_number word) word >>= number

abbrev pub together_said : Words → Option Lack
together_said words =
    last_of words >>= λ p. a_number (p.1) >>= λ n. last_of (p.0) >>= λ q. by_ending (q.0) (q.1) (an_output (q.1)) n

-- ---- what one line says alone

abbrev pub two_said : List ℕ → List ℕ → Option Requirement
two_said kind word =
    if bytes_eq kind (codes "advertise") then (number word >>= λ k. Some (requirements.Advert k))
    else if bytes_eq kind (codes "deposit") then (a_name word >>= λ x. Some (requirements.Deposit x))
    else None

abbrev pub beginning_said : List ℕ → List ℕ → List ℕ → Option Requirement
beginning_said fire init word =
    if bytes_eq fire (codes "fire") && bytes_eq init (codes "init") then (number word >>= λ k. Some (requirements.Beginning k)) else None

abbrev pub height_said : List ℕ → List ℕ → List ℕ → List ℕ → List ℕ → Option Requirement
height_said kind height by mine blocks =
    if bytes_eq kind (codes "height") && bytes_eq by (codes "by") && bytes_eq mine (codes "mine")
    then (number height >>= λ h. number blocks >>= λ n. Some (requirements.Height h n)) else None

abbrev pub posted_said : List ℕ → List ℕ → List ℕ → List ℕ → List ℕ → List ℕ → Option Requirement
posted_said kind name of party by post =
    if bytes_eq kind (codes "secret") && bytes_eq of (codes "of") && bytes_eq by (codes "by") && bytes_eq post (codes "post")
    then (a_name name >>= λ x. a_name party >>= λ a. Some (requirements.Posted a x)) else None

-- `digest a of A by commit K A`; whose it is, and who commits, are the same
abbrev pub digest_said : List ℕ → List ℕ → List ℕ → List ℕ → List ℕ → List ℕ → List ℕ → List ℕ → Option Requirement
digest_said kind name of party by commit word who =
    if bytes_eq kind (codes "digest") && bytes_eq of (codes "of") && bytes_eq by (codes "by") && bytes_eq commit (codes "commit")
    && bytes_eq who party
    then (a_name name >>= λ x. a_name party >>= λ a. number word >>= λ k. Some (requirements.Digest a k x)) else None

-- `secret a of A by reveal K A a`
abbrev pub secret_said : List ℕ → List ℕ → List ℕ → List ℕ → List ℕ → List ℕ → List ℕ → List ℕ → List ℕ → Option Requirement
secret_said kind name of party by reveal word who what =
    if bytes_eq kind (codes "secret") && bytes_eq of (codes "of") && bytes_eq by (codes "by") && bytes_eq reveal (codes "reveal")
    && (bytes_eq who party && bytes_eq what name)
    then (a_name name >>= λ x. a_name party >>= λ a. number word >>= λ k. Some (requirements.Secret a k x)) else None

abbrev pub alone_said : Words → Option Requirement
alone_said (a ∷ b ∷ []) = two_said a b
alone_said (a ∷ b ∷ c ∷ []) = beginning_said a b c
alone_said (a ∷ b ∷ c ∷ d ∷ e ∷ []) = height_said a b c d e
alone_said (a ∷ b ∷ c ∷ d ∷ e ∷ f ∷ []) = posted_said a b c d e f
alone_said (a ∷ b ∷ c ∷ d ∷ e ∷ f ∷ g ∷ h ∷ []) = digest_said a b c d e f g h
alone_said (a ∷ b ∷ c ∷ d ∷ e ∷ f ∷ g ∷ h ∷ i ∷ []) = secret_said a b c d e f g h i
alone_said _ = None

-- the first of two that is there
abbrev pub or_else : {A : Type 0} → Option A → Option A → Option A
or_else None other = other
or_else (Some x) other = Some x

abbrev pub as_one : Option Requirement → Option Lack
as_one found = found >>= λ r. Some (one r)

-- the words behind `needs`
abbrev pub needs_said : Words → Option Lack
needs_said words = or_else (together_said words) (as_one (alone_said words))

-- ---- what nothing gives

abbrev pub lost_said : List ℕ → List ℕ → List ℕ → Option Requirement
lost_said kind x rest =
    if bytes_eq kind (codes "deposit") && bytes_eq rest (codes "gone") then Some (requirements.Gone x)
    else if bytes_eq kind (codes "put") && bytes_eq rest (codes "gone") then Some (requirements.Put x)
    else if bytes_eq kind (codes "secret") && bytes_eq rest (codes "missing") then Some (requirements.Missing x)
    else if bytes_eq kind (codes "secret") && bytes_eq rest (codes "not of 16 to 520 bytes") then Some (requirements.BadLength x)
    else if bytes_eq kind (codes "secret") && bytes_eq rest (codes "committed before") then Some (requirements.Repeated x)
    else None

-- the words behind `never:`
abbrev pub never_said : Words → Option Lack
never_said (kind ∷ word ∷ []) =
    if bytes_eq kind (codes "nobody") && bytes_eq word (codes "honest") then Some (one requirements.NobodyHonest)
    else if bytes_eq kind (codes "predicate") && bytes_eq word (codes "false") then Some (one requirements.Predicate)
    else None
never_said (kind ∷ name ∷ word ∷ words) = as_one (a_name name >>= λ x. lost_said kind x (joined (codes " ") (word ∷ words)))
never_said _ = None
