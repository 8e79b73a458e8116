-- What `keys` prints is read as what the contract needs.
use Rattle.std.proofs.Common.{◌≡◌, ℕ, List, [], ◌∷◌, ◌++◌, map, Option, Some, refl, ap, ◌∙◌, arith}
use Rattle.std.specs.Prelude.{flat_map, codes}
use Rattle.std.specs.List.{list_all, AllByRecursion}
use Rattle.std.proofs.lemmas.Bool.{and_parts}
use Rattle.spec_terms.specs.Advert.{Advert}
use Rattle.spec_terms.specs.Faults.{IsWellFormed}
use Rattle.spec_terms.specs.Order.{branch_paths}
use Rattle.spec_terms.specs.Parties.{participants}
use Rattle.spec_terms.specs.Precondition.{Holding, deposits, secrets, names_of}
use Rattle.spec_terms.specs.Readable.{is_name}
use Rattle.spec_terms.specs.declared.path.PathStep.{PathStep}
use Rattle.spec_bitcoin.specs.declared.label.Label.TheVariants as labels
use Rattle.spec_bitcoin.specs.Keys.{label_text}
use Rattle.spec_compiler.specs.Keyed.Instance.{branch_label}
use Rattle.spec_text.specs.RunText.{newline}
use Rattle.spec_text.specs.Words.{◌>>=◌}
use Rattle.spec_deal.specs.declared.deal.Needed.{Needed}
use Rattle.spec_deal.specs.declared.deal.Needed.TheVariants as needs
use Rattle.spec_deal.specs.DealText as print
use Rattle.spec_deal.specs.DealText.{needed_words, blanks, keys_text}
use Rattle.spec_deal.specs.Needed.{deal_contract, path_labels, needed_labels, needed_deposits, needed_secrets, needed}
use Rattle.theory_text.proofs.Options.{some}
use Rattle.theory_play_text.specs.Lines.{Words}
use Rattle.theory_play_text.specs.Printable.{IsNamed}
use Rattle.theory_play_text.proofs.LegalSteps.{by_append}
use Rattle.theory_play_text.proofs.LineWords.{ArePlain, known_word}
use Rattle.theory_play_text.proofs.Named.{IsHeld, IsOwned, AllNamed, deposits_named, secrets_named, has_names}
use Rattle.theory_play_text.proofs.WordsBack.{name_back, name_plain}
use Rattle.theory_plan_text.specs.Audit.{IsShownLabel}
use Rattle.theory_plan_text.proofs.AnyLines.{Written, line_text, text_of, text_back}
use Rattle.theory_plan_text.proofs.SmallPaths.{IsSmall, branches_are_small}
use Rattle.theory_deal_text.specs.Keys.{needed_said, needed_of}
use Rattle.theory_deal_text.proofs.Words.{line_is, label_read, label_plain}

-- ---- lines

abbrev first_word : Needed → List ℕ
first_word (needs.Key label) = codes "key"
first_word (needs.Deposit name) = codes "deposit"
first_word (needs.Hash name) = codes "hash"
first_word needs.Network = codes "network"
first_word (needs.Payee party) = codes "pay"

abbrev other_words : Needed → Words
other_words (needs.Key label) = label_text label ∷ codes ".." ∷ []
other_words (needs.Deposit name) = name ∷ codes ".." ∷ codes ".." ∷ []
other_words (needs.Hash name) = name ∷ codes ".." ∷ []
other_words needs.Network = codes ".." ∷ []
other_words (needs.Payee party) = party ∷ codes ".." ∷ []

abbrev pub written : Written Needed
written = record { word = first_word; words = other_words }

-- what a contract may need
abbrev pub IsAsked : Needed → Type 0
IsAsked (needs.Key label) = IsShownLabel label
IsAsked (needs.Deposit name) = IsNamed name
IsAsked (needs.Hash name) = IsNamed name
IsAsked needs.Network = ⊥
IsAsked (needs.Payee party) = ⊥

pub words_plain : (what : Needed) → IsAsked what → ArePlain (first_word what ∷ other_words what)
words_plain (needs.Key label) h = (known_word (codes "key") refl, (label_plain label h, (known_word (codes "..") refl, tt)))
words_plain (needs.Deposit name) h =
    (known_word (codes "deposit") refl, (name_plain name h, (known_word (codes "..") refl, (known_word (codes "..") refl, tt))))
words_plain (needs.Hash name) h = (known_word (codes "hash") refl, (name_plain name h, (known_word (codes "..") refl, tt)))
words_plain needs.Network h = absurd h
words_plain (needs.Payee party) h = absurd h

abbrev says : Needed → Option Needed
says what = some what

words_back : (what : Needed) → IsAsked what → needed_said (first_word what ∷ other_words what) ≡ says what
words_back (needs.Key label) h = ap (λ o. o >>= λ l. says (needs.Key l)) (label_read label h)
words_back (needs.Deposit name) h = ap (λ o. o >>= λ x. says (needs.Deposit x)) (name_back name h)
words_back (needs.Hash name) h = ap (λ o. o >>= λ x. says (needs.Hash x)) (name_back name h)
words_back needs.Network h = absurd h
words_back (needs.Payee party) h = absurd h

line_written : (what : Needed) → print.line_of (needed_words what ++ blanks what) ≡ line_text written what ++ newline
line_written (needs.Key label) = line_is (codes "key") (label_text label ∷ codes ".." ∷ [])
line_written (needs.Deposit name) = line_is (codes "deposit") (name ∷ codes ".." ∷ codes ".." ∷ [])
line_written (needs.Hash name) = line_is (codes "hash") (name ∷ codes ".." ∷ [])
line_written needs.Network = line_is (codes "network") (codes ".." ∷ [])
line_written (needs.Payee party) = line_is (codes "pay") (party ∷ codes ".." ∷ [])

lines_written : (all : List Needed) → flat_map (λ what. print.line_of (needed_words what ++ blanks what)) all ≡ text_of written all
lines_written [] = refl
lines_written (what ∷ all) = λ i. line_written what i ++ lines_written all i

-- ---- what a contract needs

module _ (a : Advert) (well : IsWellFormed a) where
  people_asked : (people : List (List ℕ)) → AllNamed people → AllByRecursion IsShownLabel (map (λ party. labels.Deposit party) people)
  people_asked [] h = tt
  people_asked (x ∷ xs) h = let p = and_parts (is_name x) (list_all is_name xs) h in (p.0, people_asked xs p.1)

  path_asked : (path : List PathStep) → IsSmall path → (people : List (List ℕ)) → AllNamed people
      → AllByRecursion IsShownLabel (map (branch_label deal_contract path) people)
  path_asked path small [] h = tt
  path_asked path small (x ∷ xs) h =
      let p = and_parts (is_name x) (list_all is_name xs) h in
      ((omega arith, small, p.0), path_asked path small xs p.1)

  paths_asked : (paths : List (List PathStep)) → AllByRecursion IsSmall paths → AllByRecursion IsShownLabel (flat_map (path_labels a) paths)
  paths_asked [] h = tt
  paths_asked (path ∷ paths) h =
      by_append IsShownLabel (path_labels a path) (flat_map (path_labels a) paths)
      (path_asked path h.0 (participants a) (has_names a well).people) (paths_asked paths h.1)

  pub labels_asked : AllByRecursion IsShownLabel (needed_labels a)
  labels_asked =
      by_append IsShownLabel (map (λ party. labels.Deposit party) (participants a)) (flat_map (path_labels a) (branch_paths a.root))
      (people_asked (participants a) (has_names a well).people) (paths_asked (branch_paths a.root) (branches_are_small a well))

  deposits_asked : (ds : List (List ℕ × Holding)) → AllByRecursion IsHeld ds → AllByRecursion IsNamed (names_of ds)
  deposits_asked [] h = tt
  deposits_asked (d ∷ ds) h = ((h.0).0, deposits_asked ds h.1)

  secrets_asked : (xs : List (List ℕ × List ℕ)) → AllByRecursion IsOwned xs → AllByRecursion IsNamed (names_of xs)
  secrets_asked [] h = tt
  secrets_asked (x ∷ xs) h = ((h.0).0, secrets_asked xs h.1)

  pub deposits_known : AllByRecursion IsNamed (needed_deposits a)
  deposits_known = deposits_asked (deposits a.pre) (deposits_named a.pre (has_names a well).pre)

  pub secrets_known : AllByRecursion IsNamed (needed_secrets a)
  secrets_known = secrets_asked (secrets a.pre) (secrets_named a.pre (has_names a well).pre)

  each_asked : {X : Type 0} (P : X → Type 0) (make : X → Needed) → ((x : X) → P x → IsAsked (make x)) → (xs : List X) → AllByRecursion P xs
      → AllByRecursion IsAsked (map make xs)
  each_asked P make f [] h = tt
  each_asked P make f (x ∷ xs) h = (f x h.0, each_asked P make f xs h.1)

  pub needed_asked : AllByRecursion IsAsked (needed a)
  needed_asked =
      by_append IsAsked (map needs.Key (needed_labels a)) (map needs.Deposit (needed_deposits a) ++ map needs.Hash (needed_secrets a))
      (each_asked IsShownLabel needs.Key (λ x h. h) (needed_labels a) labels_asked)
      (by_append IsAsked (map needs.Deposit (needed_deposits a)) (map needs.Hash (needed_secrets a))
      (each_asked IsNamed needs.Deposit (λ x h. h) (needed_deposits a) deposits_known)
      (each_asked IsNamed needs.Hash (λ x h. h) (needed_secrets a) secrets_known))

  pub keys_written : keys_text a ≡ text_of written (needed a)
  keys_written = lines_written (needed a)

  pub keys_back : needed_of (keys_text a) ≡ Some (needed a)
  keys_back = ap needed_of keys_written ∙ text_back written needed_said IsAsked words_plain words_back (needed a) needed_asked
