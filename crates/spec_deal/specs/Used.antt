-- Whom a contract pays, and whose keys of their deposits a deal uses.
use Rattle.std.specs.Prelude.{ℕ, List, [], ◌∷◌, ◌++◌, filter, Bool, not, ◌&&◌, ◌||◌, is_some}
use Rattle.std.specs.List.{list_any}
use Rattle.std.specs.Str.{bytes_eq}
use Rattle.spec_data.specs.Lists.{is_among}
use Rattle.spec_terms.specs.Term.{Guarded, auth, after, put_reveal, withdraw, split, Contract, no_branch, branch, Parts, no_part, part}
use Rattle.spec_terms.specs.Advert.{Advert}
use Rattle.spec_terms.specs.Parties.{participants}
use Rattle.spec_terms.specs.Precondition.{Holding, deposits}
use Rattle.spec_compiler.specs.Keyed.Keys.{Keys, own_script, own_payee}

-- ---- whom a contract pays

abbrev mutual
  -- the parties of the withdraws of a branch, in the order of the text
  pub paid_by : Guarded → List (List ℕ)
  paid_by (auth party body) = paid_by body
  paid_by (after height body) = paid_by body
  paid_by (put_reveal puts reveals test next) = choice_paid next
  paid_by (withdraw party) = party ∷ []
  paid_by (split parts) = parts_paid parts

  pub choice_paid : Contract → List (List ℕ)
  choice_paid no_branch = []
  choice_paid (branch b bs) = paid_by b ++ choice_paid bs

  pub parts_paid : Parts → List (List ℕ)
  parts_paid no_part = []
  parts_paid (part v c ps) = choice_paid c ++ parts_paid ps

-- whether a branch is a withdraw of the party
abbrev pub is_paid : Advert → List ℕ → Bool
is_paid advert party = is_among party (choice_paid advert.root)

-- those of the participants, in order
abbrev pub paid_parties : Advert → List (List ℕ)
paid_parties advert = filter (is_paid advert) (participants advert)

-- ---- whose keys are used

-- whether it is the party's, and has the script of its key
abbrev pub is_key_deposit : Keys → List ℕ → List ℕ × Holding → Bool
is_key_deposit keys party d = bytes_eq (d.1).owner party && not (is_some (own_script keys (d.0)))

abbrev pub has_key_deposit : Keys → Advert → List ℕ → Bool
has_key_deposit keys advert party = list_any (is_key_deposit keys party) (deposits advert.pre)

-- whether the script of a party's key of its deposits stands in an output: of its deposits, or of what it is paid
abbrev pub uses_key : Keys → Advert → List ℕ → Bool
uses_key keys advert party = has_key_deposit keys advert party || (is_paid advert party && not (is_some (own_payee keys party)))
