-- What a contract needs of wallets: a public key for each label, the place of each deposit, the hash of each secret.
use Rattle.std.specs.Prelude.{ℕ, List, ◌++◌, map, Bool, true, false}
use Rattle.std.specs.List.{flat_map}
use Rattle.std.specs.Str.{bytes_eq}
use Rattle.spec_terms.specs.Advert.{Advert}
use Rattle.spec_terms.specs.Order.{branch_paths}
use Rattle.spec_terms.specs.Parties.{participants}
use Rattle.spec_terms.specs.Precondition.{deposits, secrets, names_of}
use Rattle.spec_terms.specs.declared.path.PathStep.{PathStep}
use Rattle.spec_bitcoin.specs.declared.label.Label.{Label}
use Rattle.spec_bitcoin.specs.declared.label.Label.TheVariants as labels
use Rattle.spec_bitcoin.specs.Keys.{label_text}
use Rattle.spec_compiler.specs.Keyed.Instance.{branch_label}
use Rattle.spec_deal.specs.declared.deal.Needed.{Needed}
use Rattle.spec_deal.specs.declared.deal.Needed.TheVariants.{Key, Deposit, Hash, Network, Payee}

-- the number of the only contract of a deal
abbrev pub deal_contract : ℕ
deal_contract = 0

-- the labels of a path, by participant
abbrev pub path_labels : Advert → List PathStep → List Label
path_labels advert path = map (branch_label deal_contract path) (participants advert)

-- the label of each participant's deposits, and then those of each path in the order of the text
abbrev pub needed_labels : Advert → List Label
needed_labels advert =
    map (λ party. labels.Deposit party) (participants advert) ++ flat_map (path_labels advert) (branch_paths advert.root)

-- the names of the deposits of the precondition
abbrev pub needed_deposits : Advert → List (List ℕ)
needed_deposits advert = names_of (deposits advert.pre)

-- the names of its secrets, whether or not a branch reveals them
abbrev pub needed_secrets : Advert → List (List ℕ)
needed_secrets advert = names_of (secrets advert.pre)

-- all that a contract needs, in order
abbrev pub needed : Advert → List Needed
needed advert =
    map Key (needed_labels advert) ++ (map Deposit (needed_deposits advert) ++ map Hash (needed_secrets advert))

-- ---- sameness

-- labels are the same where their texts are
abbrev pub same_label : Label → Label → Bool
same_label a b = bytes_eq (label_text a) (label_text b)

abbrev pub same_needed : Needed → Needed → Bool
same_needed (Key a) (Key b) = same_label a b
same_needed (Deposit a) (Deposit b) = bytes_eq a b
same_needed (Hash a) (Hash b) = bytes_eq a b
same_needed Network Network = true
same_needed (Payee a) (Payee b) = bytes_eq a b
same_needed _ _ = false
