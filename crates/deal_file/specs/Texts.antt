-- The words of needs and faults as texts, with a space between each two.
use Rattle.std.specs.Prelude.{ℕ, List, ◌++◌, codes}
use Rattle.spec_bitcoin.specs.Keys.{label_text}
use Rattle.spec_deal.specs.declared.deal.Needed.{Needed}
use Rattle.spec_deal.specs.declared.deal.Needed.TheVariants.{Key, Deposit, Hash, Network, Payee}
use Rattle.spec_deal.specs.DealText.{line_of, needed_words, blanks}

abbrev pub needed_text : Needed → List ℕ
needed_text (Key label) = codes "key " ++ label_text label
needed_text (Deposit name) = codes "deposit " ++ name
needed_text (Hash name) = codes "hash " ++ name
needed_text Network = codes "network"
needed_text (Payee party) = codes "pay " ++ party

-- the line of a need in the template
abbrev pub blank_line : Needed → List ℕ
blank_line what = line_of (needed_words what ++ blanks what)
