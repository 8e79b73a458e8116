-- The lines of a deal file one after another.
use Rattle.std.proofs.Common.{◌≡◌, ℕ, ◌+◌, List, [], ◌∷◌, ◌++◌, refl, sym, ap, ◌∙◌}
use Rattle.std.specs.Prelude.{true, false, Option, Some, None, is_some, Result, Err}
use Rattle.spec_data.specs.Lists.{or_else}
use Rattle.spec_terms.specs.Advert.{Advert}
use Rattle.spec_text.specs.Lines.{words_of}
use Rattle.spec_deal.specs.declared.entry.Entry.{Entry}
use Rattle.spec_deal.specs.declared.fault.DealFault.{DealFault}
use Rattle.spec_deal.specs.declared.fault.DealFault.TheVariants as faults
use Rattle.spec_deal.specs.DealFile.{Line, empty, bad, gives, line_says, read_entries, named_network, file_network}
use Rattle.spec_deal.specs.Verifier.{Verifier}
use Rattle.deal_file.specs.declared.error.LineError.{LineError}
use Rattle.deal_file.specs.declared.error.LineError.TheVariants as lines
use Rattle.deal_file.specs.Gives.{Added, Stops, Refuses, at_line}

module _ (v : Verifier) (network : Option (List ℕ)) (advert : Advert) (old : List Entry) (n : ℕ) (rest : List (List ℕ)) where
  abbrev onward : Line → Result (List Entry) DealFault
  onward l = elim l [
    | empty ↦ read_entries v network advert old (n + 1) rest
    | bad reason ↦ Err (faults.Line n reason)
    | gives e ↦ read_entries v network advert (old ++ e ∷ []) (n + 1) rest
  ]

  -- a line that is taken, and then the others
  pub entries_more : (new : List Entry) (all : List (List ℕ)) (line : List ℕ) → all ≡ line ∷ rest
      → Added old new (line_says v network advert old n (words_of line))
      → read_entries v network advert old n all ≡ read_entries v network advert new (n + 1) rest
  entries_more new all line here h =
      ap (read_entries v network advert old n) here ∙ by_line (line_says v network advert old n (words_of line)) h
    where
      by_line : (l : Line) → Added old new l → onward l ≡ read_entries v network advert new (n + 1) rest
      by_line empty h = ap (λ es. read_entries v network advert es (n + 1) rest) (sym h)
      by_line (bad reason) h = absurd h
      by_line (gives e) h = ap (λ es. read_entries v network advert es (n + 1) rest) (sym h)

  -- a line that isn't
  pub entries_stop : (all : List (List ℕ)) (line : List ℕ) (e : LineError) → all ≡ line ∷ rest
      → Stops e (line_says v network advert old n (words_of line)) → Refuses (at_line e n) (read_entries v network advert old n all)
  entries_stop all line lines.Memory here h = tt
  entries_stop all line (lines.Bad reason) here h = ap (read_entries v network advert old n) here ∙ ap onward h

-- ---- the network

-- a line that names none, and then the others
pub network_more : (all rest : List (List ℕ)) (line : List ℕ) (named : Option (List ℕ)) → all ≡ line ∷ rest
    → named ≡ named_network (words_of line) → is_some named ≡ false → file_network all ≡ file_network rest
network_more all rest line named here says none = ap file_network here ∙ ap (λ n. or_else n (file_network rest)) (sym says) ∙ by named none
  where
    by : (n : Option (List ℕ)) → is_some n ≡ false → or_else n (file_network rest) ≡ file_network rest
    by None h = refl
    by (Some part) h = absurd cc

-- a line that names one
pub network_found : (all rest : List (List ℕ)) (line : List ℕ) (named : Option (List ℕ)) → all ≡ line ∷ rest
    → named ≡ named_network (words_of line) → is_some named ≡ true → named ≡ file_network all
network_found all rest line named here says some =
    by named some ∙ ap (λ n. or_else n (file_network rest)) says ∙ ap file_network (sym here)
  where
    by : (n : Option (List ℕ)) → is_some n ≡ true → n ≡ or_else n (file_network rest)
    by None h = absurd cc
    by (Some part) h = refl
