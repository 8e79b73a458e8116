-- A line whose first word is `mine`, whatever other kinds of lines there are.
use Rattle.std.proofs.Common.{◌≡◌, ℕ, List, true, codes, ap}
use Rattle.std.specs.Str.{bytes_eq}
use Rattle.spec_text.specs.EventLines.{event_by, mine}
use Rattle.theory_text.proofs.Lines.PrintedWords.{same_bytes}

pub mines : (word : List ℕ) (parties words : List (List ℕ)) → bytes_eq word (codes "mine") ≡ true
    → event_by word parties words ≡ mine parties words
mines word parties words is = ap (λ w. event_by w parties words) (same_bytes word (codes "mine") is)
