-- Numbers of a run, read from the lines that say them: a word and its number on a line each.
use Rattle.std.specs.Prelude.{ℕ, ◌<◌, ◌^◌, List, [], ◌∷◌, map, if◌then◌else◌, Option, Some, None, codes}
use Rattle.std.specs.Str.{bytes_eq}
use Rattle.spec_text.specs.Lines.{lines_of, words_of}
use Rattle.spec_text.specs.Words.{◌>>=◌, amount}

-- how many events and steps, and what is there at the end: deposits, contracts and live value
pub record Numbers : Type 0 where
  pub events : ℕ
  pub steps : ℕ
  pub deposits : ℕ
  pub contracts : ℕ
  pub value : ℕ

-- the number beside this word, on a line of these two
abbrev pub beside : List ℕ → List (List ℕ) → Option ℕ
beside word (name ∷ number ∷ []) = if bytes_eq name word then amount number else None
beside word _ = None

-- five lines, each with its word
abbrev pub numbers_of : List (List (List ℕ)) → Option Numbers
numbers_of (a ∷ b ∷ c ∷ d ∷ e ∷ []) = do
  events ← beside (codes "events") a
  steps ← beside (codes "steps") b
  deposits ← beside (codes "deposits") c
  contracts ← beside (codes "contracts") d
  value ← beside (codes "value") e
  Some (record { events = events; steps = steps; deposits = deposits; contracts = contracts; value = value })
numbers_of _ = None

-- the numbers that a text says
abbrev pub said_numbers : List ℕ → Option Numbers
said_numbers text = numbers_of (map words_of (lines_of text))

-- each is below 2^64
pub record AreBelow (n : Numbers) : Type 0 where
  pub events : n.events < 2 ^ 64
  pub steps : n.steps < 2 ^ 64
  pub deposits : n.deposits < 2 ^ 64
  pub contracts : n.contracts < 2 ^ 64
  pub value : n.value < 2 ^ 64
