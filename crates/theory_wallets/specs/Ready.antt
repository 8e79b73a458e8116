-- What is claimed of the texts for whoever is about to sign: `ready` and `missing` end with the same line, which says that the initial
-- transaction may be signed exactly where it may; and a party endorses the transactions that ask it to.
use Rattle.std.specs.Prelude.{◌≡◌, ◌↔◌, ◌⊎◌, ℕ, List, [], ◌∷◌, ◌++◌, true, false, codes}
use Rattle.std.specs.List.{Contains, flat_map}
use Rattle.spec_compiler.specs.Keyed.Instance.{Instance}
use Rattle.spec_compiler.specs.Keyed.Keys.{Keys}
use Rattle.spec_text.specs.RunText.{newline}
use Rattle.spec_tool.specs.Keyed.Listed.{Listed, listed, which_text}
use Rattle.spec_tool.specs.PsbtText.{psbt_line}
use Rattle.spec_tool.specs.declared.which.Which.TheVariants as names
use Rattle.spec_deal.specs.DealText.{line_of, missing_text, unsigned_psbt}
use Rattle.spec_deal.specs.Finished.{label_party}
use Rattle.spec_deal.specs.Given.{has}
use Rattle.spec_deal.specs.ReadyText.{is_ready, ready_text, endorse_text}
use Rattle.spec_deal.specs.Slots.{Slot, slots, listed_slots}
use Rattle.spec_deal.specs.declared.entry.Shown.{Shown}
use Rattle.spec_deal.specs.declared.finish.Verb.TheVariants as verbs
use Rattle.spec_deal.specs.declared.signed.Signed.{Signed}

-- ---- ready

-- lines, each with its line feed
abbrev pub AreLines : List ℕ → Type 0
AreLines text = (text ≡ []) ⊎ ((most : List ℕ) × (text ≡ most ++ newline))

-- a text is lines and then this
abbrev pub EndsWith : List ℕ → List ℕ → Type 0
EndsWith text last = (lines : List ℕ) × AreLines lines × (text ≡ lines ++ last)

-- it says that the initial transaction may be signed, or that it may once something is checked, or names an endorsement that isn't there
abbrev pub IsLastLine : (List ℕ → List ℕ) → Keys → Instance → List Signed → List ℕ → Type 0
IsLastLine hash keys s given last =
    (last ≡ codes "init may be signed" ++ newline)
    ⊎ ((last ≡ codes "init may be signed once the unverified are checked" ++ newline)
    ⊎ ((slot : Slot) × Contains (slots hash keys s) slot × (slot.verb ≡ verbs.Endorse) × (has hash keys given slot ≡ false)
    × (last ≡ line_of (codes "init not endorsed" ∷ which_text slot.which ∷ label_party slot.label ∷ []))))

pub record ReadyEnds (hash : List ℕ → List ℕ) (keys : Keys) (s : Instance) (given : List Signed) : Type 0 where
  pub last : List ℕ
  pub line : IsLastLine hash keys s given last
  -- whatever the secrets are
  pub ready : (strings : List Shown) → EndsWith (ready_text hash keys s given strings) last
  pub missing : EndsWith (missing_text hash keys s given) last
  pub exactly : (is_ready hash keys s given ≡ true) ↔ (last ≡ codes "init may be signed" ++ newline)

abbrev pub ReadyAndMissing : Type 0
ReadyAndMissing = (hash : List ℕ → List ℕ) (keys : Keys) (s : Instance) (given : List Signed) → ReadyEnds hash keys s given

-- ---- endorse

-- some of the others, in their order
abbrev pub AreAmong : {X : Type 0} → List X → List X → Type 0
AreAmong [] ys = Unit {0}
AreAmong (x ∷ xs) [] = ⊥
AreAmong (x ∷ xs) (y ∷ ys) = ((x ≡ y) × AreAmong xs ys) ⊎ AreAmong (x ∷ xs) ys

-- a signature of the transaction is an endorsement by the party
abbrev pub IsEndorsedBy : Keys → Instance → List ℕ → Listed → Type 0
IsEndorsedBy keys s party l =
    (slot : Slot) × Contains (listed_slots keys s.advert l) slot × (slot.verb ≡ verbs.Endorse) × (label_party slot.label ≡ party)

pub record EndorsesExactly (hash : List ℕ → List ℕ) (keys : Keys) (s : Instance) (party : List ℕ) : Type 0 where
  pub these : List Listed
  pub text : endorse_text hash keys s party ≡ flat_map (λ l. psbt_line (unsigned_psbt hash keys s.advert l)) these
  pub order : AreAmong these (listed hash keys s)
  pub exactly : (l : Listed) → Contains these l ↔ (Contains (listed hash keys s) l × IsEndorsedBy keys s party l)
  -- the initial one isn't among them
  pub never : (l : Listed) → l.which ≡ names.Init → Contains these l → ⊥

abbrev pub PartiesEndorse : Type 0
PartiesEndorse = (hash : List ℕ → List ℕ) (keys : Keys) (s : Instance) (party : List ℕ) → EndorsesExactly hash keys s party
