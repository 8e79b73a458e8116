-- What is claimed of two partially signed transactions that are combined; of this project's subset of BIP 174.
use Rattle.std.specs.Prelude.{◌≡◌, ◌↔◌, ℕ, zero, suc, List, [], ◌∷◌, true, Some, Ok, Err}
use Rattle.std.specs.Option.{option_or}
use Rattle.spec_data.specs.Lists.{look_up}
use Rattle.spec_tool.specs.declared.psbt.PsbtInput.{PsbtInput}
use Rattle.spec_tool.specs.Psbt.{Psbt, is_psbt}
use Rattle.spec_tool.specs.PsbtBytes.{input_records, other_tx, conflict, combined}
use Rattle.theory_psbt.specs.Fitting.{IsFitting}

-- ---- inputs

-- both inputs have a record of one key, with different values
pub record AreApart (a b : PsbtInput) : Type 0 where
  pub key : List ℕ
  pub one : List ℕ
  pub other : List ℕ
  pub here : look_up key (input_records a) ≡ Some one
  pub there : look_up key (input_records b) ≡ Some other
  pub differ : one ≡ other → ⊥

-- number k is that of the first inputs that are apart
abbrev pub FirstApart : ℕ → List PsbtInput → List PsbtInput → Type 0
FirstApart k [] others = ⊥
FirstApart k (a ∷ as') [] = ⊥
FirstApart zero (a ∷ as') (b ∷ bs) = AreApart a b
FirstApart (suc k) (a ∷ as') (b ∷ bs) = (AreApart a b → ⊥) × FirstApart k as' bs

-- no two of the inputs are apart
abbrev pub NoneApart : List PsbtInput → List PsbtInput → Type 0
NoneApart [] others = Unit {0}
NoneApart (a ∷ as') [] = Unit {0}
NoneApart (a ∷ as') (b ∷ bs) = (AreApart a b → ⊥) × NoneApart as' bs

-- each key has in the last input the value that it has in the first, or else that in the second
abbrev pub HasBoth : PsbtInput → PsbtInput → PsbtInput → Type 0
HasBoth a b c = (key : List ℕ) → look_up key (input_records c) ≡ option_or (look_up key (input_records a)) (look_up key (input_records b))

-- so it is with each of the inputs, of which there are as many
abbrev pub AllHaveBoth : List PsbtInput → List PsbtInput → List PsbtInput → Type 0
AllHaveBoth [] [] [] = Unit {0}
AllHaveBoth (a ∷ as') (b ∷ bs) (c ∷ cs) = HasBoth a b c × AllHaveBoth as' bs cs
AllHaveBoth _ _ _ = ⊥

-- ---- the whole

-- the last is of the transaction of both, and has the records of both
pub record IsJoined (a b p : Psbt) : Type 0 where
  pub first : p.tx ≡ a.tx
  pub second : p.tx ≡ b.tx
  pub calm : NoneApart a.inputs b.inputs
  pub inputs : AllHaveBoth a.inputs b.inputs p.inputs
  pub is : is_psbt p ≡ true

abbrev pub CombinedIsJoined : Type 0
CombinedIsJoined = (a b p : Psbt) → IsFitting a → IsFitting b → combined a b ≡ Ok p → IsJoined a b p

-- two that can be combined can be so the other way round, and say the same
abbrev pub CombinedBothWays : Type 0
CombinedBothWays = (a b p : Psbt) → is_psbt a ≡ true → is_psbt b ≡ true → combined a b ≡ Ok p → combined b a ≡ Ok p

-- another transaction is answered exactly where the transactions differ
abbrev pub OtherTxExactly : Type 0
OtherTxExactly = (a b : Psbt) → is_psbt a ≡ true → is_psbt b ≡ true → ((combined a b ≡ Err other_tx) ↔ (a.tx ≡ b.tx → ⊥))

-- a conflict at an input is answered exactly where the transactions are the same and it is the first that is apart
abbrev pub ConflictExactly : Type 0
ConflictExactly =
    (a b : Psbt) (k : ℕ) → IsFitting a → IsFitting b → ((combined a b ≡ Err (conflict k)) ↔ ((a.tx ≡ b.tx) × FirstApart k a.inputs b.inputs))
