-- What is claimed of the signatures that are listed as missing and as there, and of the word whether the initial transaction may be signed.
use Rattle.std.specs.Prelude.{◌≡◌, ℕ, List, true, false, None, Some, codes, ◌++◌, ◌↔◌, ◌⊎◌, is_some}
use Rattle.std.specs.List.{Contains}
use Rattle.spec_compiler.specs.Keyed.Keys.{Keys}
use Rattle.spec_compiler.specs.Keyed.Instance.{Instance}
use Rattle.spec_compiler.specs.Keyed.Statements.{AreKeyDeposits}
use Rattle.spec_text.specs.RunText.{newline}
use Rattle.spec_deal.specs.declared.signed.Signed.{Signed}
use Rattle.spec_deal.specs.DealText.{gate_line}
use Rattle.spec_deal.specs.Slots.{Slot, slots, is_endorsement}
use Rattle.spec_deal.specs.Given.{has, missing, unsettled, held, may_start, first_unendorsed, has_unverified}
use Rattle.spec_deal.specs.ReadyText.{is_ready}

-- it is an endorsement by a wallet, and there
pub record IsOwed (hash : List ℕ → List ℕ) (keys : Keys) (given : List Signed) (slot : Slot) : Type 0 where
  pub endorses : is_endorsement slot.verb ≡ true
  pub of_wallet : is_some slot.wallet ≡ true
  pub there : has hash keys given slot ≡ true

-- a signature is listed as missing exactly where a transaction needs it and it isn't there, and as held exactly where it is
pub record ListsExactly (hash : List ℕ → List ℕ) (keys : Keys) (s : Instance) (given : List Signed) (slot : Slot) : Type 0 where
  pub is_missing : Contains (missing hash keys s given) slot
      ↔ (Contains (slots hash keys s) slot × (has hash keys given slot ≡ false))
  pub is_held : Contains (held hash keys s given) slot
      ↔ (Contains (slots hash keys s) slot × (has hash keys given slot ≡ true))
  -- what is said of it is that it is missing, or, of a wallet's endorsement that is there, that it isn't verified
  pub is_unsettled : Contains (unsettled hash keys s given) slot
      ↔ (Contains (slots hash keys s) slot × ((has hash keys given slot ≡ false) ⊎ IsOwed hash keys given slot))

abbrev pub MissingAndHeld : Type 0
MissingAndHeld = (hash : List ℕ → List ℕ) (keys : Keys) (s : Instance) (given : List Signed) (slot : Slot)
    → ListsExactly hash keys s given slot

-- the last line of what `missing` and `ready` print
abbrev pub last_line : (List ℕ → List ℕ) → Keys → Instance → List Signed → List ℕ
last_line hash keys s given = gate_line (has_unverified hash keys s given) (first_unendorsed hash keys s given)

-- every endorsement is there
abbrev pub AllEndorsed : (List ℕ → List ℕ) → Keys → Instance → List Signed → Type 0
AllEndorsed hash keys s given = (slot : Slot) → Contains (slots hash keys s) slot → is_endorsement slot.verb ≡ true
    → has hash keys given slot ≡ true

-- whether the initial transaction may be signed
pub record StartsExactly (hash : List ℕ → List ℕ) (keys : Keys) (s : Instance) (given : List Signed) : Type 0 where
  -- exactly where every endorsement is there
  pub endorsed : (may_start hash keys s given ≡ true) ↔ AllEndorsed hash keys s given
  -- and then no first one is missing
  pub none : (first_unendorsed hash keys s given ≡ None) ↔ (may_start hash keys s given ≡ true)
  -- one that is said to be missing is needed, is an endorsement, and isn't there
  pub first : (slot : Slot) → first_unendorsed hash keys s given ≡ Some slot
      → Contains (slots hash keys s) slot × (is_endorsement slot.verb ≡ true) × (has hash keys given slot ≡ false)
  -- some endorsement isn't verified exactly where a wallet's is there
  pub owed : (has_unverified hash keys s given ≡ true) ↔ ((slot : Slot) × Contains (slots hash keys s) slot × IsOwed hash keys given slot)
  -- the last line of what is printed begins so exactly where every endorsement is there
  pub printed : (may_start hash keys s given ≡ true) ↔ ((rest : List ℕ) × (last_line hash keys s given ≡ codes "init may be signed" ++ rest))
  -- and ends there exactly where all of them are verified, too
  pub ready : (is_ready hash keys s given ≡ true) ↔ (last_line hash keys s given ≡ codes "init may be signed" ++ newline)
  -- as they are where all deposits are of keys
  pub of_keys : AreKeyDeposits keys → is_ready hash keys s given ≡ may_start hash keys s given

abbrev pub MayStart : Type 0
MayStart = (hash : List ℕ → List ℕ) (keys : Keys) (s : Instance) (given : List Signed) → StartsExactly hash keys s given
