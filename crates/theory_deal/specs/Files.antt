-- What is claimed of the files of a deal that are taken: it gives all that is needed, keys and hashes have their sizes, keys are points,
-- signatures have their shape and verify, and secrets have their hashes.
use Rattle.std.specs.Prelude.{◌≡◌, ℕ, List, map, filter, Bool, true, not, ◌||◌, Some, None, is_some, slice_get, Ok, ◌↔◌, ◌⊎◌}
use Rattle.std.specs.List.{Contains, list_all, list_any}
use Rattle.spec_terms.specs.Advert.{Advert}
use Rattle.spec_bitcoin.specs.declared.label.Label.{Label}
use Rattle.spec_bitcoin.specs.Spelling.{is_filled}
use Rattle.spec_deal.specs.declared.deal.Needed.TheVariants as needs
use Rattle.spec_terms.specs.Faults.{IsWellFormed}
use Rattle.spec_terms.specs.Precondition.{names_of}
use Rattle.spec_compiler.specs.Keyed.Keys.{Keys}
use Rattle.spec_compiler.specs.Keyed.Instance.{Instance}
use Rattle.spec_compiler.specs.Keyed.Statements.{AreKeys, AreKeyDeposits}
use Rattle.spec_deal.specs.declared.deal.Deal.{Deal}
use Rattle.spec_deal.specs.declared.signed.Signed.{Signed}
use Rattle.spec_deal.specs.DealFile.{read_deal, is_used}
use Rattle.spec_deal.specs.Payable.{is_payable, pays_to_wallet}
use Rattle.spec_deal.specs.Finished.{bytes_or_none}
use Rattle.spec_deal.specs.Given.{has, signature_for, may_start}
use Rattle.spec_deal.specs.Slots.{Slot, slots, slot_key, slot_digest, is_endorsement}
use Rattle.spec_deal.specs.declared.entry.Shown.{Shown}
use Rattle.spec_deal.specs.SecretFile.{shows, read_secrets}
use Rattle.spec_deal.specs.Needed.{needed_labels, needed_deposits, needed_secrets, same_label}
use Rattle.spec_deal.specs.Setting.{no_key, deal_keys, deal_instance}
use Rattle.spec_deal.specs.Shape.{is_strict}
use Rattle.spec_deal.specs.SignatureFile.{has_witness_form, has_strict_signature, verifies_beside, read_signatures}
use Rattle.spec_deal.specs.declared.transaction.Input.{Input}
use Rattle.spec_deal.specs.declared.transaction.Transaction.{Transaction}
use Rattle.spec_deal.specs.declared.transaction.Wallet.{Wallet}
use Rattle.spec_deal.specs.Transactions.{transactions}
use Rattle.spec_deal.specs.Verifier.{Verifier}
use Rattle.theory_deal.specs.Finished.{IsApplied, are_short, do_fit}

-- whether a deal has a key of this label
abbrev pub has_key : Deal → Label → Bool
has_key deal label = list_any (λ p. same_label p.0 label) deal.keys

-- a deal has a place for each deposit and a hash for each secret that the contract needs, and a key for each label that it uses, in order
pub record GivesAll (advert : Advert) (deal : Deal) : Type 0 where
  pub labels : map (λ p. p.0) deal.keys ≡ filter (has_key deal) (needed_labels advert)
  pub used : list_all (λ label. has_key deal label || not (is_used (deal_keys deal) advert (needs.Key label))) (needed_labels advert) ≡ true
  pub deposits : names_of deal.deposits ≡ needed_deposits advert
  pub secrets : names_of deal.hashes ≡ needed_secrets advert

abbrev pub DealsGiveAll : Type 0
DealsGiveAll = (v : Verifier) (advert : Advert) (text : List ℕ) (deal : Deal) → read_deal v advert text ≡ Ok deal → GivesAll advert deal

-- the keys of a deal have 33 bytes, and its hashes 32
pub record IsSized (hash : List ℕ → List ℕ) (advert : Advert) (deal : Deal) : Type 0 where
  pub are_keys : AreKeys hash (deal_keys deal)
  pub applied : IsWellFormed advert → IsApplied (deal_instance advert deal)

abbrev pub DealsAreSized : Type 0
DealsAreSized = (v : Verifier) (hash : List ℕ → List ℕ) (advert : Advert) (text : List ℕ) (deal : Deal) → read_deal v advert text ≡ Ok deal
    → IsSized hash advert deal

-- each key of a deal is a point
abbrev pub are_points : Verifier → Deal → Bool
are_points v deal = list_all (λ p. v.is_point p.1) deal.keys

-- each output script that is given is of a kind that deposits and participants may have
abbrev pub are_wallets : Verifier → Deal → Bool
are_wallets v deal = list_all (λ p. pays_to_wallet v p.1) deal.wallets

abbrev pub are_payable : Verifier → Deal → Bool
are_payable v deal = list_all (λ p. is_payable v p.1) deal.payees

pub record HasScripts (v : Verifier) (deal : Deal) : Type 0 where
  pub wallets : are_wallets v deal ≡ true
  pub payees : are_payable v deal ≡ true

abbrev pub ScriptsArePayable : Type 0
ScriptsArePayable = (v : Verifier) (advert : Advert) (text : List ℕ) (deal : Deal) → read_deal v advert text ≡ Ok deal → HasScripts v deal

abbrev pub KeysArePoints : Type 0
KeysArePoints = (v : Verifier) (advert : Advert) (text : List ℕ) (deal : Deal) → read_deal v advert text ≡ Ok deal
    → are_points v deal ≡ true

-- whether it is a witness of a wallet's
abbrev pub is_witness : Signed → Bool
is_witness g = is_filled g.witness

-- each signature by a key has the shape, and so none is too long for an item of a witness
pub record AreShaped (given : List Signed) : Type 0 where
  pub strict : list_all (λ (g : Signed). is_witness g || is_strict g.signature) given ≡ true
  pub short : are_short given ≡ true

abbrev pub SignaturesAreShaped : Type 0
SignaturesAreShaped = (v : Verifier) (hash : List ℕ → List ℕ) (keys : Keys) (s : Instance) (text : List ℕ) (given : List Signed)
    → read_signatures v hash keys s text ≡ Ok given → AreShaped given

-- whether the signature that is given for this verifies under its key, for the digest of its input; of what a wallet signs nothing is said
abbrev pub verifies : Verifier → (List ℕ → List ℕ) → Keys → List Signed → Slot → Bool
verifies v hash keys given slot =
    is_some slot.wallet
    || v.is_signature (slot_key hash keys slot) (slot_digest hash slot) (bytes_or_none (signature_for hash keys given slot))

-- every endorsement is there, and each by a key verifies
abbrev pub AllVerified : Verifier → (List ℕ → List ℕ) → Keys → Instance → List Signed → Type 0
AllVerified v hash keys s given = (slot : Slot) → Contains (slots hash keys s) slot → is_endorsement slot.verb ≡ true
    → (has hash keys given slot ≡ true) × (verifies v hash keys given slot ≡ true)

-- it is the witness of an input that a wallet signs: of the form that spends the wallet's output, and as far as that is known it verifies
pub record IsWalletWitness (v : Verifier) (hash : List ℕ → List ℕ) (keys : Keys) (s : Instance) (g : Signed) : Type 0 where
  pub t : Transaction
  pub there : Contains (transactions hash keys s) t
  pub bytes : g.tx ≡ t.bytes
  pub i : Input
  pub input : slice_get t.inputs g.input ≡ Some i
  pub w : Wallet
  pub of_wallet : i.wallet ≡ Some w
  pub by_none : g.key ≡ no_key
  pub form : has_witness_form v w.script g.witness ≡ true
  pub strict : has_strict_signature w.script g.witness ≡ true
  pub verifies : verifies_beside v i.digest w.script g.witness ≡ true

-- what is known of signatures that were read
pub record AreVerified (v : Verifier) (hash : List ℕ → List ℕ) (keys : Keys) (s : Instance) (given : List Signed) : Type 0 where
  -- each that is there verifies
  pub each : (slot : Slot) → Contains (slots hash keys s) slot → has hash keys given slot ≡ true → verifies v hash keys given slot ≡ true
  -- so the initial transaction may be signed exactly where every endorsement is there, and each by a key verifies
  pub starts : (may_start hash keys s given ≡ true) ↔ AllVerified v hash keys s given

-- no key that signs is the one that stands for none
abbrev pub AreGiven : (List ℕ → List ℕ) → Keys → Instance → Type 0
AreGiven hash keys s = (slot : Slot) → Contains (slots hash keys s) slot → slot.wallet ≡ None → slot_key hash keys slot ≡ no_key → ⊥

-- where all deposits are of keys, or all keys that sign are given
abbrev pub SignaturesVerify : Type 0
SignaturesVerify = (v : Verifier) (hash : List ℕ → List ℕ) (keys : Keys) (s : Instance) (text : List ℕ) (given : List Signed)
    → AreKeyDeposits keys ⊎ AreGiven hash keys s
    → read_signatures v hash keys s text ≡ Ok given → AreVerified v hash keys s given

-- as they are in a deal that is taken, of a well-formed contract
abbrev pub KeysAreGiven : Type 0
KeysAreGiven = (v : Verifier) (hash : List ℕ → List ℕ) (advert : Advert) (text : List ℕ) (deal : Deal)
    → IsWellFormed advert → read_deal v advert text ≡ Ok deal → AreGiven hash (deal_keys deal) (deal_instance advert deal)

-- each that is given is a signature, or the witness of a wallet's input
abbrev pub WitnessesVerify : Type 0
WitnessesVerify = (v : Verifier) (hash : List ℕ → List ℕ) (keys : Keys) (s : Instance) (text : List ℕ) (given : List Signed)
    → read_signatures v hash keys s text ≡ Ok given
    → (g : Signed) → Contains given g → is_witness g ≡ true → IsWalletWitness v hash keys s g

-- each string has the size of a secret, and the hash of its secret
abbrev pub SecretsFit : Type 0
SecretsFit = (hash : List ℕ → List ℕ) (keys : Keys) (s : Instance) (text : List ℕ) (strings : List Shown)
    → read_secrets hash keys s text ≡ shows strings → do_fit hash s strings ≡ true
