-- What every run keeps of signatures, outputs and contracts.
use Rattle.std.specs.Prelude.{◌≡◌, ℕ, List, [], ◌∷◌, ◌++◌, true, false, ◌⊎◌, Some, None, slice_get}
use Rattle.spec_data.specs.Lists.{is_among, look_up}
use Rattle.spec_terms.specs.Advert.{Advert}
use Rattle.spec_terms.specs.Core.{core, puts_of, is_asked}
use Rattle.spec_terms.specs.Term as term
use Rattle.spec_terms.specs.Term.{Contract, branches}
use Rattle.spec_terms.specs.Precondition.{Holding, deposits, persistent}
use Rattle.spec_terms.specs.declared.path.PathStep.{PathStep}
use Rattle.spec_terms.specs.declared.path.PathStep.TheVariants.{Branch as To}
use Rattle.spec_bitcoin.specs.declared.label.Label.TheVariants as labels
use Rattle.spec_bitcoin.specs.declared.tx.TxIn.{TxIn}
use Rattle.spec_bitcoin.specs.declared.tx.Tx.{Tx}
use Rattle.spec_bitcoin.specs.Spelling.{stripped, IsPlace}
use Rattle.spec_bitcoin.specs.Digests.{txid, preimage, digest, opening_transaction}
use Rattle.spec_bitcoin.specs.Keys.{key_of, label_text, has_signed, pay_to}
use Rattle.spec_calculus.specs.Configuration.{Configuration}
use Rattle.spec_calculus.specs.Beginning.{is_init_authorised}
use Rattle.spec_calculus.specs.Branches.{has_branch_authorised}
use Rattle.spec_compiler.specs.Instance.{Instance, branch_label, deposit_key, people}
use Rattle.spec_compiler.specs.declared.unsigned.Spent.{Spent}
use Rattle.spec_compiler.specs.Transactions.{Standing, tx_of, digest_of_spent, put_deposits, persistent_deposits, branch_unsigned}
use Rattle.spec_compiler.specs.Transactions.{initial_unsigned, party_script}
use Rattle.spec_compiler.specs.ByPath.{position_at}
use Rattle.spec_compiler.specs.Hashed.{compiled_strings}
use Rattle.spec_run.specs.Setup.{Setup, is_declared, is_honest, contract_at, pre_at, people_at}
use Rattle.spec_run.specs.World.{ContractPosition, Output, World, live_position_at, bindings_at, is_advertised}
use Rattle.spec_run.specs.Owners.{paid_to}
use Rattle.spec_run.specs.Compiled.{compiled_instance}
use Rattle.spec_run.specs.Event.{opening_outputs}
use Rattle.spec_run.specs.Steps.{is_bound_live}
use Rattle.theory_calculus.specs.Members.{Is_in}
use Rattle.theory_world.specs.Transactions.{NoScripts, IsNumbered, HeardLists}
use Rattle.theory_world.specs.KeptApart.{are_made}

-- ---- what was spent

-- no lock binds
abbrev pub AllFinal : List TxIn → Type 0
AllFinal [] = Unit {0}
AllFinal (i ∷ is) = (i.sequence ≡ 0xffffffff) × AllFinal is

-- what an input signs is among the messages, and its hash
pub record HeardDigest (s : Setup) (hs : List (List ℕ)) (tx : Tx) (i : TxIn) (script : List ℕ) (value : ℕ) : Type 0 where
  pub first : is_among (preimage s.hash tx i script value) hs ≡ true
  pub second : is_among (s.hash (preimage s.hash tx i script value)) hs ≡ true

-- the input spent this output, and where it was a party's the party has signed
pub record SpentFor (s : Setup) (w : World) (tx : Tx) (i : TxIn) : Type 0 where
  pub number : ℕ
  pub output : Output
  pub there : slice_get w.outputs number ≡ Some output
  pub outpoint : i.prev ≡ output.outpoint
  pub dead : output.live ≡ false
  pub signed : (a : List ℕ) → is_declared s a ≡ true → output.script ≡ paid_to s a
      → has_signed w.book (deposit_key s.hash a) (digest s.hash tx i (party_script s.hash a) output.value) ≡ true
  pub heard : (a : List ℕ) → is_declared s a ≡ true → output.script ≡ paid_to s a
      → HeardDigest s w.hashed tx i (party_script s.hash a) output.value

-- so did each of these
abbrev pub AllSpentFor : Setup → World → Tx → List TxIn → Type 0
AllSpentFor s w tx [] = Unit {0}
AllSpentFor s w tx (i ∷ is) = SpentFor s w tx i × AllSpentFor s w tx is

-- a transaction of this id was accepted
pub record From (s : Setup) (w : World) (id : List ℕ) : Type 0 where
  pub tx : Tx
  pub fits : IsNumbered tx
  pub no_scripts : NoScripts tx.inputs
  pub is : id ≡ txid s.hash tx
  pub first : is_among (stripped tx) w.hashed ≡ true
  pub second : is_among (s.hash (stripped tx)) w.hashed ≡ true
  pub lists : HeardLists s.hash w.hashed tx
  pub spent : AllSpentFor s w tx tx.inputs

-- the id of the transaction that makes the deposits of the header
abbrev pub opening_id : Setup → List ℕ
opening_id s = txid s.hash (opening_transaction (opening_outputs s))

-- ---- what an honest party has signed

-- an input of a gift without its witnesses
pub record Gave (s : Setup) (w : World) (a d : List ℕ) : Type 0 where
  pub tx : Tx
  pub input : TxIn
  pub value : ℕ
  pub fits : IsNumbered tx
  pub lists : HeardLists s.hash w.hashed tx
  pub prev : IsPlace input.prev
  pub is : d ≡ digest s.hash tx input (party_script s.hash a) value
  pub heard : HeardDigest s w.hashed tx input (party_script s.hash a) value
  pub some : (i : TxIn) × Is_in i tx.inputs
  pub final : AllFinal tx.inputs

-- the put of a deposit
pub record Needed (s : Setup) (w : World) (a d : List ℕ) : Type 0 where
  pub contract : ℕ
  pub instance : Instance
  pub compiled : compiled_instance s w contract ≡ Some instance
  pub position : List PathStep
  pub here : Standing
  pub choice : Contract
  pub stands : position_at s.hash instance position ≡ Some (here, choice)
  pub index : ℕ
  pub branch : term.Guarded
  pub there : slice_get (branches choice) index ≡ Some branch
  pub spent : Spent
  pub put : Is_in spent (put_deposits s.hash instance (puts_of (core branch)))
  pub is : d ≡ digest_of_spent s.hash (tx_of (branch_unsigned s.hash instance here index branch)) spent

-- a deposit of an initial transaction
pub record Started (s : Setup) (g : Configuration) (w : World) (a d : List ℕ) : Type 0 where
  pub contract : ℕ
  pub instance : Instance
  pub compiled : compiled_instance s w contract ≡ Some instance
  pub spent : Spent
  pub persists : Is_in spent (persistent_deposits s.hash instance)
  pub is : d ≡ digest_of_spent s.hash (tx_of (initial_unsigned s.hash instance)) spent
  pub authorised : (e : List ℕ × Holding) → Is_in e (persistent (pre_at s contract)) → (e.1).owner ≡ a → is_bound_live w contract e ≡ true
      → is_init_authorised g.init_authorised contract (e.0) ≡ true

-- why a party has signed a digest with the key of its deposits
pub data DepositCause (s : Setup) (g : Configuration) (w : World) (a d : List ℕ) : Type 0 where
  gave : Gave s w a d → DepositCause s g w a d
  needed : Needed s w a d → DepositCause s g w a d
  started : Started s g w a d → DepositCause s g w a d

-- a branch's one digest, and where the branch asks the party, it has authorised it
pub record BranchCause (s : Setup) (g : Configuration) (w : World) (k : ℕ) (st : Instance) (q : List PathStep) (here : Standing) (i : ℕ)
    (b : term.Guarded) (a d : List ℕ) : Type 0 where
  pub is : d ≡ digest_of_spent s.hash (tx_of (branch_unsigned s.hash st here i b)) here.output
  pub existed : is_asked b a ≡ true
      → (n : ℕ) × (o : Output) × (slice_get w.outputs n ≡ Some o) × (o.outpoint ≡ here.output.outpoint)
  pub authorised : is_asked b a ≡ true → (n : ℕ) → live_position_at w n ≡ Some (record { contract = k; position = q })
      → has_branch_authorised g.branch_authorised n i a ≡ true

-- ---- contracts

-- the output that a deposit of a precondition is bound to
pub record IsBound (s : Setup) (w : World) (h : Holding) (n : ℕ) : Type 0 where
  pub output : Output
  pub there : slice_get w.outputs n ≡ Some output
  pub script : output.script ≡ paid_to s h.owner
  pub value : output.value ≡ h.value
  pub free : output.holds ≡ None
  pub declared : is_declared s h.owner ≡ true

-- the bindings of an advertised contract are to outputs that were made, each deposit's to one that fits it and to no other's, and one of
-- its participants is honest
pub record AdvertFine (s : Setup) (w : World) (k : ℕ) : Type 0 where
  pub advert : Advert
  pub there : contract_at s k ≡ Some advert
  pub made : are_made w (bindings_at w.advertised k) ≡ true
  pub bound : (name : List ℕ) (h : Holding) → Is_in (name, h) (deposits advert.pre)
      → (n : ℕ) × (look_up name (bindings_at w.advertised k) ≡ Some n) × IsBound s w h n
  pub apart : (x y : List ℕ) (n : ℕ) → look_up x (bindings_at w.advertised k) ≡ Some n
      → look_up y (bindings_at w.advertised k) ≡ Some n → x ≡ y
  pub fair : (a : List ℕ) × (is_among a (people_at s k) ≡ true) × (is_honest s a ≡ true)

-- a contract output is what its position was compiled to
pub record HeldFine (s : Setup) (w : World) (o : Output) (h : ContractPosition) : Type 0 where
  pub instance : Instance
  pub compiled : compiled_instance s w h.contract ≡ Some instance
  pub here : Standing
  pub choice : Contract
  pub stands : position_at s.hash instance h.position ≡ Some (here, choice)
  pub outpoint : o.outpoint ≡ here.output.outpoint
  pub script : o.script ≡ pay_to (s.hash here.output.script)
  pub value : o.value ≡ here.output.value

-- ---- all of it

pub record KeptBook (s : Setup) (g : Configuration) (w : World) : Type 0 where
  -- the labels and the scripts of all parties, and the opening transaction with its hash, are among the messages
  pub labelled : (a : List ℕ) → is_declared s a ≡ true → is_among (label_text (labels.Deposit a)) w.hashed ≡ true
  pub programs : (a : List ℕ) → is_declared s a ≡ true → is_among (party_script s.hash a) w.hashed ≡ true
  pub opened : (is_among (stripped (opening_transaction (opening_outputs s))) w.hashed ≡ true)
      × (is_among (s.hash (stripped (opening_transaction (opening_outputs s)))) w.hashed ≡ true)
  -- outputs lie at different places, and come from accepted transactions
  pub apart : (m n : ℕ) (o p : Output) → slice_get w.outputs m ≡ Some o → slice_get w.outputs n ≡ Some p
      → o.outpoint ≡ p.outpoint → m ≡ n
  pub origin : (n : ℕ) (o : Output) → slice_get w.outputs n ≡ Some o
      → (o.outpoint.txid ≡ opening_id s) ⊎ From s w o.outpoint.txid
  pub placed_fine : (n : ℕ) (o : Output) → slice_get w.outputs n ≡ Some o → IsPlace o.outpoint
  -- contracts: their bindings fit, what is compiled was hashed, and outputs hold positions exactly where these are compiled to
  pub adverts : (k : ℕ) → is_advertised w k ≡ true → AdvertFine s w k
  pub heard : (k : ℕ) (st : Instance) → compiled_instance s w k ≡ Some st
      → (t : List ℕ) → is_among t (compiled_strings s.hash st) ≡ true → is_among t w.hashed ≡ true
  pub held : (n : ℕ) (o : Output) (h : ContractPosition) → slice_get w.outputs n ≡ Some o
      → o.holds ≡ Some h → HeldFine s w o h
  pub placed : (k : ℕ) (st : Instance) (q : List PathStep) (here : Standing) (choice : Contract) (n : ℕ) (o : Output)
      → compiled_instance s w k ≡ Some st → position_at s.hash st q ≡ Some (here, choice)
      → slice_get w.outputs n ≡ Some o → o.outpoint ≡ here.output.outpoint → o.holds ≡ Some (record { contract = k; position = q })
  -- each signature of an honest party has its cause
  pub deposit_pairs : (a d : List ℕ) → is_declared s a ≡ true → is_honest s a ≡ true
      → has_signed w.book (deposit_key s.hash a) d ≡ true → DepositCause s g w a d
  pub branch_pairs : (k : ℕ) (st : Instance) (q : List PathStep) (here : Standing) (choice : Contract) (i : ℕ)
      (b : term.Guarded) (a d : List ℕ) → compiled_instance s w k ≡ Some st → position_at s.hash st q ≡ Some (here, choice)
      → slice_get (branches choice) i ≡ Some b → is_among a (people st) ≡ true → is_honest s a ≡ true
      → has_signed w.book (key_of s.hash (branch_label k (q ++ To i ∷ []) a)) d ≡ true → BranchCause s g w k st q here i b a d
