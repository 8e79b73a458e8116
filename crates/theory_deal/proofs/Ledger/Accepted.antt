-- A finished transaction is accepted by each ledger on which what it spends is live, from its lock on and not before.
use Rattle.std.proofs.Common.{◌≡◌, ℕ, zero, suc, ◌+◌, ◌≤◌, List, [], ◌∷◌, map, Option, None, refl, sym, ap, ◌∙◌, subst, arith}
use Rattle.std.specs.Prelude.{slice_get}
use Rattle.std.specs.Option.{option_map_or}
use Rattle.spec_bitcoin.specs.declared.tx.Tx.{Tx}
use Rattle.spec_bitcoin.specs.Digests.{double, digest}
use Rattle.spec_bitcoin.specs.Live.{Entry, Chain}
use Rattle.spec_bitcoin.specs.Spelling.{stripped}
use Rattle.spec_compiler.specs.Keyed.Keys.{Keys}
use Rattle.spec_deal.specs.declared.signed.Signed.{Signed}
use Rattle.spec_deal.specs.declared.transaction.Wallet.{Wallet}
use Rattle.spec_bitcoin.specs.Verdict.{script_of, spent_value}
use Rattle.spec_compiler.specs.Keyed.Instance.{Instance}
use Rattle.spec_compiler.specs.declared.unsigned.Spent.{Spent}
use Rattle.spec_compiler.specs.Keyed.Transactions.{input_of, tx_of, digest_of_spent}
use Rattle.spec_run.specs.Firing.{witnessed, with_witnesses}
use Rattle.spec_tool.specs.Keyed.Listed.{Listed}
use Rattle.spec_deal.specs.Finished.{witnesses}
use Rattle.spec_deal.specs.Setting.{deal_keys, deal_instance}
use Rattle.spec_deal.specs.Verifier.{Verifier}
use Rattle.theory_world.proofs.Ledger.Acceptable.{with-bare}
use Rattle.theory_world.proofs.Ledger.Bare.{same_preimage}
use Rattle.theory_deal.specs.Finished.{Oracle, oracle_by, Agrees, KeysAgree, InputOpens, InputsOpen, AllInputsOpen, AllOpen}
use Rattle.theory_deal.specs.Accepted.{oracle_on, Consensus, verdict_of, wallets_of, input_checks, AllLive, AllTaken, AreLive, accepted_on}
use Rattle.theory_deal.specs.Accepted.{AcceptedTheorem}
use Rattle.theory_deal.proofs.Ledger.ByBook.{verdict_by_book}
use Rattle.theory_deal.proofs.Ledger.DifferentOutputs.{apart_at}
use Rattle.theory_deal.proofs.Ledger.Funded.{funded_at}
use Rattle.theory_deal.proofs.Ledger.PlacesApart.{places_apart}
use Rattle.theory_deal.proofs.ReadSignatures.{signatures_are_shaped}
use Rattle.theory_deal.proofs.Ledger.InputChecks.{LieBy, all_lie, lies_by, worth_by, inputs_fine, accepts_fine, refused_early}
use Rattle.theory_deal.proofs.Ledger.Possible.{some_ledger, some_ledger_by}
use Rattle.theory_deal.proofs.Ledger.ShortItems.{keys_short, witnesses_short}
use Rattle.spec_compiler.specs.Keyed.Statements.{AreKeyDeposits}
use Rattle.theory_deal.proofs.Ledger.Verdicts.{AllShort, IsWhole, Lie, lies, one_worth, lie_of, accepts_open, refuses_early}
use Rattle.theory_deal.proofs.Whole.{strings_fit, finish_theorem}
use Rattle.theory_deal.proofs.WholeDeals.{deals_give_all}

-- ---- the digests of the ledger are those of the plan

-- what is signed reads no witness
digest_with : (hash : List ℕ → List ℕ) (tx : Tx) (ws : List (List (List ℕ))) (x : Spent) (w : List (List ℕ)) (script : List ℕ) (value : ℕ)
    → digest hash (with_witnesses tx ws) (record (input_of x) { witness = w }) script value ≡ digest hash tx (input_of x) script value
digest_with hash tx ws x w script value =
    ap (double hash) (same_preimage hash (with_witnesses tx ws) tx (record (input_of x) { witness = w }) (input_of x) script value
    (with-bare tx ws) refl)

module _ (hash : List ℕ → List ℕ) (live : List Entry) (tx : Tx) (all : List (List (List ℕ))) where
  -- the digest of input k, of those that spend these
  same_digest : (oracle : Oracle) (j k : ℕ) (xs : List Spent) (ws : List (List (List ℕ))) → AllOpen hash oracle j xs ws → Lie hash live xs
      → option_map_or (λ input. digest hash (with_witnesses tx all) input (script_of input.witness) (spent_value live input))
      (slice_get (witnessed (map input_of xs) ws) k) []
      ≡ option_map_or (digest_of_spent hash tx) (slice_get xs k) []
  same_digest oracle j k [] [] o h = refl
  same_digest oracle j k [] (w ∷ ws) o h = absurd o
  same_digest oracle j k (x ∷ xs) [] o h = absurd o
  same_digest oracle j zero (x ∷ xs) (w ∷ ws) o h =
      let worth = one_worth hash live x (record (input_of x) { witness = w }) refl (lies hash live x h.0) in
      (λ i. digest hash (with_witnesses tx all) (record (input_of x) { witness = w }) (o.0 i) (worth i))
      ∙ digest_with hash tx all x w x.script x.value
  same_digest oracle j (suc k) (x ∷ xs) (w ∷ ws) o h = same_digest oracle (j + 1) k xs ws o.2 h.1

-- the same of an input that keys of the deal sign
module _ (hash : List ℕ → List ℕ) (live : List Entry) (tx : Tx) (all : List (List (List ℕ))) (wallet : ℕ → Option Wallet) where
  same_digest_by : (oracle : Oracle) (given : List Signed) (bytes : List ℕ) (j k : ℕ) (xs : List Spent) (ws : List (List (List ℕ)))
      → InputsOpen hash oracle given bytes wallet j xs ws → LieBy hash live wallet j xs → wallet (j + k) ≡ None
      → option_map_or (λ input. digest hash (with_witnesses tx all) input (script_of input.witness) (spent_value live input))
      (slice_get (witnessed (map input_of xs) ws) k) []
      ≡ option_map_or (digest_of_spent hash tx) (slice_get xs k) []
  same_digest_by oracle given bytes j k [] [] o h none = refl
  same_digest_by oracle given bytes j k [] (w ∷ ws) o h none = absurd o
  same_digest_by oracle given bytes j k (x ∷ xs) [] o h none = absurd o
  same_digest_by oracle given bytes j zero (x ∷ xs) (w ∷ ws) o h none =
      let z : j ≡ j + 0 = omega arith in
      let here : wallet j ≡ None = ap wallet z ∙ none in
      let opens = subst (λ (q : Option Wallet). InputOpens hash oracle given bytes j q x w) here o.0 in
      let worth = worth_by hash live (wallet j) x (record (input_of x) { witness = w }) refl (lies_by hash live (wallet j) x h.0) in
      (λ i. digest hash (with_witnesses tx all) (record (input_of x) { witness = w }) (opens.0 i) (worth i))
      ∙ digest_with hash tx all x w x.script x.value
  same_digest_by oracle given bytes j (suc k) (x ∷ xs) (w ∷ ws) o h none =
      let n : j + 1 + k ≡ j + suc k = omega arith in
      same_digest_by oracle given bytes (j + 1) k xs ws o.1 h.1 (ap wallet n ∙ none)

keys_agree_on : (v : Verifier) (hash : List ℕ → List ℕ) (keys : Keys) (s : Instance) (given : List Signed) (live : List Entry) (l : Listed)
    (oracle : Oracle) (ws : List (List (List ℕ)))
    → AllInputsOpen hash keys s given oracle l ws → AllLive hash live (wallets_of keys s l) l.pending.spends
    → KeysAgree v hash keys s l
    (oracle_on (λ digest signature key. v.is_signature key digest signature) hash live (with_witnesses (tx_of l.pending) ws))
keys_agree_on v hash keys s given live l oracle ws opens there k none signature key good =
    let z : k ≡ 0 + k = omega arith in
    let here : wallets_of keys s l (0 + k) ≡ None = ap (wallets_of keys s l) (sym z) ∙ none in
    ap (λ (d : List ℕ). v.is_signature key d signature)
    (same_digest_by hash live (tx_of l.pending) ws (wallets_of keys s l) oracle given (stripped (tx_of l.pending)) 0 k l.pending.spends ws opens
    (all_lie hash live (wallets_of keys s l) l.pending.spends there) here)
    ∙ good

-- so a verifier on the ledger agrees with the verifier
agrees_on : (v : Verifier) (hash : List ℕ → List ℕ) (live : List Entry) (l : Listed) (oracle : Oracle) (ws : List (List (List ℕ)))
    → AllOpen hash oracle 0 l.pending.spends ws → AreLive hash live l.pending.spends
    → Agrees v hash l (oracle_on (λ digest signature key. v.is_signature key digest signature) hash live (with_witnesses (tx_of l.pending) ws))
agrees_on v hash live l oracle ws opens there k signature key good =
    ap (λ (d : List ℕ). v.is_signature key d signature)
    (same_digest hash live (tx_of l.pending) ws oracle 0 k l.pending.spends ws opens (lie_of hash live l.pending.spends there))
    ∙ good

-- ---- the whole

pub finished_accepted : AcceptedTheorem
finished_accepted v hash advert deal_text deal file given strings which l size checked deal_read unmade given_read strings_read there refusal =
    let keys = deal_keys deal in
    let s : Instance = deal_instance advert deal in
    let done = finish_theorem v hash advert deal_text deal file given strings which l checked deal_read given_read strings_read there refusal in
    let ws = witnesses hash keys s given strings l l.which in
    let whole : IsWhole l.pending = record {
      funded = funded_at hash keys s checked which l there;
      apart = apart_at hash keys s checked
          (record {
            bound = (deals_give_all v advert deal_text deal deal_read).deposits;
            apart = places_apart v advert deal_text deal deal_read;
            unmade = unmade;
          }) which l there;
    } in
    let short : AreKeyDeposits keys → AllShort ws =
    λ of_keys.
    witnesses_short hash keys s given strings (signatures_are_shaped v hash keys s file given given_read).short
    (strings_fit hash keys s strings strings_read) of_keys l l.which in
    let keys_are_short =
    keys_short hash keys s given strings (signatures_are_shaped v hash keys s file given given_read).short
    (strings_fit hash keys s strings strings_read) l l.which in
    let wallet = wallets_of keys s l in
    let tx = with_witnesses (tx_of l.pending) ws in
    let accepted_by : (oracle : Oracle) (takes : Consensus) (chain : Chain) → AllLive hash chain.live wallet l.pending.spends
    → AllTaken takes wallet chain.live tx → l.pending.lock ≤ chain.tip → AllInputsOpen hash keys s given oracle l ws
    → verdict_of hash (input_checks keys s l oracle takes) chain tx ≡ accepted_on chain tx =
    λ oracle takes chain live taken reached opens.
    accepts_fine hash (input_checks keys s l oracle takes) wallet chain l.pending ws whole live reached
    (inputs_fine hash chain.live wallet size oracle takes given (stripped (tx_of l.pending)) tx taken 0 l.pending.spends ws
    (all_lie hash chain.live wallet l.pending.spends live) opens keys_are_short) in
    record {
      by_input_checks = record {
        judged = λ oracle takes chain accepted live taken reached.
            accepted_by oracle takes chain live taken reached (done.inputs_open oracle accepted);
        agreed = λ oracle takes chain agrees live taken reached.
            accepted_by oracle takes chain live taken reached (done.inputs_agreed oracle agrees);
        verified = λ takes chain live taken reached.
            let oracle = oracle_on (λ digest signature key. v.is_signature key digest signature) hash chain.live tx in
            accepted_by oracle takes chain live taken reached
            (done.inputs_agreed oracle (keys_agree_on v hash keys s given chain.live l (oracle_by v hash l) ws done.inputs_verified live));
        possible = some_ledger_by hash wallet l.pending.spends whole.apart;
        early = λ oracle takes chain live early. refused_early hash (input_checks keys s l oracle takes) wallet chain l.pending ws whole live early;
      };
      by_book = λ book chain. verdict_by_book hash book chain (with_witnesses (tx_of l.pending) ws);
      judged = λ of_keys oracle chain accepted live reached.
          accepts_open hash oracle chain l.pending ws whole live size reached (done.opens of_keys oracle accepted) (short of_keys);
      agreed = λ of_keys oracle chain agrees live reached.
          accepts_open hash oracle chain l.pending ws whole live size reached (done.agreed of_keys oracle agrees) (short of_keys);
      verified = λ of_keys chain live reached.
          let tx = with_witnesses (tx_of l.pending) ws in
          let oracle = oracle_on (λ digest signature key. v.is_signature key digest signature) hash chain.live tx in
          accepts_open hash oracle chain l.pending ws whole live size reached
          (done.agreed of_keys oracle (agrees_on v hash chain.live l (oracle_by v hash l) ws (done.verified of_keys) live)) (short of_keys);
      possible = some_ledger hash l.pending.spends whole.apart;
      early = λ oracle chain live early. refuses_early hash oracle chain l.pending ws whole live early;
    }
