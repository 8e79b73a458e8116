-- What is made of the compiled transactions of a deal are its transactions.
use Rattle.std.proofs.Common.{◌≡◌, ℕ, zero, suc, ◌+◌, List, [], ◌∷◌, map, Option, Some, None, refl, ap, ◌∙◌}
use Rattle.std.specs.Option.{option_map_or}
use Rattle.spec_terms.specs.Term as term
use Rattle.spec_terms.specs.Advert.{Advert}
use Rattle.spec_terms.specs.Paths.{at}
use Rattle.spec_terms.specs.Precondition.{persistent, names_of}
use Rattle.spec_terms.specs.declared.path.PathStep.{PathStep}
use Rattle.spec_bitcoin.specs.declared.label.Label.{Label}
use Rattle.spec_bitcoin.specs.declared.label.Label.TheVariants as labels
use Rattle.spec_bitcoin.specs.Digests.{txid}
use Rattle.spec_bitcoin.specs.Spelling.{stripped}
use Rattle.spec_compiler.specs.Keyed.Keys.{Keys}
use Rattle.spec_compiler.specs.Keyed.Instance.{Instance}
use Rattle.spec_compiler.specs.Keyed.Transactions.{tx_of, digest_of_spent}
use Rattle.spec_compiler.specs.Keyed.Compilation.{path_transactions}
use Rattle.spec_compiler.specs.declared.unsigned.Spent.{Spent}
use Rattle.spec_compiler.specs.declared.unsigned.Unsigned.{Unsigned}
use Rattle.spec_text.specs.Words.{◌>>=◌}
use Rattle.spec_tool.specs.declared.which.Which.{Which}
use Rattle.spec_tool.specs.declared.which.Which.TheVariants as names
use Rattle.spec_tool.specs.Keyed.Listed.{Listed, initial_listed, path_listed, branch_signers}
use Rattle.bm_compile.specs.Keyed.Detailed.{detailed, details, ready}
use Rattle.spec_deal.specs.declared.deal.Deal.{Deal}
use Rattle.spec_deal.specs.Needed.{deal_contract}
use Rattle.spec_deal.specs.declared.transaction.Wallet.{Wallet}
use Rattle.spec_deal.specs.Setting.{deal_keys, deal_instance}
use Rattle.spec_deal.specs.Slots.{verb_of}
use Rattle.spec_deal.specs.Transactions.{signer, input, input_with, inputs, transaction, transactions}
use Rattle.spec_deal.specs.Wallets.{input_deposit, puts_at, wallet_of, input_wallet, spent_output, signer_key}
use Rattle.deal_compile.specs.Keyed.{Held, keys_of, held_of}
use Rattle.deal_compile.specs.Parts.{verb_by, key_by, signer_by, labels_by, deposit_by, wallet_by, digest_by, input_by, inputs_by}
use Rattle.deal_compile.specs.Parts.{transaction_by, path_transaction, transactions_by}

-- the branch that a transaction takes
abbrev branch_of : Advert → Which → Option term.Guarded
branch_of advert names.Init = None
branch_of advert (names.At path) = at advert.root path

same_verb : (advert : Advert) (which : Which) (label : Label) → verb_by which (branch_of advert which) label ≡ verb_of advert which label
same_verb advert names.Init label = refl
same_verb advert (names.At path) (labels.Deposit party) = refl
same_verb advert (names.At path) (labels.Branch contract place party) = refl

-- the deposits that it spends
abbrev deposits_of : Advert → Which → List (List ℕ)
deposits_of advert names.Init = names_of (persistent advert.pre)
deposits_of advert (names.At path) = puts_at (at advert.root path)

same_deposit : (advert : Advert) (which : Which) (k : ℕ) → deposit_by which (deposits_of advert which) k ≡ input_deposit advert which k
same_deposit advert names.Init k = refl
same_deposit advert (names.At path) zero = refl
same_deposit advert (names.At path) (suc k) = refl

module _ (hash : List ℕ → List ℕ) (held : Held) (advert : Advert) (l : Listed) where
  abbrev keys : Keys
  keys = keys_of held

  abbrev taken : Option term.Guarded
  taken = branch_of advert l.which

  abbrev digest : Spent → List ℕ
  digest spent = digest_of_spent hash (tx_of l.pending) spent

  same_wallet : (k : ℕ) → wallet_by held l.which (deposits_of advert l.which) k ≡ input_wallet keys advert l.which k
  same_wallet k = ap (λ name. name >>= wallet_of keys) (same_deposit advert l.which k)

  same_key : (wallet : Option Wallet) (label : Label) → key_by held wallet label ≡ signer_key hash keys wallet label
  same_key None label = refl
  same_key (Some w) label = refl

  same_signers : (wallet : Option Wallet) (ls : List Label) → map (signer_by held l.which taken wallet) ls ≡ map (signer hash keys advert l.which wallet) ls
  same_signers wallet [] = refl
  same_signers wallet (label ∷ ls) =
      λ j. record { label = label; key = same_key wallet label j; verb = same_verb advert l.which label j } ∷ same_signers wallet ls j

  with_wallet : (wallet : Option Wallet) (spent : Spent) (ls : List Label)
      → input_by hash held l.which taken wallet spent (digest spent) ls ≡ input_with hash keys advert l wallet spent ls
  with_wallet wallet spent ls = λ j. record {
    spent = spent;
    output = spent_output hash wallet spent;
    digest = digest_by wallet (digest spent);
    signers = same_signers wallet ls j;
    wallet = wallet;
  }

  same_input : (k : ℕ) (spent : Spent) (ls : List Label)
      → input_by hash held l.which taken (wallet_by held l.which (deposits_of advert l.which) k) spent (digest spent) ls
      ≡ input hash keys advert l k spent ls
  same_input k spent ls =
      ap (λ wallet. input_by hash held l.which taken wallet spent (digest spent) ls) (same_wallet k)
      ∙ with_wallet (input_wallet keys advert l.which k) spent ls

  same_inputs : (k : ℕ) (spends : List Spent) (signers : List (List Label))
      → inputs_by hash held l.which taken (deposits_of advert l.which) k spends (map (digest_of_spent hash (tx_of l.pending)) spends) signers
      ≡ inputs hash keys advert l k spends signers
  same_inputs k [] signers = refl
  same_inputs k (spent ∷ spends) [] = λ j. same_input k spent [] j ∷ same_inputs (k + 1) spends [] j
  same_inputs k (spent ∷ spends) (ls ∷ signers) = λ j. same_input k spent ls j ∷ same_inputs (k + 1) spends signers j

  same_transaction : transaction_by hash held l.which taken (deposits_of advert l.which) l.signers (detailed hash l.pending)
      ≡ transaction hash keys advert l
  same_transaction = λ j. record {
    which = l.which;
    tx = tx_of l.pending;
    txid = txid hash (tx_of l.pending);
    bytes = stripped (tx_of l.pending);
    inputs = same_inputs 0 l.pending.spends l.signers j;
  }

same_labels : (advert : Advert) (path : List PathStep) (o : Option term.Guarded)
    → labels_by advert path o ≡ option_map_or (branch_signers deal_contract advert path) o []
same_labels advert path None = refl
same_labels advert path (Some b) = refl

module _ (hash : List ℕ → List ℕ) (advert : Advert) (deal : Deal) where
  abbrev s : Instance
  s = deal_instance advert deal

  same_path : (path : List PathStep) (d : Unsigned)
      → path_transaction hash (held_of deal) advert (path, detailed hash d) ≡ transaction hash (deal_keys deal) advert (path_listed s path d)
  same_path path d =
      ap
      (λ ls. transaction_by hash (held_of deal) (names.At path) (at advert.root path) (puts_at (at advert.root path)) ls (detailed hash d))
      (same_labels advert path (at advert.root path))
      ∙ same_transaction hash (held_of deal) advert (path_listed s path d)

  same_paths : (ps : List (List PathStep × Unsigned))
      → map (path_transaction hash (held_of deal) advert) (map (ready hash) ps)
      ≡ map (transaction hash (deal_keys deal) advert) (map (λ p. path_listed s (p.0) (p.1)) ps)
  same_paths [] = refl
  same_paths (p ∷ ps) = λ j. same_path (p.0) (p.1) j ∷ same_paths ps j

  pub same_transactions : transactions_by hash (held_of deal) advert (details hash (deal_keys deal) s) ≡ transactions hash (deal_keys deal) s
  same_transactions =
      λ j. same_transaction hash (held_of deal) advert (initial_listed hash (deal_keys deal) s) j
      ∷ same_paths (path_transactions hash (deal_keys deal) s) j
