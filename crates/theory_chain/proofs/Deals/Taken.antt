-- A deal that isn't refused is whole.
use Rattle.std.proofs.Common.{◌≡◌, ℕ, List, [], ◌∷◌, map, refl, subst}
use Rattle.spec_terms.specs.Advert.{Advert}
use Rattle.spec_bitcoin.specs.declared.tx.TxIn.{TxIn}
use Rattle.spec_bitcoin.specs.Spelling.{IsTransaction}
use Rattle.spec_compiler.specs.declared.unsigned.Spent.{Spent}
use Rattle.spec_compiler.specs.Keyed.Instance.{Instance}
use Rattle.spec_compiler.specs.Keyed.Transactions.{input_of, tx_of}
use Rattle.spec_run.specs.Firing.{witnessed}
use Rattle.spec_deal.specs.declared.deal.Deal.{Deal}
use Rattle.spec_deal.specs.Hashed.{deal_strings}
use Rattle.spec_deal.specs.Setting.{deal_keys, deal_instance}
use Rattle.spec_deal.specs.Verifier.{Verifier}
use Rattle.theory_bitcoin.proofs.Labels.{one_label}
use Rattle.theory_world.proofs.Hashed.{no_collision_none, no_collision}
use Rattle.theory_deal.proofs.ReadAgain.{fits}
use Rattle.theory_deal.proofs.ReadDeals.{deals_are_sized}
use Rattle.theory_deal.proofs.WholeDeals.{deals_give_all}
use Rattle.theory_deal.proofs.Ledger.Funded.{funded_at}
use Rattle.theory_deal.proofs.Ledger.KeysApart.{keys_apart}
use Rattle.theory_deal.proofs.Ledger.PlacesApart.{places_apart}
use Rattle.theory_deal.proofs.Widths.DealBytes.{deal_widths}
use Rattle.theory_deal.proofs.Widths.Outputs.{small_at}
use Rattle.theory_deal.proofs.Widths.Places.{spendable_at}
use Rattle.theory_chain.specs.Deals.{IsDeal}
use Rattle.theory_chain.proofs.Exactly.{there_by_name}
use Rattle.theory_chain.proofs.Deals.Whole.{Whole}

without_witnesses : (xs : List Spent) → witnessed (map input_of xs) [] ≡ map input_of xs
without_witnesses [] = refl
without_witnesses (x ∷ xs) = refl

pub whole_deal : (v : Verifier) (hash : List ℕ → List ℕ) (advert : Advert) (deal : Deal) → IsDeal v hash advert deal
    → Whole hash (deal_keys deal) (deal_instance advert deal)
whole_deal v hash advert deal d =
    let keys = deal_keys deal in
    let s : Instance = deal_instance advert deal in
    let sized = deals_are_sized v hash advert d.text deal d.read in
    let widths = deal_widths v hash advert d.text deal d.read in
    let all = deals_give_all v advert d.text deal d.read in
    record {
      size = d.hashes;
      checked = d.checked;
      number = refl;
      are_keys = sized.are_keys;
      applied = sized.applied d.checked;
      keys_apart = λ a b fa fb ia ib ua ub same. one_label a b fa fb (keys_apart v hash advert d.text deal d.read a b ia ib ua ub same);
      apart = record {
        bound = all.deposits;
        apart = places_apart v advert d.text deal d.read;
        unmade = d.unmade;
      };
      spelled = λ l h.
          let named = there_by_name hash keys s l h in
          subst (λ (is : List TxIn). IsTransaction (record (tx_of l.pending) { inputs = is })) (without_witnesses l.pending.spends)
          (fits hash keys s d.hashes l.pending [] (funded_at hash keys s d.checked l.which l named)
          (small_at hash d.hashes keys s widths.payees d.checked l.which l named)
          (spendable_at hash d.hashes keys s (sized.applied d.checked) all.deposits widths.places sized.are_keys widths.wallets widths.keys
          widths.hashes l.which l named) tt);
      clear = no_collision hash [] (deal_strings hash keys s) (no_collision_none hash) d.clear;
    }
