use Rattle.theory_deal.proofs.deals_ask.Goals as goal

pub returns : goal.returns
returns c hash keys s = record {
  transactions = c.transactions_of_deals.ensures hash keys s;
  exactly = c.asks_exactly.ensures hash keys s;
  keyed = (c.scripts_ask.ensures hash keys s).keyed;
  by_keys = (c.scripts_ask.ensures hash keys s).by_keys;
  order = c.signatures_in_order.ensures hash keys s;
  endorsed = c.endorsements_of_runs.ensures hash keys s;
  parted = c.held_and_missing.ensures hash keys s;
}
