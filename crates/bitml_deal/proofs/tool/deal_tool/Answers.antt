use Rattle.std.proofs.Common.{refl}
use Rattle.spec_deal.specs.Verifier.{secp256k1}
use Rattle.spec_chain.specs.Answers.{chain_read_answer, chain_answer}
use Rattle.spec_chain.specs.Commands.{chain_files}
use Rattle.tool_shell.proofs.Seen.{seen as seen_as}
use Rattle.bitml_deal.specs.Dealt.{seen}
use Rattle.bitml_deal.proofs.Headlines.{headline_of}
use Rattle.bitml_deal.proofs.tool.deal_tool.Goals as goal

pub returns : goal.returns
returns g c =
    headline_of (record {
      deal_causes = c.deal_statuses_have_causes.ensures;
      causes = c.chain_statuses_have_causes.ensures;
      gives_all = c.deals_give_all.ensures;
      sized = c.deals_are_sized.ensures;
      points = c.keys_are_points.ensures;
      payable = c.scripts_are_payable.ensures;
      given = c.keys_are_given.ensures;
      witnesses = c.witnesses_verify.ensures;
      verified = c.signatures_verify.ensures;
      planned = c.plan_of_runs.ensures;
      asks = c.deals_ask.ensures;
      hashes = c.deals_hash.ensures;
      signers = c.files_for_signers.ensures;
      once = c.nothing_twice.ensures;
      verifier = c.is_ecdsa.ensures;
      files = record {
        deals = c.deal_files_are_read.ensures;
        parts = c.parts_are_read.ensures;
        filled = c.filled_keys_are_taken.ensures;
        signatures = c.signature_files_are_read.ensures;
        secrets = c.secret_files_are_read.ensures;
        chains = c.chains_are_spelled.ensures;
        bad_chains = c.chains_are_refused.ensures;
      };
      lists = c.missing_and_held.ensures;
      starts = c.may_start.ensures;
      exactly = c.finishes_exactly.ensures;
      finished = c.finish_theorem.ensures;
      answers = c.finish_answers.ensures;
      stands = c.state_answers.ensures;
      tells = c.state_tells_secrets.ensures;
      says = c.deal_texts_are_read.ensures;
      follows = record {
        followed = c.followed_exactly.ensures;
        refused = c.refused_exactly.ensures;
        bad = c.bad_exactly.ensures;
        own = c.own_is_accepted.ensures;
        secrets = c.secrets_exactly.ensures;
        revealed = c.revealed_exactly.ensures;
        once = c.revealed_once.ensures;
        aside = c.aside_anywhere.ensures;
        lines = c.chains_come.ensures;
        asides = c.asides_left_out.ensures;
        ledgers = c.ledgers_follow.ensures;
        taken = c.taken_stands.ensures;
      };
      foresees = record {
        in_order = c.requirements_in_order.ensures;
        waits = c.waits_exactly.ensures;
        accepted = c.accepted_exactly.ensures;
        refused = c.cannot_is_refused.ensures;
        not_asked = c.not_asked_is_spent.ensures;
        goes_on = c.what_can_goes_on.ensures;
      };
      wallets = record {
        plain = c.plain_deals.ensures;
        used = c.keys_are_used.ensures;
        networks = c.networks_add_addresses.ensures;
        addresses = c.addresses_of_deals.ensures;
        signers = c.for_wallets.ensures;
        circles = c.none_is_circular.ensures;
        ready = c.ready_and_missing.ensures;
        endorse = c.parties_endorse.ensures;
        shown = c.deals_are_shown.ensures;
        values = c.warns_of_values.ensures;
        light = c.are_light.ensures;
      };
      scripts = c.script_theorem.ensures;
      no_other_way = c.false_without_one.ensures;
    }) (g.H.Hash32.digest_of c.args.hash) c.hashes_bytes.ensures _ _ _ c.serve.result
    (seen_as seen chain_files (chain_answer secp256k1 (g.H.Hash32.digest_of c.args.hash)) (λ call. chain_files (seen call))
    (λ call. chain_read_answer secp256k1 (g.H.Hash32.digest_of c.args.hash) (seen call)) (λ reads. refl) (λ call. refl)
    (λ call reads. refl) _ c.call_of.result _ _ c.serve.result c.call_of.ensures.command c.call_of.ensures.memory c.serve.ensures)
