-- The whole page of a run in which a deposit is put in, as it was written by a second program, apart from these definitions.
use Rattle.std.proofs.Common.{◌≡◌, ℕ, List, [], ◌∷◌, ◌++◌, map, refl}
use Rattle.std.specs.Prelude.{codes}
use Rattle.std.specs.Fmt.{digits}
use Rattle.spec_terms.specs.Term.{always, after, put_reveal}
use Rattle.spec_terms.specs.Term.{withdraw, no_branch, branch}
use Rattle.spec_terms.specs.Advert.{Advert}
use Rattle.spec_terms.specs.declared.pre.Pre.TheVariants.{Persistent, Volatile, Secret}
use Rattle.spec_bitcoin.specs.Keys.{label_text}
use Rattle.spec_bitcoin.specs.Digests.{places_list, sequences_list, outputs_list, preimage}
use Rattle.spec_bitcoin.specs.Spelling.{stripped, marked, compact}
use Rattle.spec_bitcoin.specs.Meaning.{script_meaning}
use Rattle.spec_bitcoin.specs.Numbers.{number_of_item, signed_bytes, item_of_number}
use Rattle.spec_bitcoin.specs.Scripts.{ops_of}
use Rattle.spec_compiler.specs.Keyed.Instance.{position_script}
use Rattle.spec_run.specs.declared.event.Event.{Event}
use Rattle.spec_run.specs.declared.event.Event.TheVariants as events
use Rattle.spec_run.specs.Setup.{Setup}
use Rattle.spec_tool.proofs.HashVectors.{small_hash}
use Rattle.spec_page.specs.Html.{attribute_text}
use Rattle.spec_page.specs.Style.{style_text}
use Rattle.spec_page.specs.Script.{script_text}
use Rattle.spec_page.specs.ContractPart.{contract_elements}
use Rattle.spec_page.specs.RunPart.{run_elements}
use Rattle.spec_page.specs.Page.{outlook_part, bar_part, slider_part, table_part, text_part, head_part, body_part, page_of, page_text}
use Rattle.spec_page.specs.declared.status.Status.{Status}
use Rattle.spec_page.specs.declared.status.Status.TheVariants.{Open, Taken, Met, Gone}
use Rattle.spec_page.specs.Stops.{stops}
use Rattle.spec_page.proofs.Escrow.{pieces}

abbrev contract_0 : Advert
contract_0 = record {
  pre = Persistent (codes "A") 100000 (codes "x") ∷ Persistent (codes "B") 10000 (codes "y") ∷ Volatile (codes "A") 50000 (codes "z") ∷ Secret (codes "A") (codes "a") ∷ [];
  fee = 1000;
  root = (branch (put_reveal (codes "z" ∷ []) (codes "a" ∷ []) always (branch (withdraw (codes "B")) no_branch)) (branch (after 880050 (withdraw (codes "A"))) no_branch));
}

abbrev setup : Setup
setup = record {
  hash = small_hash;
  header = record {
    parties = codes "A" ∷ codes "B" ∷ [];
    honest = codes "A" ∷ codes "B" ∷ [];
    secrets = record { party = codes "A"; name = codes "a"; bytes = (104 ∷ 97 ∷ 108 ∷ 102 ∷ 32 ∷ 111 ∷ 102 ∷ 32 ∷ 116 ∷ 104 ∷ 101 ∷ 32 ∷ 109 ∷ 97 ∷ 112 ∷ 58 ∷ 32 ∷ 110 ∷ 111 ∷ 114 ∷ 116 ∷ 104 ∷ []) } ∷ [];
    deposits = (codes "A", 100000) ∷ (codes "B", 10000) ∷ (codes "A", 50000) ∷ [];
  };
  contracts = contract_0 ∷ [];
}

abbrev played : List Event
played =
    events.Mine 880000 ∷
    events.Advertise 0 ((codes "x", 0) ∷ (codes "y", 1) ∷ (codes "z", 2) ∷ []) ∷
    events.Commit 0 (codes "A") [] ∷
    events.Commit 0 (codes "B") [] ∷
    events.Endorse 0 (codes "A") ∷
    events.Endorse 0 (codes "B") ∷
    events.Init 0 (codes "A") ∷
    events.Init 0 (codes "B") ∷
    events.FireInit 0 ∷
    events.Fire 3 0 ∷
    events.Reveal 0 (codes "A") (codes "a") ∷
    events.Fire 3 0 ∷
    events.Fire 4 0 ∷
    []

-- before the style
abbrev before_style : List ℕ
before_style =
    pieces (
    codes "<!doctype html>\n" ∷
    codes "<html lang=\"en\"><head><meta charset=\"utf-8\">\n" ∷
    codes "<meta name=\"viewport\" content=\"width=device-width,initial-scale=1\">\n" ∷
    codes "<meta http-equiv=\"Content-Security-Policy\" content=\"default-src 'none';style-src " ∷
    codes "'unsafe-inline';script-src 'sha256-YSnz3cepIaNsEgDAZDGUHftFt71mf1FVI8IVEsoNAK8=';base-uri " ∷
    codes "'none';form-action 'none'\">\n" ∷
    codes "<title>put</title>\n" ∷
    codes "<style>" ∷
    [])

-- from there to the table
abbrev before_table : List ℕ
before_table =
    pieces (
    codes "</style>\n" ∷
    codes "</head>\n" ∷
    codes "<body><h1>put<small>160,000 satoshi in deposits</small></h1>\n" ∷
    codes "<div class=\"bar\" title=\"where the money is\"><div class=\"p0\" title=\"A\" style=\"flex-grow:0\"><span>A</span>" ∷
    codes "</div><div class=\"p1\" title=\"B\" style=\"flex-grow:157000\"><span>B</span></div><div class=\"in\" " ∷
    codes "title=\"contract\" style=\"flex-grow:0\"><span>contract</span></div><div class=\"out\" title=\"elsewhere\" style=\"flex-grow:0\">" ∷
    codes "<span>elsewhere</span></div><div class=\"fee\" title=\"fees\" style=\"flex-grow:3000\"><span>fees</span></div></div>\n" ∷
    codes "<div class=\"ctl\"><input type=\"range\" id=\"range\" min=\"0\" max=\"6\" value=\"6\" " ∷
    codes "aria-label=\"event\"><output id=\"said\"></output></div>\n" ∷
    codes "<div class=\"now\"><b>can now:</b> <p class=\"off\" data-at=\"0:on 2:off\">advertise; waits for A, " ∷
    codes "B</p>\n" ∷
    codes "<p class=\"off\" data-at=\"0:off 2:on 4:off\">A shows a; waits for A</p>\n" ∷
    codes "<p class=\"off\" data-at=\"0:off 4:on 5:off\">fire r.0</p>\n" ∷
    codes "<p class=\"off\" data-at=\"0:off 5:on 6:off\">fire r.0.0</p>\n" ∷
    codes "<p class=\"on\" data-at=\"0:off 6:on\">nothing</p>\n" ∷
    codes "</div>\n" ∷
    codes "<div class=\"scroll\">" ∷
    [])

-- the rows
abbrev table : List ℕ
table =
    pieces (
    codes "<table class=\"few\"><tbody><tr class=\"head\"><th></th><th>the contract, fee 1,000 a transaction</th>" ∷
    codes "<th class=\"name p0\">A</th><th class=\"name p1\">B</th><th></th><th></th></tr>\n" ∷
    codes "<tr class=\"way d0 taken\" data-at=\"0:open 2:taken\"><td class=\"path\"><bdi>init</bdi></td><td " ∷
    codes "class=\"what\">all sign; each puts in</td><td class=\"sum p0\" data-of=\"A\"><i class=\"taken\" " ∷
    codes "data-at=\"0:open 2:taken\">100,000</i> <span class=\"brings\">50,000 if put</span> </td><td class=\"sum " ∷
    codes "p1\" data-of=\"B\"><i class=\"taken\" data-at=\"0:open 2:taken\">10,000</i> </td><td></td><td></td>" ∷
    codes "</tr>\n" ∷
    codes "<tr class=\"fork d0\"><td></td><td class=\"what\"><b>one of</b></td><td></td><td></td><td></td><td></td>" ∷
    codes "</tr>\n" ∷
    codes "<tr class=\"way d1 taken\" data-at=\"0:open 4:offered 5:taken\"><td class=\"path\"><bdi>r.0</bdi></td>" ∷
    codes "<td class=\"what\"><span class=\"chip met\" data-at=\"0:open 2:met\">A puts 50,000</span> <span " ∷
    codes "class=\"chip met\" data-at=\"0:open 4:met\">A shows a</span> </td><td></td><td class=\"sum p1\" " ∷
    codes "data-of=\"B\"><i class=\"taken\" data-at=\"0:open 5:offered 6:taken\">157,000</i> </td><td></td><td>" ∷
    codes "</td></tr>\n" ∷
    codes "<tr class=\"way d1 gone\" data-at=\"0:open 5:gone\"><td class=\"path\"><bdi>r.1</bdi></td><td " ∷
    codes "class=\"what\"><span class=\"chip open\" data-at=\"0:open\">block 880,050</span> </td><td class=\"sum " ∷
    codes "p0\" data-of=\"A\"><i class=\"gone\" data-at=\"0:open 5:gone\">108,000</i> </td><td></td><td></td><td>" ∷
    codes "</td></tr>\n" ∷
    codes "</tbody><tbody><tr class=\"head\"><th></th><th>the run</th><th class=\"name p0\">A</th><th class=\"name " ∷
    codes "p1\">B</th><th>contract</th><th>fees</th></tr>\n" ∷
    codes "<tr class=\"ev start\" id=\"start\" data-first=\"0\" data-money=\"150000 10000 0 0 0\" " ∷
    codes "data-said=\"before the run, height 0\"><td class=\"path\"><bdi></bdi></td><td class=\"what\" " ∷
    codes "title=\"\">the deposits</td><td class=\"sum p0\" data-of=\"A\">150,000</td><td class=\"sum p1\" " ∷
    codes "data-of=\"B\">10,000</td><td class=\"sum\" data-of=\"contract\">0</td><td class=\"sum\" " ∷
    codes "data-of=\"fees\">0</td></tr>\n" ∷
    codes "<tr class=\"ev blocks\" id=\"event-1\" data-first=\"1\" data-money=\"150000 10000 0 0 0\" " ∷
    codes "data-said=\"event 1 of 13, height 880,000\"><td class=\"path\"><bdi>1</bdi></td><td class=\"what\" " ∷
    codes "title=\"mine 880000\n" ∷
    codes "done\">880,000 blocks <span class=\"note\">height 880,000</span></td><td></td><td></td><td></td><td>" ∷
    codes "</td></tr>\n" ∷
    codes "<tr class=\"ev accepted\" id=\"event-2\" data-first=\"2\" data-money=\"50000 0 109000 0 1000\" " ∷
    codes "data-said=\"event 2-9 of 13, height 880,000\"><td class=\"path\"><bdi>2-9</bdi></td><td class=\"what\" " ∷
    codes "title=\"advertise 0 x=#0 y=#1 z=#2\n" ∷
    codes "done\n" ∷
    codes "commit 0 A\n" ∷
    codes "done\n" ∷
    codes "commit 0 B\n" ∷
    codes "done\n" ∷
    codes "endorse 0 A\n" ∷
    codes "done\n" ∷
    codes "endorse 0 B\n" ∷
    codes "done\n" ∷
    codes "init 0 A\n" ∷
    codes "done\n" ∷
    codes "init 0 B\n" ∷
    codes "done\n" ∷
    codes "fire init 0\n" ∷
    codes "accepted spends #0 #1 makes #3 109000 lock 0\">advertise, commit, endorse, init, fire init</td><td " ∷
    codes "class=\"sum p0\" data-of=\"A\">50,000</td><td class=\"sum p1\" data-of=\"B\">0</td><td class=\"sum\" " ∷
    codes "data-of=\"contract\">109,000</td><td class=\"sum\" data-of=\"fees\">1,000</td></tr>\n" ∷
    codes "<tr class=\"ev refused\" id=\"event-10\" data-first=\"10\" data-money=\"50000 0 109000 0 1000\" " ∷
    codes "data-said=\"event 10 of 13, height 880,000\"><td class=\"path\"><bdi>10</bdi></td><td class=\"what\" " ∷
    codes "title=\"fire #3 0\n" ∷
    codes "refused SecretUnknown a\">fire r.0 <em>refused, SecretUnknown a: a secret is not shown</em></td><td>" ∷
    codes "</td><td></td><td></td><td></td></tr>\n" ∷
    codes "<tr class=\"ev done\" id=\"event-11\" data-first=\"11\" data-money=\"50000 0 109000 0 1000\" " ∷
    codes "data-said=\"event 11 of 13, height 880,000\"><td class=\"path\"><bdi>11</bdi></td><td class=\"what\" " ∷
    codes "title=\"reveal 0 A a\n" ∷
    codes "done\">A shows a</td><td class=\"sum p0\" data-of=\"A\"><span class=\"dot\" title=\"acts\"></span></td><td></td><td>" ∷
    codes "</td><td></td></tr>\n" ∷
    codes "<tr class=\"ev accepted\" id=\"event-12\" data-first=\"12\" data-money=\"0 0 158000 0 2000\" " ∷
    codes "data-said=\"event 12 of 13, height 880,000\"><td class=\"path\"><bdi>12</bdi></td><td class=\"what\" " ∷
    codes "title=\"fire #3 0\n" ∷
    codes "accepted spends #3 #2 makes #4 158000 lock 0\">fire r.0</td><td class=\"sum p0\" data-of=\"A\">0</td>" ∷
    codes "<td></td><td class=\"sum\" data-of=\"contract\">158,000</td><td class=\"sum\" " ∷
    codes "data-of=\"fees\">2,000</td></tr>\n" ∷
    codes "<tr class=\"ev accepted\" id=\"event-13\" data-first=\"13\" data-money=\"0 157000 0 0 3000\" " ∷
    codes "data-said=\"event 13 of 13, height 880,000\"><td class=\"path\"><bdi>13</bdi></td><td class=\"what\" " ∷
    codes "title=\"fire #4 0\n" ∷
    codes "accepted spends #4 makes #5 157000 lock 0\">fire r.0.0</td><td></td><td class=\"sum p1\" " ∷
    codes "data-of=\"B\">157,000</td><td class=\"sum\" data-of=\"contract\">0</td><td class=\"sum\" " ∷
    codes "data-of=\"fees\">3,000</td></tr>\n" ∷
    codes "<tr class=\"total\"><td></td><td class=\"what\">at the end</td><td class=\"sum p0\" data-of=\"A\">0</td>" ∷
    codes "<td class=\"sum p1\" data-of=\"B\">157,000</td><td class=\"sum\" data-of=\"contract\">0</td><td " ∷
    codes "class=\"sum\" data-of=\"fees\">3,000</td></tr>\n" ∷
    codes "</tbody></table></div>\n" ∷
    codes "<details><summary>the contract's text</summary><pre>{A:! 100000 @ x | B:! 10000 @ y | A:? 50000 @ z | " ∷
    codes "A: secret a} fee 1000 (put z &amp; reveal a . withdraw B + after 880050 : withdraw A)</pre></details>\n" ∷
    codes "<script>" ∷
    [])

-- behind the script
abbrev after_script : List ℕ
after_script =
    pieces (
    codes "</script>\n" ∷
    codes "</body>\n" ∷
    codes "</html>\n" ∷
    [])

whole_page : page_text (codes "put") setup played
    ≡ before_style ++ (style_text ++ (before_table ++ (table ++ (script_text ++ after_script))))
unfolding digits label_text stripped marked compact places_list sequences_list outputs_list preimage position_script script_meaning
    ops_of number_of_item signed_bytes item_of_number attribute_text style_text script_text contract_elements run_elements outlook_part
    bar_part slider_part table_part text_part head_part body_part page_of page_text
whole_page = refl

-- ---- a deposit that is gone

-- the party that was to put it in has given it away: its branch never comes, so nobody is waited for
abbrev given_away : List Event
given_away =
    events.Advertise 0 ((codes "x", 0) ∷ (codes "y", 1) ∷ (codes "z", 2) ∷ [])
    ∷ events.Commit 0 (codes "A") []
    ∷ events.Commit 0 (codes "B") []
    ∷ events.Endorse 0 (codes "A")
    ∷ events.Endorse 0 (codes "B")
    ∷ events.Init 0 (codes "A")
    ∷ events.Init 0 (codes "B")
    ∷ events.FireInit 0
    ∷ events.Give (codes "A") (2 ∷ []) ((codes "A", 49000) ∷ [])
    ∷ []

outlooks_without : map {B = List ℕ} (λ st. st.row.outlook) (stops setup given_away)
    ≡ codes "advertise; waits for A, B" ∷ codes "A shows a; waits for A" ∷ codes "A shows a" ∷ []
unfolding digits label_text stripped marked compact places_list sequences_list outputs_list preimage position_script script_meaning
    ops_of number_of_item signed_bytes item_of_number
outlooks_without = refl

-- so it is shown: the initial transaction, the branch, its deposit and its secret, what it pays, the other branch, its height, what it pays
looks_without : map {B = List Status} (λ st. st.row.looks) (stops setup given_away)
    ≡ (Open ∷ Open ∷ Open ∷ Open ∷ Open ∷ Open ∷ Open ∷ Open ∷ [])
    ∷ (Taken ∷ Open ∷ Met ∷ Open ∷ Open ∷ Open ∷ Open ∷ Open ∷ [])
    ∷ (Taken ∷ Open ∷ Gone ∷ Open ∷ Open ∷ Open ∷ Open ∷ Open ∷ [])
    ∷ []
unfolding digits label_text stripped marked compact places_list sequences_list outputs_list preimage position_script script_meaning
    ops_of number_of_item signed_bytes item_of_number
looks_without = refl
