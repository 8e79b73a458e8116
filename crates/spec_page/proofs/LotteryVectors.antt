-- The whole page of a lottery of two, as it was written by a second program, apart from these definitions.
use Rattle.std.proofs.Common.{◌≡◌, ℕ, List, [], ◌∷◌, ◌++◌, refl}
use Rattle.std.specs.Prelude.{codes}
use Rattle.std.specs.Fmt.{digits}
use Rattle.spec_terms.specs.Term.{constant, length_of, always, negation, equal, less, after, put_reveal}
use Rattle.spec_terms.specs.Term.{withdraw, split, no_branch, branch, no_part, part}
use Rattle.spec_terms.specs.Advert.{Advert}
use Rattle.spec_terms.specs.declared.pre.Pre.TheVariants.{Persistent, Secret}
use Rattle.spec_bitcoin.specs.Keys.{label_text}
use Rattle.spec_bitcoin.specs.Digests.{places_list, sequences_list, outputs_list, preimage}
use Rattle.spec_bitcoin.specs.Spelling.{stripped, marked, compact}
use Rattle.spec_bitcoin.specs.Meaning.{script_meaning}
use Rattle.spec_bitcoin.specs.Numbers.{number_of_item, signed_bytes, item_of_number}
use Rattle.spec_bitcoin.specs.Scripts.{ops_of}
use Rattle.spec_compiler.specs.Keyed.Instance.{position_script}
use Rattle.spec_run.specs.declared.event.Event.{Event}
use Rattle.spec_run.specs.declared.event.Event.TheVariants as events
use Rattle.spec_run.specs.Setup.{Setup}
use Rattle.spec_tool.proofs.HashVectors.{small_hash}
use Rattle.spec_page.specs.Html.{attribute_text}
use Rattle.spec_page.specs.Style.{style_text}
use Rattle.spec_page.specs.Script.{script_text}
use Rattle.spec_page.specs.ContractPart.{contract_elements}
use Rattle.spec_page.specs.RunPart.{run_elements}
use Rattle.spec_page.specs.Page.{outlook_part, bar_part, slider_part, table_part, text_part, head_part, body_part, page_of, page_text}
use Rattle.spec_page.proofs.Escrow.{pieces}

abbrev contract_0 : Advert
contract_0 = record {
  pre = Persistent (codes "A") 300000 (codes "x") ∷ Persistent (codes "B") 300000 (codes "y") ∷ Secret (codes "A") (codes "a") ∷ Secret (codes "B") (codes "b") ∷ [];
  fee = 1000;
  root = (branch (split (part 200000 (branch (put_reveal ([]) (codes "b" ∷ []) (less (length_of (codes "b")) (constant 2)) (branch (withdraw (codes "B")) no_branch)) (branch (after 881000 (withdraw (codes "A"))) no_branch)) (part 200000 (branch (put_reveal ([]) (codes "a" ∷ []) always (branch (withdraw (codes "A")) no_branch)) (branch (after 881000 (withdraw (codes "B"))) no_branch)) (part 198000 (branch (put_reveal ([]) (codes "a" ∷ codes "b" ∷ []) (equal (length_of (codes "a")) (length_of (codes "b"))) (branch (withdraw (codes "A")) no_branch)) (branch (put_reveal ([]) (codes "a" ∷ codes "b" ∷ []) (negation (equal (length_of (codes "a")) (length_of (codes "b")))) (branch (withdraw (codes "B")) no_branch)) no_branch)) no_part)))) no_branch);
}

abbrev setup : Setup
setup = record {
  hash = small_hash;
  header = record {
    parties = codes "A" ∷ codes "B" ∷ [];
    honest = codes "A" ∷ codes "B" ∷ [];
    secrets = record { party = codes "A"; name = codes "a"; bytes = (115 ∷ 105 ∷ 120 ∷ 116 ∷ 101 ∷ 101 ∷ 110 ∷ 32 ∷ 108 ∷ 101 ∷ 116 ∷ 116 ∷ 101 ∷ 114 ∷ 115 ∷ 46 ∷ []) } ∷ record { party = codes "B"; name = codes "b"; bytes = (108 ∷ 101 ∷ 116 ∷ 116 ∷ 101 ∷ 114 ∷ 115 ∷ 58 ∷ 32 ∷ 115 ∷ 105 ∷ 120 ∷ 116 ∷ 101 ∷ 101 ∷ 110 ∷ []) } ∷ [];
    deposits = (codes "A", 300000) ∷ (codes "B", 300000) ∷ [];
  };
  contracts = contract_0 ∷ [];
}

abbrev played : List Event
played =
    events.Mine 880000 ∷
    events.Advertise 0 ((codes "x", 0) ∷ (codes "y", 1) ∷ []) ∷
    events.Commit 0 (codes "A") [] ∷
    events.Commit 0 (codes "B") [] ∷
    events.Endorse 0 (codes "A") ∷
    events.Endorse 0 (codes "B") ∷
    events.Init 0 (codes "A") ∷
    events.Init 0 (codes "B") ∷
    events.FireInit 0 ∷
    events.Fire 2 0 ∷
    events.Reveal 0 (codes "A") (codes "a") ∷
    events.Fire 4 0 ∷
    events.Fire 6 0 ∷
    events.Fire 5 0 ∷
    events.Mine 1000 ∷
    events.Fire 3 1 ∷
    []

-- before the style
abbrev before_style : List ℕ
before_style =
    pieces (
    codes "<!doctype html>\n" ∷
    codes "<html lang=\"en\"><head><meta charset=\"utf-8\">\n" ∷
    codes "<meta name=\"viewport\" content=\"width=device-width,initial-scale=1\">\n" ∷
    codes "<meta http-equiv=\"Content-Security-Policy\" content=\"default-src 'none';style-src " ∷
    codes "'unsafe-inline';script-src 'sha256-YSnz3cepIaNsEgDAZDGUHftFt71mf1FVI8IVEsoNAK8=';base-uri " ∷
    codes "'none';form-action 'none'\">\n" ∷
    codes "<title>lottery</title>\n" ∷
    codes "<style>" ∷
    [])

-- from there to the table
abbrev before_table : List ℕ
before_table =
    pieces (
    codes "</style>\n" ∷
    codes "</head>\n" ∷
    codes "<body><h1>lottery<small>600,000 satoshi in deposits</small></h1>\n" ∷
    codes "<div class=\"bar\" title=\"where the money is\"><div class=\"p0\" title=\"A\" style=\"flex-grow:397000\">" ∷
    codes "<span>A</span></div><div class=\"p1\" title=\"B\" style=\"flex-grow:0\"><span>B</span></div><div class=\"in\" " ∷
    codes "title=\"contract\" style=\"flex-grow:198000\"><span>contract</span></div><div class=\"out\" title=\"elsewhere\" style=\"flex-grow:0\">" ∷
    codes "<span>elsewhere</span></div><div class=\"fee\" title=\"fees\" style=\"flex-grow:5000\"><span>fees</span></div></div>\n" ∷
    codes "<div class=\"ctl\"><input type=\"range\" id=\"range\" min=\"0\" max=\"9\" value=\"9\" " ∷
    codes "aria-label=\"event\"><output id=\"said\"></output></div>\n" ∷
    codes "<div class=\"now\"><b>can now:</b> <p class=\"off\" data-at=\"0:on 2:off\">advertise; waits for A, " ∷
    codes "B</p>\n" ∷
    codes "<p class=\"off\" data-at=\"0:off 2:on 3:off\">A shows a, B shows b, fire r.0</p>\n" ∷
    codes "<p class=\"off\" data-at=\"0:off 3:on 4:off\">A shows a, B shows b; waits for A, B</p>\n" ∷
    codes "<p class=\"off\" data-at=\"0:off 4:on 5:off\">B shows b, fire r.0/1.0; waits for B</p>\n" ∷
    codes "<p class=\"off\" data-at=\"0:off 5:on 6:off\">B shows b, fire r.0/1.0.0; waits for B</p>\n" ∷
    codes "<p class=\"off\" data-at=\"0:off 6:on 8:off\">B shows b; waits for B</p>\n" ∷
    codes "<p class=\"off\" data-at=\"0:off 8:on 9:off\">B shows b, fire r.0/0.1; waits for B</p>\n" ∷
    codes "<p class=\"on\" data-at=\"0:off 9:on\">B shows b; waits for B</p>\n" ∷
    codes "</div>\n" ∷
    codes "<div class=\"scroll\">" ∷
    [])

-- the rows
abbrev table : List ℕ
table =
    pieces (
    codes "<table class=\"few\"><tbody><tr class=\"head\"><th></th><th>the contract, fee 1,000 a transaction</th>" ∷
    codes "<th class=\"name p0\">A</th><th class=\"name p1\">B</th><th></th><th></th></tr>\n" ∷
    codes "<tr class=\"way d0 taken\" data-at=\"0:open 2:taken\"><td class=\"path\"><bdi>init</bdi></td><td " ∷
    codes "class=\"what\">all sign; each puts in</td><td class=\"sum p0\" data-of=\"A\"><i class=\"taken\" " ∷
    codes "data-at=\"0:open 2:taken\">300,000</i> </td><td class=\"sum p1\" data-of=\"B\"><i class=\"taken\" " ∷
    codes "data-at=\"0:open 2:taken\">300,000</i> </td><td></td><td></td></tr>\n" ∷
    codes "<tr class=\"way d0 taken\" data-at=\"0:open 2:offered 3:taken\"><td class=\"path\"><bdi>r.0</bdi></td>" ∷
    codes "<td class=\"what\"><span class=\"any\">anyone</span></td><td></td><td></td><td></td><td></td></tr>\n" ∷
    codes "<tr class=\"fork d1\"><td></td><td class=\"what\"><span class=\"part\">200,000: </span><b>one of</b>" ∷
    codes "</td><td></td><td></td><td></td><td></td></tr>\n" ∷
    codes "<tr class=\"way d2 gone\" data-at=\"0:open 9:gone\"><td class=\"path\"><bdi>r.0/0.0</bdi></td><td " ∷
    codes "class=\"what\"><span class=\"chip open\" data-at=\"0:open\">B shows b</span> <span class=\"chip open\" " ∷
    codes "data-at=\"0:open\">if |b| &lt; 2</span> </td><td></td><td class=\"sum p1\" data-of=\"B\"><i " ∷
    codes "class=\"gone\" data-at=\"0:open 9:gone\">198,000</i> </td><td></td><td></td></tr>\n" ∷
    codes "<tr class=\"way d2 taken\" data-at=\"0:open 8:offered 9:taken\"><td class=\"path\"><bdi>r.0/0.1</bdi>" ∷
    codes "</td><td class=\"what\"><span class=\"chip met\" data-at=\"0:open 8:met\">block 881,000</span> </td><td " ∷
    codes "class=\"sum p0\" data-of=\"A\"><i class=\"taken\" data-at=\"0:open 8:offered 9:taken\">199,000</i> </td>" ∷
    codes "<td></td><td></td><td></td></tr>\n" ∷
    codes "<tr class=\"fork d1\"><td></td><td class=\"what\"><span class=\"part\">200,000: </span><b>one of</b>" ∷
    codes "</td><td></td><td></td><td></td><td></td></tr>\n" ∷
    codes "<tr class=\"way d2 taken\" data-at=\"0:open 4:offered 5:taken\"><td class=\"path\"><bdi>r.0/1.0</bdi>" ∷
    codes "</td><td class=\"what\"><span class=\"chip met\" data-at=\"0:open 4:met\">A shows a</span> </td><td " ∷
    codes "class=\"sum p0\" data-of=\"A\"><i class=\"taken\" data-at=\"0:open 5:offered 6:taken\">198,000</i> </td>" ∷
    codes "<td></td><td></td><td></td></tr>\n" ∷
    codes "<tr class=\"way d2 gone\" data-at=\"0:open 5:gone\"><td class=\"path\"><bdi>r.0/1.1</bdi></td><td " ∷
    codes "class=\"what\"><span class=\"chip met\" data-at=\"0:open 8:met\">block 881,000</span> </td><td></td><td " ∷
    codes "class=\"sum p1\" data-of=\"B\"><i class=\"gone\" data-at=\"0:open 5:gone\">199,000</i> </td><td></td>" ∷
    codes "<td></td></tr>\n" ∷
    codes "<tr class=\"fork d1\"><td></td><td class=\"what\"><span class=\"part\">198,000: </span><b>one of</b>" ∷
    codes "</td><td></td><td></td><td></td><td></td></tr>\n" ∷
    codes "<tr class=\"way d2 open\" data-at=\"0:open\"><td class=\"path\"><bdi>r.0/2.0</bdi></td><td " ∷
    codes "class=\"what\"><span class=\"chip met\" data-at=\"0:open 4:met\">A shows a</span> <span class=\"chip " ∷
    codes "open\" data-at=\"0:open\">B shows b</span> <span class=\"chip open\" data-at=\"0:open\">if |a| = " ∷
    codes "|b|</span> </td><td class=\"sum p0\" data-of=\"A\"><i class=\"open\" data-at=\"0:open\">196,000</i> " ∷
    codes "</td><td></td><td></td><td></td></tr>\n" ∷
    codes "<tr class=\"way d2 open\" data-at=\"0:open\"><td class=\"path\"><bdi>r.0/2.1</bdi></td><td " ∷
    codes "class=\"what\"><span class=\"chip met\" data-at=\"0:open 4:met\">A shows a</span> <span class=\"chip " ∷
    codes "open\" data-at=\"0:open\">B shows b</span> <span class=\"chip open\" data-at=\"0:open\">if not |a| = " ∷
    codes "|b|</span> </td><td></td><td class=\"sum p1\" data-of=\"B\"><i class=\"open\" " ∷
    codes "data-at=\"0:open\">196,000</i> </td><td></td><td></td></tr>\n" ∷
    codes "</tbody><tbody><tr class=\"head\"><th></th><th>the run</th><th class=\"name p0\">A</th><th class=\"name " ∷
    codes "p1\">B</th><th>contract</th><th>fees</th></tr>\n" ∷
    codes "<tr class=\"ev start\" id=\"start\" data-first=\"0\" data-money=\"300000 300000 0 0 0\" " ∷
    codes "data-said=\"before the run, height 0\"><td class=\"path\"><bdi></bdi></td><td class=\"what\" " ∷
    codes "title=\"\">the deposits</td><td class=\"sum p0\" data-of=\"A\">300,000</td><td class=\"sum p1\" " ∷
    codes "data-of=\"B\">300,000</td><td class=\"sum\" data-of=\"contract\">0</td><td class=\"sum\" " ∷
    codes "data-of=\"fees\">0</td></tr>\n" ∷
    codes "<tr class=\"ev blocks\" id=\"event-1\" data-first=\"1\" data-money=\"300000 300000 0 0 0\" " ∷
    codes "data-said=\"event 1 of 16, height 880,000\"><td class=\"path\"><bdi>1</bdi></td><td class=\"what\" " ∷
    codes "title=\"mine 880000\n" ∷
    codes "done\">880,000 blocks <span class=\"note\">height 880,000</span></td><td></td><td></td><td></td><td>" ∷
    codes "</td></tr>\n" ∷
    codes "<tr class=\"ev accepted\" id=\"event-2\" data-first=\"2\" data-money=\"0 0 599000 0 1000\" " ∷
    codes "data-said=\"event 2-9 of 16, height 880,000\"><td class=\"path\"><bdi>2-9</bdi></td><td class=\"what\" " ∷
    codes "title=\"advertise 0 x=#0 y=#1\n" ∷
    codes "done\n" ∷
    codes "commit 0 A\n" ∷
    codes "done\n" ∷
    codes "commit 0 B\n" ∷
    codes "done\n" ∷
    codes "endorse 0 A\n" ∷
    codes "done\n" ∷
    codes "endorse 0 B\n" ∷
    codes "done\n" ∷
    codes "init 0 A\n" ∷
    codes "done\n" ∷
    codes "init 0 B\n" ∷
    codes "done\n" ∷
    codes "fire init 0\n" ∷
    codes "accepted spends #0 #1 makes #2 599000 lock 0\">advertise, commit, endorse, init, fire init</td><td " ∷
    codes "class=\"sum p0\" data-of=\"A\">0</td><td class=\"sum p1\" data-of=\"B\">0</td><td class=\"sum\" " ∷
    codes "data-of=\"contract\">599,000</td><td class=\"sum\" data-of=\"fees\">1,000</td></tr>\n" ∷
    codes "<tr class=\"ev accepted\" id=\"event-10\" data-first=\"10\" data-money=\"0 0 598000 0 2000\" " ∷
    codes "data-said=\"event 10 of 16, height 880,000\"><td class=\"path\"><bdi>10</bdi></td><td class=\"what\" " ∷
    codes "title=\"fire #2 0\n" ∷
    codes "accepted spends #2 makes #3 200000 #4 200000 #5 198000 lock 0\">fire r.0</td><td></td><td></td><td " ∷
    codes "class=\"sum\" data-of=\"contract\">598,000</td><td class=\"sum\" data-of=\"fees\">2,000</td></tr>\n" ∷
    codes "<tr class=\"ev done\" id=\"event-11\" data-first=\"11\" data-money=\"0 0 598000 0 2000\" " ∷
    codes "data-said=\"event 11 of 16, height 880,000\"><td class=\"path\"><bdi>11</bdi></td><td class=\"what\" " ∷
    codes "title=\"reveal 0 A a\n" ∷
    codes "done\">A shows a</td><td class=\"sum p0\" data-of=\"A\"><span class=\"dot\" title=\"acts\"></span></td><td></td><td>" ∷
    codes "</td><td></td></tr>\n" ∷
    codes "<tr class=\"ev accepted\" id=\"event-12\" data-first=\"12\" data-money=\"0 0 597000 0 3000\" " ∷
    codes "data-said=\"event 12 of 16, height 880,000\"><td class=\"path\"><bdi>12</bdi></td><td class=\"what\" " ∷
    codes "title=\"fire #4 0\n" ∷
    codes "accepted spends #4 makes #6 199000 lock 0\">fire r.0/1.0</td><td></td><td></td><td class=\"sum\" " ∷
    codes "data-of=\"contract\">597,000</td><td class=\"sum\" data-of=\"fees\">3,000</td></tr>\n" ∷
    codes "<tr class=\"ev accepted\" id=\"event-13\" data-first=\"13\" data-money=\"198000 0 398000 0 4000\" " ∷
    codes "data-said=\"event 13 of 16, height 880,000\"><td class=\"path\"><bdi>13</bdi></td><td class=\"what\" " ∷
    codes "title=\"fire #6 0\n" ∷
    codes "accepted spends #6 makes #7 198000 lock 0\">fire r.0/1.0.0</td><td class=\"sum p0\" " ∷
    codes "data-of=\"A\">198,000</td><td></td><td class=\"sum\" data-of=\"contract\">398,000</td><td class=\"sum\" " ∷
    codes "data-of=\"fees\">4,000</td></tr>\n" ∷
    codes "<tr class=\"ev refused\" id=\"event-14\" data-first=\"14\" data-money=\"198000 0 398000 0 4000\" " ∷
    codes "data-said=\"event 14 of 16, height 880,000\"><td class=\"path\"><bdi>14</bdi></td><td class=\"what\" " ∷
    codes "title=\"fire #5 0\n" ∷
    codes "refused SecretUnknown b\">fire r.0/2.0 <em>refused, SecretUnknown b: a secret is not shown</em></td><td>" ∷
    codes "</td><td></td><td></td><td></td></tr>\n" ∷
    codes "<tr class=\"ev blocks\" id=\"event-15\" data-first=\"15\" data-money=\"198000 0 398000 0 4000\" " ∷
    codes "data-said=\"event 15 of 16, height 881,000\"><td class=\"path\"><bdi>15</bdi></td><td class=\"what\" " ∷
    codes "title=\"mine 1000\n" ∷
    codes "done\">1,000 blocks <span class=\"note\">height 881,000</span></td><td></td><td></td><td></td><td></td>" ∷
    codes "</tr>\n" ∷
    codes "<tr class=\"ev accepted\" id=\"event-16\" data-first=\"16\" data-money=\"397000 0 198000 0 5000\" " ∷
    codes "data-said=\"event 16 of 16, height 881,000\"><td class=\"path\"><bdi>16</bdi></td><td class=\"what\" " ∷
    codes "title=\"fire #3 1\n" ∷
    codes "accepted spends #3 makes #8 199000 lock 881000\">fire r.0/0.1</td><td class=\"sum p0\" " ∷
    codes "data-of=\"A\">397,000</td><td></td><td class=\"sum\" data-of=\"contract\">198,000</td><td class=\"sum\" " ∷
    codes "data-of=\"fees\">5,000</td></tr>\n" ∷
    codes "<tr class=\"total\"><td></td><td class=\"what\">at the end</td><td class=\"sum p0\" " ∷
    codes "data-of=\"A\">397,000</td><td class=\"sum p1\" data-of=\"B\">0</td><td class=\"sum\" " ∷
    codes "data-of=\"contract\">198,000</td><td class=\"sum\" data-of=\"fees\">5,000</td></tr>\n" ∷
    codes "</tbody></table></div>\n" ∷
    codes "<details><summary>the contract's text</summary><pre>{A:! 300000 @ x | B:! 300000 @ y | A: secret a | B: " ∷
    codes "secret b} fee 1000 split [200000 -&gt; (reveal b if |b| &lt; 2 . withdraw B + after 881000 : withdraw " ∷
    codes "A), 200000 -&gt; (reveal a . withdraw A + after 881000 : withdraw B), 198000 -&gt; (reveal a, b if |a| " ∷
    codes "= |b| . withdraw A + reveal a, b if not |a| = |b| . withdraw B)]</pre></details>\n" ∷
    codes "<script>" ∷
    [])

-- behind the script
abbrev after_script : List ℕ
after_script =
    pieces (
    codes "</script>\n" ∷
    codes "</body>\n" ∷
    codes "</html>\n" ∷
    [])

whole_page : page_text (codes "lottery") setup played
    ≡ before_style ++ (style_text ++ (before_table ++ (table ++ (script_text ++ after_script))))
unfolding digits label_text stripped marked compact places_list sequences_list outputs_list preimage position_script script_meaning
    ops_of number_of_item signed_bytes item_of_number attribute_text style_text script_text contract_elements run_elements outlook_part
    bar_part slider_part table_part text_part head_part body_part page_of page_text
whole_page = refl
