-- The whole page of the run of an escrow, as it was written by a second program, apart from these definitions.
use Rattle.std.proofs.Common.{◌≡◌, ℕ, List, [], ◌∷◌, ◌++◌, refl}
use Rattle.std.specs.Prelude.{codes}
use Rattle.std.specs.Fmt.{digits}
use Rattle.spec_bitcoin.specs.Keys.{label_text}
use Rattle.spec_bitcoin.specs.Digests.{places_list, sequences_list, outputs_list, preimage}
use Rattle.spec_bitcoin.specs.Spelling.{stripped, marked, compact}
use Rattle.spec_bitcoin.specs.Meaning.{script_meaning}
use Rattle.spec_bitcoin.specs.Numbers.{number_of_item, signed_bytes, item_of_number}
use Rattle.spec_bitcoin.specs.Scripts.{ops_of}
use Rattle.spec_compiler.specs.Keyed.Instance.{position_script}
use Rattle.spec_page.specs.Html.{attribute_text}
use Rattle.spec_page.specs.Style.{style_text}
use Rattle.spec_page.specs.Script.{script_text}
use Rattle.spec_page.specs.ContractPart.{contract_elements}
use Rattle.spec_page.specs.RunPart.{run_elements}
use Rattle.spec_page.specs.Page.{outlook_part, bar_part, slider_part, table_part, text_part, head_part, body_part, page_of, page_text}
use Rattle.spec_page.specs.Page.{sheet_table, sheet_body, sheet_page, contract_text}
use Rattle.spec_page.proofs.Escrow.{pieces, escrow, setup, mediated}

-- before the style
abbrev before_style : List ℕ
before_style =
    pieces (
    codes "<!doctype html>\n" ∷
    codes "<html lang=\"en\"><head><meta charset=\"utf-8\">\n" ∷
    codes "<meta name=\"viewport\" content=\"width=device-width,initial-scale=1\">\n" ∷
    codes "<meta http-equiv=\"Content-Security-Policy\" content=\"default-src 'none';style-src " ∷
    codes "'unsafe-inline';script-src 'sha256-YSnz3cepIaNsEgDAZDGUHftFt71mf1FVI8IVEsoNAK8=';base-uri " ∷
    codes "'none';form-action 'none'\">\n" ∷
    codes "<title>escrow</title>\n" ∷
    codes "<style>" ∷
    [])

-- from there to the table: the bar, the slider, and what can be done
abbrev before_table : List ℕ
before_table =
    pieces (
    codes "</style>\n" ∷
    codes "</head>\n" ∷
    codes "<body><h1>escrow<small>100 satoshi in deposits</small></h1>\n" ∷
    codes "<div class=\"bar\" title=\"where the money is\"><div class=\"p0\" title=\"Buyer\" style=\"flex-grow:97\">" ∷
    codes "<span>Buyer</span></div><div class=\"p1\" title=\"Seller\" style=\"flex-grow:0\"><span>Seller</span></div><div " ∷
    codes "class=\"p2\" title=\"Mediator\" style=\"flex-grow:3\"><span>Mediator</span></div><div class=\"in\" title=\"contract\" style=\"flex-grow:0\">" ∷
    codes "<span>contract</span></div><div class=\"out\" title=\"elsewhere\" style=\"flex-grow:0\"><span>elsewhere</span></div><div " ∷
    codes "class=\"fee\" title=\"fees\" style=\"flex-grow:0\"><span>fees</span></div></div>\n" ∷
    codes "<div class=\"ctl\"><input type=\"range\" id=\"range\" min=\"0\" max=\"8\" value=\"8\" " ∷
    codes "aria-label=\"event\"><output id=\"said\"></output></div>\n" ∷
    codes "<div class=\"now\"><b>can now:</b> <p class=\"off\" data-at=\"0:on 1:off\">advertise; waits for Buyer, " ∷
    codes "Seller, Mediator</p>\n" ∷
    codes "<p class=\"off\" data-at=\"0:off 1:on 3:off\">Buyer agrees to r.0, Seller agrees to r.1, Mediator " ∷
    codes "agrees to r.2; waits for Buyer, Seller, Mediator</p>\n" ∷
    codes "<p class=\"off\" data-at=\"0:off 3:on 4:off\">Buyer agrees to r.0, Seller agrees to r.1, fire r.2; " ∷
    codes "waits for Buyer, Seller</p>\n" ∷
    codes "<p class=\"off\" data-at=\"0:off 4:on 5:off\">fire r.2/0.0, Mediator agrees to r.2/1.0, Mediator agrees " ∷
    codes "to r.2/1.1; waits for Mediator</p>\n" ∷
    codes "<p class=\"off\" data-at=\"0:off 5:on 6:off\">Mediator agrees to r.2/1.0, Mediator agrees to r.2/1.1; " ∷
    codes "waits for Mediator</p>\n" ∷
    codes "<p class=\"off\" data-at=\"0:off 6:on 8:off\">Mediator agrees to r.2/1.0, fire r.2/1.1; waits for " ∷
    codes "Mediator</p>\n" ∷
    codes "<p class=\"on\" data-at=\"0:off 8:on\">nothing</p>\n" ∷
    codes "</div>\n" ∷
    codes "<div class=\"scroll\">" ∷
    [])

-- the rows of the contract
abbrev contract_rows : List ℕ
contract_rows =
    pieces (
    codes "<table class=\"few\"><tbody><tr class=\"head\"><th></th><th>the contract</th><th class=\"name " ∷
    codes "p0\">Buyer</th><th class=\"name p1\">Seller</th><th class=\"name p2\">Mediator</th><th></th><th></th>" ∷
    codes "</tr>\n" ∷
    codes "<tr class=\"way d0 taken\" data-at=\"0:open 1:taken\"><td class=\"path\"><bdi>init</bdi></td><td " ∷
    codes "class=\"what\">all sign; each puts in</td><td class=\"sum p0\" data-of=\"Buyer\"><i class=\"taken\" " ∷
    codes "data-at=\"0:open 1:taken\">100</i> </td><td class=\"sum p1\" data-of=\"Seller\"><i class=\"taken\" " ∷
    codes "data-at=\"0:open 1:taken\">0</i> </td><td class=\"sum p2\" data-of=\"Mediator\"><i class=\"taken\" " ∷
    codes "data-at=\"0:open 1:taken\">0</i> </td><td></td><td></td></tr>\n" ∷
    codes "<tr class=\"fork d0\"><td></td><td class=\"what\"><b>one of</b></td><td></td><td></td><td></td><td></td>" ∷
    codes "<td></td></tr>\n" ∷
    codes "<tr class=\"way d1 gone\" data-at=\"0:open 4:gone\"><td class=\"path\"><bdi>r.0</bdi></td><td " ∷
    codes "class=\"what\"><span class=\"chip open\" data-at=\"0:open\">Buyer agrees</span> </td><td></td><td " ∷
    codes "class=\"sum p1\" data-of=\"Seller\"><i class=\"gone\" data-at=\"0:open 4:gone\">100</i> </td><td></td>" ∷
    codes "<td></td><td></td></tr>\n" ∷
    codes "<tr class=\"way d1 gone\" data-at=\"0:open 4:gone\"><td class=\"path\"><bdi>r.1</bdi></td><td " ∷
    codes "class=\"what\"><span class=\"chip open\" data-at=\"0:open\">Seller agrees</span> </td><td class=\"sum " ∷
    codes "p0\" data-of=\"Buyer\"><i class=\"gone\" data-at=\"0:open 4:gone\">100</i> </td><td></td><td></td><td>" ∷
    codes "</td><td></td></tr>\n" ∷
    codes "<tr class=\"way d1 taken\" data-at=\"0:open 3:offered 4:taken\"><td class=\"path\"><bdi>r.2</bdi></td>" ∷
    codes "<td class=\"what\"><span class=\"chip met\" data-at=\"0:open 3:met\">Mediator agrees</span> <span " ∷
    codes "class=\"chip met\" data-at=\"0:open 2:met\">block 1,000</span> </td><td></td><td></td><td class=\"sum " ∷
    codes "p2\" data-of=\"Mediator\"><i class=\"taken\" data-at=\"0:open 4:offered 5:taken\">3</i> </td><td></td>" ∷
    codes "<td></td></tr>\n" ∷
    codes "<tr class=\"fork d2\"><td></td><td class=\"what\"><span class=\"part\">97: </span><b>one of</b></td><td>" ∷
    codes "</td><td></td><td></td><td></td><td></td></tr>\n" ∷
    codes "<tr class=\"way d3 gone\" data-at=\"0:open 8:gone\"><td class=\"path\"><bdi>r.2/1.0</bdi></td><td " ∷
    codes "class=\"what\"><span class=\"chip open\" data-at=\"0:open\">Mediator agrees</span> </td><td></td><td " ∷
    codes "class=\"sum p1\" data-of=\"Seller\"><i class=\"gone\" data-at=\"0:open 8:gone\">97</i> </td><td></td>" ∷
    codes "<td></td><td></td></tr>\n" ∷
    codes "<tr class=\"way d3 taken\" data-at=\"0:open 6:offered 8:taken\"><td class=\"path\"><bdi>r.2/1.1</bdi>" ∷
    codes "</td><td class=\"what\"><span class=\"chip met\" data-at=\"0:open 6:met\">Mediator agrees</span> </td>" ∷
    codes "<td class=\"sum p0\" data-of=\"Buyer\"><i class=\"taken\" data-at=\"0:open 6:offered 8:taken\">97</i> " ∷
    codes "</td><td></td><td></td><td></td><td></td></tr>\n" ∷
    codes "</tbody>" ∷
    [])

-- the rows of the run, and what is behind them
abbrev run_rows : List ℕ
run_rows =
    pieces (
    codes "<tbody><tr class=\"head\"><th></th><th>the run</th><th class=\"name p0\">Buyer</th><th class=\"name " ∷
    codes "p1\">Seller</th><th class=\"name p2\">Mediator</th><th>contract</th><th>fees</th></tr>\n" ∷
    codes "<tr class=\"ev start\" id=\"start\" data-first=\"0\" data-money=\"100 0 0 0 0 0\" data-said=\"before " ∷
    codes "the run, height 0\"><td class=\"path\"><bdi></bdi></td><td class=\"what\" title=\"\">the deposits</td>" ∷
    codes "<td class=\"sum p0\" data-of=\"Buyer\">100</td><td class=\"sum p1\" data-of=\"Seller\">0</td><td " ∷
    codes "class=\"sum p2\" data-of=\"Mediator\">0</td><td class=\"sum\" data-of=\"contract\">0</td><td " ∷
    codes "class=\"sum\" data-of=\"fees\">0</td></tr>\n" ∷
    codes "<tr class=\"ev accepted\" id=\"event-1\" data-first=\"1\" data-money=\"0 0 0 100 0 0\" " ∷
    codes "data-said=\"event 1-11 of 18, height 0\"><td class=\"path\"><bdi>1-11</bdi></td><td class=\"what\" " ∷
    codes "title=\"advertise 0 price=#0 s=#1 m=#2\n" ∷
    codes "done\n" ∷
    codes "commit 0 Buyer\n" ∷
    codes "done\n" ∷
    codes "commit 0 Seller\n" ∷
    codes "done\n" ∷
    codes "commit 0 Mediator\n" ∷
    codes "done\n" ∷
    codes "endorse 0 Buyer\n" ∷
    codes "done\n" ∷
    codes "endorse 0 Seller\n" ∷
    codes "done\n" ∷
    codes "endorse 0 Mediator\n" ∷
    codes "done\n" ∷
    codes "init 0 Buyer\n" ∷
    codes "done\n" ∷
    codes "init 0 Seller\n" ∷
    codes "done\n" ∷
    codes "init 0 Mediator\n" ∷
    codes "done\n" ∷
    codes "fire init 0\n" ∷
    codes "accepted spends #0 #1 #2 makes #3 100 lock 0\">advertise, commit, endorse, init, fire init</td><td " ∷
    codes "class=\"sum p0\" data-of=\"Buyer\">0</td><td></td><td></td><td class=\"sum\" " ∷
    codes "data-of=\"contract\">100</td><td></td></tr>\n" ∷
    codes "<tr class=\"ev blocks\" id=\"event-12\" data-first=\"12\" data-money=\"0 0 0 100 0 0\" " ∷
    codes "data-said=\"event 12 of 18, height 1,000\"><td class=\"path\"><bdi>12</bdi></td><td class=\"what\" " ∷
    codes "title=\"mine 1000\n" ∷
    codes "done\">1,000 blocks <span class=\"note\">height 1,000</span></td><td></td><td></td><td></td><td></td>" ∷
    codes "<td></td></tr>\n" ∷
    codes "<tr class=\"ev done\" id=\"event-13\" data-first=\"13\" data-money=\"0 0 0 100 0 0\" data-said=\"event " ∷
    codes "13 of 18, height 1,000\"><td class=\"path\"><bdi>13</bdi></td><td class=\"what\" title=\"authorise " ∷
    codes "Mediator #3 2\n" ∷
    codes "done\">Mediator agrees to r.2</td><td></td><td></td><td class=\"sum p2\" data-of=\"Mediator\"><span " ∷
    codes "class=\"dot\" title=\"acts\"></span></td><td></td><td></td></tr>\n" ∷
    codes "<tr class=\"ev accepted\" id=\"event-14\" data-first=\"14\" data-money=\"0 0 0 100 0 0\" " ∷
    codes "data-said=\"event 14 of 18, height 1,000\"><td class=\"path\"><bdi>14</bdi></td><td class=\"what\" " ∷
    codes "title=\"fire #3 2\n" ∷
    codes "accepted spends #3 makes #4 3 #5 97 lock 1000\">fire r.2</td><td></td><td></td><td></td><td></td><td>" ∷
    codes "</td></tr>\n" ∷
    codes "<tr class=\"ev accepted\" id=\"event-15\" data-first=\"15\" data-money=\"0 0 3 97 0 0\" " ∷
    codes "data-said=\"event 15 of 18, height 1,000\"><td class=\"path\"><bdi>15</bdi></td><td class=\"what\" " ∷
    codes "title=\"fire #4 0\n" ∷
    codes "accepted spends #4 makes #6 3 lock 0\">fire r.2/0.0</td><td></td><td></td><td class=\"sum p2\" " ∷
    codes "data-of=\"Mediator\">3</td><td class=\"sum\" data-of=\"contract\">97</td><td></td></tr>\n" ∷
    codes "<tr class=\"ev done\" id=\"event-16\" data-first=\"16\" data-money=\"0 0 3 97 0 0\" data-said=\"event " ∷
    codes "16 of 18, height 1,000\"><td class=\"path\"><bdi>16</bdi></td><td class=\"what\" title=\"authorise " ∷
    codes "Mediator #5 1\n" ∷
    codes "done\">Mediator agrees to r.2/1.1</td><td></td><td></td><td class=\"sum p2\" data-of=\"Mediator\"><span " ∷
    codes "class=\"dot\" title=\"acts\"></span></td><td></td><td></td></tr>\n" ∷
    codes "<tr class=\"ev refused\" id=\"event-17\" data-first=\"17\" data-money=\"0 0 3 97 0 0\" " ∷
    codes "data-said=\"event 17 of 18, height 1,000\"><td class=\"path\"><bdi>17</bdi></td><td class=\"what\" " ∷
    codes "title=\"fire #5 0\n" ∷
    codes "refused ScriptFalse 0\">fire r.2/1.0 <em>refused, ScriptFalse 0: a signature or a secret is missing</em>" ∷
    codes "</td><td></td><td></td><td></td><td></td><td></td></tr>\n" ∷
    codes "<tr class=\"ev accepted\" id=\"event-18\" data-first=\"18\" data-money=\"97 0 3 0 0 0\" " ∷
    codes "data-said=\"event 18 of 18, height 1,000\"><td class=\"path\"><bdi>18</bdi></td><td class=\"what\" " ∷
    codes "title=\"fire #5 1\n" ∷
    codes "accepted spends #5 makes #7 97 lock 0\">fire r.2/1.1</td><td class=\"sum p0\" data-of=\"Buyer\">97</td>" ∷
    codes "<td></td><td></td><td class=\"sum\" data-of=\"contract\">0</td><td></td></tr>\n" ∷
    codes "<tr class=\"total\"><td></td><td class=\"what\">at the end</td><td class=\"sum p0\" " ∷
    codes "data-of=\"Buyer\">97</td><td class=\"sum p1\" data-of=\"Seller\">0</td><td class=\"sum p2\" " ∷
    codes "data-of=\"Mediator\">3</td><td class=\"sum\" data-of=\"contract\">0</td><td class=\"sum\" " ∷
    codes "data-of=\"fees\">0</td></tr>\n" ∷
    codes "</tbody></table></div>\n" ∷
    codes "<details><summary>the contract's text</summary><pre>{Buyer:! 100 @ price | Seller:! 0 @ s | Mediator:! " ∷
    codes "0 @ m} (Buyer : withdraw Seller + Seller : withdraw Buyer + after 1000 : Mediator : split [3 -&gt; " ∷
    codes "withdraw Mediator, 97 -&gt; (Mediator : withdraw Seller + Mediator : withdraw Buyer)])</pre></details>\n" ∷
    codes "<script>" ∷
    [])

-- behind the script
abbrev after_script : List ℕ
after_script =
    pieces (
    codes "</script>\n" ∷
    codes "</body>\n" ∷
    codes "</html>\n" ∷
    [])

page_of_escrow : page_text (codes "escrow") setup mediated
    ≡ before_style ++ (style_text ++ (before_table ++ (contract_rows ++ (run_rows ++ (script_text ++ after_script)))))
unfolding digits label_text stripped marked compact places_list sequences_list outputs_list preimage position_script script_meaning
    ops_of number_of_item signed_bytes item_of_number attribute_text style_text script_text contract_elements run_elements outlook_part
    bar_part slider_part table_part text_part head_part body_part page_of page_text
page_of_escrow = refl

-- ---- the contract alone

-- behind the style
abbrev alone_behind_style : List ℕ
alone_behind_style =
    pieces (
    codes "</style>\n" ∷
    codes "</head>\n" ∷
    codes "<body><h1>escrow</h1>\n" ∷
    codes "<div class=\"scroll\"><table class=\"few\"><tbody><tr class=\"head\"><th></th><th>the contract</th><th " ∷
    codes "class=\"name p0\">Buyer</th><th class=\"name p1\">Seller</th><th class=\"name p2\">Mediator</th><th></th><th>" ∷
    codes "</th></tr>\n" ∷
    codes "<tr class=\"way d0 open\" data-at=\"\"><td class=\"path\"><bdi>init</bdi></td><td class=\"what\">all sign; each " ∷
    codes "puts in</td><td class=\"sum p0\" data-of=\"Buyer\"><i class=\"open\" data-at=\"\">100</i> </td><td class=\"sum " ∷
    codes "p1\" data-of=\"Seller\"><i class=\"open\" data-at=\"\">0</i> </td><td class=\"sum p2\" data-of=\"Mediator\"><i " ∷
    codes "class=\"open\" data-at=\"\">0</i> </td><td></td><td></td></tr>\n" ∷
    codes "<tr class=\"fork d0\"><td></td><td class=\"what\"><b>one of</b></td><td></td><td></td><td></td><td></td><td>" ∷
    codes "</td></tr>\n" ∷
    codes "<tr class=\"way d1 open\" data-at=\"\"><td class=\"path\"><bdi>r.0</bdi></td><td class=\"what\"><span " ∷
    codes "class=\"chip open\" data-at=\"\">Buyer agrees</span> </td><td></td><td class=\"sum p1\" data-of=\"Seller\"><i " ∷
    codes "class=\"open\" data-at=\"\">100</i> </td><td></td><td></td><td></td></tr>\n" ∷
    codes "<tr class=\"way d1 open\" data-at=\"\"><td class=\"path\"><bdi>r.1</bdi></td><td class=\"what\"><span " ∷
    codes "class=\"chip open\" data-at=\"\">Seller agrees</span> </td><td class=\"sum p0\" data-of=\"Buyer\"><i " ∷
    codes "class=\"open\" data-at=\"\">100</i> </td><td></td><td></td><td></td><td></td></tr>\n" ∷
    codes "<tr class=\"way d1 open\" data-at=\"\"><td class=\"path\"><bdi>r.2</bdi></td><td class=\"what\"><span " ∷
    codes "class=\"chip open\" data-at=\"\">Mediator agrees</span> <span class=\"chip open\" data-at=\"\">block " ∷
    codes "1,000</span> </td><td></td><td></td><td class=\"sum p2\" data-of=\"Mediator\"><i class=\"open\" data-at=\"\">" ∷
    codes "3</i> </td><td></td><td></td></tr>\n" ∷
    codes "<tr class=\"fork d2\"><td></td><td class=\"what\"><span class=\"part\">97: </span><b>one of</b></td><td></td>" ∷
    codes "<td></td><td></td><td></td><td></td></tr>\n" ∷
    codes "<tr class=\"way d3 open\" data-at=\"\"><td class=\"path\"><bdi>r.2/1.0</bdi></td><td class=\"what\"><span " ∷
    codes "class=\"chip open\" data-at=\"\">Mediator agrees</span> </td><td></td><td class=\"sum p1\" data-of=\"Seller\">" ∷
    codes "<i class=\"open\" data-at=\"\">97</i> </td><td></td><td></td><td></td></tr>\n" ∷
    codes "<tr class=\"way d3 open\" data-at=\"\"><td class=\"path\"><bdi>r.2/1.1</bdi></td><td class=\"what\"><span " ∷
    codes "class=\"chip open\" data-at=\"\">Mediator agrees</span> </td><td class=\"sum p0\" data-of=\"Buyer\"><i " ∷
    codes "class=\"open\" data-at=\"\">97</i> </td><td></td><td></td><td></td><td></td></tr>\n" ∷
    codes "</tbody></table></div>\n" ∷
    codes "<details><summary>the contract's text</summary><pre>{Buyer:! 100 @ price | Seller:! 0 @ s | Mediator:! " ∷
    codes "0 @ m} (Buyer : withdraw Seller + Seller : withdraw Buyer + after 1000 : Mediator : split [3 -&gt; " ∷
    codes "withdraw Mediator, 97 -&gt; (Mediator : withdraw Seller + Mediator : withdraw Buyer)])</pre></details>\n" ∷
    codes "</body>\n" ∷
    codes "</html>\n" ∷
    [])

contract_alone : contract_text (codes "escrow") escrow ≡ before_style ++ (style_text ++ alone_behind_style)
unfolding digits attribute_text style_text contract_elements text_part head_part sheet_table sheet_body sheet_page contract_text
contract_alone = refl
