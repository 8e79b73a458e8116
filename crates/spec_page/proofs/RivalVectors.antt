-- The whole page of a run of two contracts for one deposit, as it was written by a second program, apart from these definitions.
use Rattle.std.proofs.Common.{◌≡◌, ℕ, List, [], ◌∷◌, ◌++◌, refl}
use Rattle.std.specs.Prelude.{codes}
use Rattle.std.specs.Fmt.{digits}
use Rattle.spec_terms.specs.Term.{withdraw, split, no_branch, branch, no_part, part}
use Rattle.spec_terms.specs.Advert.{Advert}
use Rattle.spec_terms.specs.declared.pre.Pre.TheVariants.{Persistent}
use Rattle.spec_bitcoin.specs.Keys.{label_text}
use Rattle.spec_bitcoin.specs.Digests.{places_list, sequences_list, outputs_list, preimage}
use Rattle.spec_bitcoin.specs.Spelling.{stripped, marked, compact}
use Rattle.spec_bitcoin.specs.Meaning.{script_meaning}
use Rattle.spec_bitcoin.specs.Numbers.{number_of_item, signed_bytes, item_of_number}
use Rattle.spec_bitcoin.specs.Scripts.{ops_of}
use Rattle.spec_compiler.specs.Keyed.Instance.{position_script}
use Rattle.spec_run.specs.declared.event.Event.{Event}
use Rattle.spec_run.specs.declared.event.Event.TheVariants as events
use Rattle.spec_run.specs.Setup.{Setup}
use Rattle.spec_tool.proofs.HashVectors.{small_hash}
use Rattle.spec_page.specs.Html.{attribute_text}
use Rattle.spec_page.specs.Style.{style_text}
use Rattle.spec_page.specs.Script.{script_text}
use Rattle.spec_page.specs.ContractPart.{contract_elements}
use Rattle.spec_page.specs.RunPart.{run_elements}
use Rattle.spec_page.specs.Page.{outlook_part, bar_part, slider_part, table_part, text_part, head_part, body_part, page_of, page_text}
use Rattle.spec_page.proofs.Escrow.{pieces}

abbrev contract_0 : Advert
contract_0 = record {
  pre = Persistent (codes "Seller") 1000000 (codes "goods") ∷ Persistent (codes "Ann") 700000 (codes "price") ∷ [];
  fee = 1000;
  root = (branch (split (part 699000 (branch (withdraw (codes "Seller")) no_branch) (part 999000 (branch (withdraw (codes "Ann")) no_branch) no_part))) no_branch);
}

abbrev contract_1 : Advert
contract_1 = record {
  pre = Persistent (codes "Seller") 1000000 (codes "goods") ∷ Persistent (codes "Bob") 800000 (codes "price") ∷ [];
  fee = 1000;
  root = (branch (split (part 799000 (branch (withdraw (codes "Seller")) no_branch) (part 999000 (branch (withdraw (codes "Bob")) no_branch) no_part))) no_branch);
}

abbrev setup : Setup
setup = record {
  hash = small_hash;
  header = record {
    parties = codes "Seller" ∷ codes "Ann" ∷ codes "Bob" ∷ [];
    honest = codes "Ann" ∷ codes "Bob" ∷ [];
    secrets = [];
    deposits = (codes "Seller", 1000000) ∷ (codes "Ann", 700000) ∷ (codes "Bob", 800000) ∷ [];
  };
  contracts = contract_0 ∷ contract_1 ∷ [];
}

abbrev played : List Event
played =
    events.Mine 880000 ∷
    events.Advertise 0 ((codes "goods", 0) ∷ (codes "price", 1) ∷ []) ∷
    events.Commit 0 (codes "Seller") [] ∷
    events.Commit 0 (codes "Ann") [] ∷
    events.Endorse 0 (codes "Seller") ∷
    events.Endorse 0 (codes "Ann") ∷
    events.Init 0 (codes "Seller") ∷
    events.Init 0 (codes "Ann") ∷
    events.Advertise 1 ((codes "goods", 0) ∷ (codes "price", 2) ∷ []) ∷
    events.Commit 1 (codes "Seller") [] ∷
    events.Commit 1 (codes "Bob") [] ∷
    events.Endorse 1 (codes "Seller") ∷
    events.Endorse 1 (codes "Bob") ∷
    events.Init 1 (codes "Seller") ∷
    events.Init 1 (codes "Bob") ∷
    events.FireInit 0 ∷
    events.FireInit 1 ∷
    events.Give (codes "Bob") (2 ∷ []) ((codes "Bob", 799000) ∷ []) ∷
    events.Fire 3 0 ∷
    events.Fire 5 0 ∷
    events.Fire 6 0 ∷
    []

-- before the style
abbrev before_style : List ℕ
before_style =
    pieces (
    codes "<!doctype html>\n" ∷
    codes "<html lang=\"en\"><head><meta charset=\"utf-8\">\n" ∷
    codes "<meta name=\"viewport\" content=\"width=device-width,initial-scale=1\">\n" ∷
    codes "<meta http-equiv=\"Content-Security-Policy\" content=\"default-src 'none';style-src " ∷
    codes "'unsafe-inline';script-src 'sha256-YSnz3cepIaNsEgDAZDGUHftFt71mf1FVI8IVEsoNAK8=';base-uri " ∷
    codes "'none';form-action 'none'\">\n" ∷
    codes "<title>rivals</title>\n" ∷
    codes "<style>" ∷
    [])

-- from there to the table
abbrev before_table : List ℕ
before_table =
    pieces (
    codes "</style>\n" ∷
    codes "</head>\n" ∷
    codes "<body><h1>rivals<small>2,500,000 satoshi in deposits</small></h1>\n" ∷
    codes "<div class=\"bar\" title=\"where the money is\"><div class=\"p0\" title=\"Seller\" style=\"flex-grow:698000\">" ∷
    codes "<span>Seller</span></div><div class=\"p1\" title=\"Ann\" style=\"flex-grow:998000\"><span>Ann</span></div><div " ∷
    codes "class=\"p2\" title=\"Bob\" style=\"flex-grow:799000\"><span>Bob</span></div><div class=\"in\" title=\"contract\" style=\"flex-grow:0\">" ∷
    codes "<span>contract</span></div><div class=\"out\" title=\"elsewhere\" style=\"flex-grow:0\"><span>elsewhere</span></div><div " ∷
    codes "class=\"fee\" title=\"fees\" style=\"flex-grow:5000\"><span>fees</span></div></div>\n" ∷
    codes "<div class=\"ctl\"><input type=\"range\" id=\"range\" min=\"0\" max=\"9\" value=\"9\" " ∷
    codes "aria-label=\"event\"><output id=\"said\"></output></div>\n" ∷
    codes "<div class=\"now\"><b>can now:</b> <p class=\"off\" data-at=\"0:on 2:off\">0:advertise, 1:advertise; " ∷
    codes "waits for Seller, Ann, Bob</p>\n" ∷
    codes "<p class=\"off\" data-at=\"0:off 2:on 3:off\">fire 0:init, 1:advertise; waits for Seller, Bob</p>\n" ∷
    codes "<p class=\"off\" data-at=\"0:off 3:on 4:off\">fire 0:init, fire 1:init</p>\n" ∷
    codes "<p class=\"off\" data-at=\"0:off 4:on 7:off\">fire 0:r.0</p>\n" ∷
    codes "<p class=\"off\" data-at=\"0:off 7:on 8:off\">fire 0:r.0/0.0, fire 0:r.0/1.0</p>\n" ∷
    codes "<p class=\"off\" data-at=\"0:off 8:on 9:off\">fire 0:r.0/1.0</p>\n" ∷
    codes "<p class=\"on\" data-at=\"0:off 9:on\">nothing</p>\n" ∷
    codes "</div>\n" ∷
    codes "<div class=\"scroll\">" ∷
    [])

-- the rows
abbrev table : List ℕ
table =
    pieces (
    codes "<table class=\"few\"><tbody><tr class=\"head\"><th></th><th>contract 0, fee 1,000 a transaction</th><th " ∷
    codes "class=\"name p0\">Seller</th><th class=\"name p1\">Ann</th><th class=\"name p2\">Bob</th><th></th><th>" ∷
    codes "</th></tr>\n" ∷
    codes "<tr class=\"way d0 taken\" data-at=\"0:open 2:offered 4:taken\"><td class=\"path\"><bdi>0:init</bdi>" ∷
    codes "</td><td class=\"what\">all sign; each puts in</td><td class=\"sum p0\" data-of=\"Seller\"><i " ∷
    codes "class=\"taken\" data-at=\"0:open 2:offered 4:taken\">1,000,000</i> </td><td class=\"sum p1\" " ∷
    codes "data-of=\"Ann\"><i class=\"taken\" data-at=\"0:open 2:offered 4:taken\">700,000</i> </td><td></td><td>" ∷
    codes "</td><td></td></tr>\n" ∷
    codes "<tr class=\"way d0 taken\" data-at=\"0:open 4:offered 7:taken\"><td class=\"path\"><bdi>0:r.0</bdi></td>" ∷
    codes "<td class=\"what\"><span class=\"any\">anyone</span></td><td class=\"sum p0\" data-of=\"Seller\"><i " ∷
    codes "class=\"taken\" data-at=\"0:open 7:offered 8:taken\">698,000</i> </td><td class=\"sum p1\" " ∷
    codes "data-of=\"Ann\"><i class=\"taken\" data-at=\"0:open 7:offered 9:taken\">998,000</i> </td><td></td><td>" ∷
    codes "</td><td></td></tr>\n" ∷
    codes "</tbody><tbody><tr class=\"head\"><th></th><th>contract 1, fee 1,000 a transaction</th><th class=\"name " ∷
    codes "p0\">Seller</th><th class=\"name p1\">Ann</th><th class=\"name p2\">Bob</th><th></th><th></th></tr>\n" ∷
    codes "<tr class=\"way d0 gone\" data-at=\"0:open 3:offered 4:gone\"><td class=\"path\"><bdi>1:init</bdi></td>" ∷
    codes "<td class=\"what\">all sign; each puts in</td><td class=\"sum p0\" data-of=\"Seller\"><i class=\"gone\" " ∷
    codes "data-at=\"0:open 3:offered 4:gone\">1,000,000</i> </td><td></td><td class=\"sum p2\" data-of=\"Bob\"><i " ∷
    codes "class=\"gone\" data-at=\"0:open 3:offered 4:gone\">800,000</i> </td><td></td><td></td></tr>\n" ∷
    codes "<tr class=\"way d0 gone\" data-at=\"0:open 4:gone\"><td class=\"path\"><bdi>1:r.0</bdi></td><td " ∷
    codes "class=\"what\"><span class=\"any\">anyone</span></td><td class=\"sum p0\" data-of=\"Seller\"><i " ∷
    codes "class=\"gone\" data-at=\"0:open 4:gone\">798,000</i> </td><td></td><td class=\"sum p2\" data-of=\"Bob\">" ∷
    codes "<i class=\"gone\" data-at=\"0:open 4:gone\">998,000</i> </td><td></td><td></td></tr>\n" ∷
    codes "</tbody><tbody><tr class=\"head\"><th></th><th>the run</th><th class=\"name p0\">Seller</th><th " ∷
    codes "class=\"name p1\">Ann</th><th class=\"name p2\">Bob</th><th>contract</th><th>fees</th></tr>\n" ∷
    codes "<tr class=\"ev start\" id=\"start\" data-first=\"0\" data-money=\"1000000 700000 800000 0 0 0\" " ∷
    codes "data-said=\"before the run, height 0\"><td class=\"path\"><bdi></bdi></td><td class=\"what\" " ∷
    codes "title=\"\">the deposits</td><td class=\"sum p0\" data-of=\"Seller\">1,000,000</td><td class=\"sum p1\" " ∷
    codes "data-of=\"Ann\">700,000</td><td class=\"sum p2\" data-of=\"Bob\">800,000</td><td class=\"sum\" " ∷
    codes "data-of=\"contract\">0</td><td class=\"sum\" data-of=\"fees\">0</td></tr>\n" ∷
    codes "<tr class=\"ev blocks\" id=\"event-1\" data-first=\"1\" data-money=\"1000000 700000 800000 0 0 0\" " ∷
    codes "data-said=\"event 1 of 21, height 880,000\"><td class=\"path\"><bdi>1</bdi></td><td class=\"what\" " ∷
    codes "title=\"mine 880000\n" ∷
    codes "done\">880,000 blocks <span class=\"note\">height 880,000</span></td><td></td><td></td><td></td><td>" ∷
    codes "</td><td></td></tr>\n" ∷
    codes "<tr class=\"ev done\" id=\"event-2\" data-first=\"2\" data-money=\"1000000 700000 800000 0 0 0\" " ∷
    codes "data-said=\"event 2-8 of 21, height 880,000\"><td class=\"path\"><bdi>2-8</bdi></td><td class=\"what\" " ∷
    codes "title=\"advertise 0 goods=#0 price=#1\n" ∷
    codes "done\n" ∷
    codes "commit 0 Seller\n" ∷
    codes "done\n" ∷
    codes "commit 0 Ann\n" ∷
    codes "done\n" ∷
    codes "endorse 0 Seller\n" ∷
    codes "done\n" ∷
    codes "endorse 0 Ann\n" ∷
    codes "done\n" ∷
    codes "init 0 Seller\n" ∷
    codes "done\n" ∷
    codes "init 0 Ann\n" ∷
    codes "done\">0:advertise, commit, endorse, init</td><td></td><td></td><td></td><td></td><td></td></tr>\n" ∷
    codes "<tr class=\"ev done\" id=\"event-9\" data-first=\"9\" data-money=\"1000000 700000 800000 0 0 0\" " ∷
    codes "data-said=\"event 9-15 of 21, height 880,000\"><td class=\"path\"><bdi>9-15</bdi></td><td " ∷
    codes "class=\"what\" title=\"advertise 1 goods=#0 price=#2\n" ∷
    codes "done\n" ∷
    codes "commit 1 Seller\n" ∷
    codes "done\n" ∷
    codes "commit 1 Bob\n" ∷
    codes "done\n" ∷
    codes "endorse 1 Seller\n" ∷
    codes "done\n" ∷
    codes "endorse 1 Bob\n" ∷
    codes "done\n" ∷
    codes "init 1 Seller\n" ∷
    codes "done\n" ∷
    codes "init 1 Bob\n" ∷
    codes "done\">1:advertise, commit, endorse, init</td><td></td><td></td><td></td><td></td><td></td></tr>\n" ∷
    codes "<tr class=\"ev accepted\" id=\"event-16\" data-first=\"16\" data-money=\"0 0 800000 1699000 0 1000\" " ∷
    codes "data-said=\"event 16 of 21, height 880,000\"><td class=\"path\"><bdi>16</bdi></td><td class=\"what\" " ∷
    codes "title=\"fire init 0\n" ∷
    codes "accepted spends #0 #1 makes #3 1699000 lock 0\">fire 0:init</td><td class=\"sum p0\" " ∷
    codes "data-of=\"Seller\">0</td><td class=\"sum p1\" data-of=\"Ann\">0</td><td></td><td class=\"sum\" " ∷
    codes "data-of=\"contract\">1,699,000</td><td class=\"sum\" data-of=\"fees\">1,000</td></tr>\n" ∷
    codes "<tr class=\"ev refused\" id=\"event-17\" data-first=\"17\" data-money=\"0 0 800000 1699000 0 1000\" " ∷
    codes "data-said=\"event 17 of 21, height 880,000\"><td class=\"path\"><bdi>17</bdi></td><td class=\"what\" " ∷
    codes "title=\"fire init 1\n" ∷
    codes "refused MissingInput 0\">fire 1:init <em>refused, MissingInput 0: what it spends is not there</em></td>" ∷
    codes "<td></td><td></td><td></td><td></td><td></td></tr>\n" ∷
    codes "<tr class=\"ev accepted\" id=\"event-18\" data-first=\"18\" data-money=\"0 0 799000 1699000 0 2000\" " ∷
    codes "data-said=\"event 18 of 21, height 880,000\"><td class=\"path\"><bdi>18</bdi></td><td class=\"what\" " ∷
    codes "title=\"give Bob #2 -&gt; Bob 799000\n" ∷
    codes "accepted spends #2 makes #4 799000 lock 0\">Bob gives Bob 799,000</td><td></td><td></td><td class=\"sum " ∷
    codes "p2\" data-of=\"Bob\">799,000<span class=\"dot\" title=\"acts\"></span></td><td></td><td class=\"sum\" " ∷
    codes "data-of=\"fees\">2,000</td></tr>\n" ∷
    codes "<tr class=\"ev accepted\" id=\"event-19\" data-first=\"19\" data-money=\"0 0 799000 1698000 0 3000\" " ∷
    codes "data-said=\"event 19 of 21, height 880,000\"><td class=\"path\"><bdi>19</bdi></td><td class=\"what\" " ∷
    codes "title=\"fire #3 0\n" ∷
    codes "accepted spends #3 makes #5 699000 #6 999000 lock 0\">fire 0:r.0</td><td></td><td></td><td></td><td " ∷
    codes "class=\"sum\" data-of=\"contract\">1,698,000</td><td class=\"sum\" data-of=\"fees\">3,000</td></tr>\n" ∷
    codes "<tr class=\"ev accepted\" id=\"event-20\" data-first=\"20\" data-money=\"698000 0 799000 999000 0 " ∷
    codes "4000\" data-said=\"event 20 of 21, height 880,000\"><td class=\"path\"><bdi>20</bdi></td><td " ∷
    codes "class=\"what\" title=\"fire #5 0\n" ∷
    codes "accepted spends #5 makes #7 698000 lock 0\">fire 0:r.0/0.0</td><td class=\"sum p0\" " ∷
    codes "data-of=\"Seller\">698,000</td><td></td><td></td><td class=\"sum\" data-of=\"contract\">999,000</td><td " ∷
    codes "class=\"sum\" data-of=\"fees\">4,000</td></tr>\n" ∷
    codes "<tr class=\"ev accepted\" id=\"event-21\" data-first=\"21\" data-money=\"698000 998000 799000 0 0 " ∷
    codes "5000\" data-said=\"event 21 of 21, height 880,000\"><td class=\"path\"><bdi>21</bdi></td><td " ∷
    codes "class=\"what\" title=\"fire #6 0\n" ∷
    codes "accepted spends #6 makes #8 998000 lock 0\">fire 0:r.0/1.0</td><td></td><td class=\"sum p1\" " ∷
    codes "data-of=\"Ann\">998,000</td><td></td><td class=\"sum\" data-of=\"contract\">0</td><td class=\"sum\" " ∷
    codes "data-of=\"fees\">5,000</td></tr>\n" ∷
    codes "<tr class=\"total\"><td></td><td class=\"what\">at the end</td><td class=\"sum p0\" " ∷
    codes "data-of=\"Seller\">698,000</td><td class=\"sum p1\" data-of=\"Ann\">998,000</td><td class=\"sum p2\" " ∷
    codes "data-of=\"Bob\">799,000</td><td class=\"sum\" data-of=\"contract\">0</td><td class=\"sum\" " ∷
    codes "data-of=\"fees\">5,000</td></tr>\n" ∷
    codes "</tbody></table></div>\n" ∷
    codes "<details><summary>the contract's text</summary><pre>{Seller:! 1000000 @ goods | Ann:! 700000 @ price} " ∷
    codes "fee 1000 split [699000 -&gt; withdraw Seller, 999000 -&gt; withdraw Ann]\n" ∷
    codes "{Seller:! 1000000 @ goods | Bob:! 800000 @ price} fee 1000 split [799000 -&gt; withdraw Seller, 999000 " ∷
    codes "-&gt; withdraw Bob]</pre></details>\n" ∷
    codes "<script>" ∷
    [])

-- behind the script
abbrev after_script : List ℕ
after_script =
    pieces (
    codes "</script>\n" ∷
    codes "</body>\n" ∷
    codes "</html>\n" ∷
    [])

whole_page : page_text (codes "rivals") setup played
    ≡ before_style ++ (style_text ++ (before_table ++ (table ++ (script_text ++ after_script))))
unfolding digits label_text stripped marked compact places_list sequences_list outputs_list preimage position_script script_meaning
    ops_of number_of_item signed_bytes item_of_number attribute_text style_text script_text contract_elements run_elements outlook_part
    bar_part slider_part table_part text_part head_part body_part page_of page_text
whole_page = refl
