-- The whole page of a run that a guess halts, as it was written by a second program, apart from these definitions.
use Rattle.std.proofs.Common.{◌≡◌, ℕ, List, [], ◌∷◌, ◌++◌, refl}
use Rattle.std.specs.Prelude.{codes}
use Rattle.std.specs.Fmt.{digits}
use Rattle.spec_terms.specs.Term.{always, after, put_reveal}
use Rattle.spec_terms.specs.Term.{withdraw, no_branch, branch}
use Rattle.spec_terms.specs.Advert.{Advert}
use Rattle.spec_terms.specs.declared.pre.Pre.TheVariants.{Persistent, Secret}
use Rattle.spec_bitcoin.specs.Keys.{label_text}
use Rattle.spec_bitcoin.specs.Digests.{places_list, sequences_list, outputs_list, preimage}
use Rattle.spec_bitcoin.specs.Spelling.{stripped, marked, compact}
use Rattle.spec_bitcoin.specs.Meaning.{script_meaning}
use Rattle.spec_bitcoin.specs.Numbers.{number_of_item, signed_bytes, item_of_number}
use Rattle.spec_bitcoin.specs.Scripts.{ops_of}
use Rattle.spec_compiler.specs.Keyed.Instance.{position_script}
use Rattle.spec_run.specs.declared.event.Event.{Event}
use Rattle.spec_run.specs.declared.event.Event.TheVariants as events
use Rattle.spec_run.specs.Setup.{Setup}
use Rattle.spec_tool.proofs.HashVectors.{small_hash}
use Rattle.spec_page.specs.Html.{attribute_text}
use Rattle.spec_page.specs.Style.{style_text}
use Rattle.spec_page.specs.Script.{script_text}
use Rattle.spec_page.specs.ContractPart.{contract_elements}
use Rattle.spec_page.specs.RunPart.{run_elements}
use Rattle.spec_page.specs.Page.{outlook_part, bar_part, slider_part, table_part, text_part, head_part, body_part, page_of, page_text}
use Rattle.spec_page.proofs.Escrow.{pieces}

abbrev contract_0 : Advert
contract_0 = record {
  pre = Persistent (codes "A") 1 (codes "x") ∷ Persistent (codes "B") 0 (codes "y") ∷ Secret (codes "A") (codes "a") ∷ [];
  fee = 0;
  root = (branch (put_reveal ([]) (codes "a" ∷ []) always (branch (withdraw (codes "A")) no_branch)) (branch (after 100 (withdraw (codes "B"))) no_branch));
}

abbrev setup : Setup
setup = record {
  hash = small_hash;
  header = record {
    parties = codes "A" ∷ codes "B" ∷ [];
    honest = codes "A" ∷ [];
    secrets = record { party = codes "A"; name = codes "a"; bytes = (99 ∷ 111 ∷ 114 ∷ 114 ∷ 101 ∷ 99 ∷ 116 ∷ 32 ∷ 104 ∷ 111 ∷ 114 ∷ 115 ∷ 101 ∷ 32 ∷ 98 ∷ 97 ∷ 116 ∷ 116 ∷ 101 ∷ 114 ∷ 121 ∷ 32 ∷ 115 ∷ 116 ∷ 97 ∷ 112 ∷ 108 ∷ 101 ∷ []) } ∷ [];
    deposits = (codes "A", 1) ∷ (codes "B", 0) ∷ (codes "B", 5) ∷ [];
  };
  contracts = contract_0 ∷ [];
}

abbrev played : List Event
played =
    events.Advertise 0 ((codes "x", 0) ∷ (codes "y", 1) ∷ []) ∷
    events.Commit 0 (codes "A") [] ∷
    events.Commit 0 (codes "B") [] ∷
    events.Endorse 0 (codes "A") ∷
    events.Endorse 0 (codes "B") ∷
    events.Init 0 (codes "A") ∷
    events.Init 0 (codes "B") ∷
    events.FireInit 0 ∷
    events.Post (99 ∷ 111 ∷ 114 ∷ 114 ∷ 101 ∷ 99 ∷ 116 ∷ 32 ∷ 104 ∷ 111 ∷ 114 ∷ 115 ∷ 101 ∷ 32 ∷ 98 ∷ 97 ∷ 116 ∷ 116 ∷ 101 ∷ 114 ∷ 121 ∷ 32
    ∷ 115 ∷ 116 ∷ 97 ∷ 98 ∷ 108 ∷ 101 ∷ []) ∷
    events.Post (99 ∷ 111 ∷ 114 ∷ 114 ∷ 101 ∷ 99 ∷ 116 ∷ 32 ∷ 104 ∷ 111 ∷ 114 ∷ 115 ∷ 101 ∷ 32 ∷ 98 ∷ 97 ∷ 116 ∷ 116 ∷ 101 ∷ 114 ∷ 121 ∷ 32
    ∷ 115 ∷ 116 ∷ 97 ∷ 112 ∷ 108 ∷ 101 ∷ []) ∷
    []

-- before the style
abbrev before_style : List ℕ
before_style =
    pieces (
    codes "<!doctype html>\n" ∷
    codes "<html lang=\"en\"><head><meta charset=\"utf-8\">\n" ∷
    codes "<meta name=\"viewport\" content=\"width=device-width,initial-scale=1\">\n" ∷
    codes "<meta http-equiv=\"Content-Security-Policy\" content=\"default-src 'none';style-src " ∷
    codes "'unsafe-inline';script-src 'sha256-YSnz3cepIaNsEgDAZDGUHftFt71mf1FVI8IVEsoNAK8=';base-uri " ∷
    codes "'none';form-action 'none'\">\n" ∷
    codes "<title>guessed</title>\n" ∷
    codes "<style>" ∷
    [])

-- from there to the table
abbrev before_table : List ℕ
before_table =
    pieces (
    codes "</style>\n" ∷
    codes "</head>\n" ∷
    codes "<body><h1>guessed<small>6 satoshi in deposits</small></h1>\n" ∷
    codes "<div class=\"bar\" title=\"where the money is\"><div class=\"p0\" title=\"A\" style=\"flex-grow:0\"><span>A</span>" ∷
    codes "</div><div class=\"p1\" title=\"B\" style=\"flex-grow:5\"><span>B</span></div><div class=\"in\" " ∷
    codes "title=\"contract\" style=\"flex-grow:1\"><span>contract</span></div><div class=\"out\" title=\"elsewhere\" style=\"flex-grow:0\">" ∷
    codes "<span>elsewhere</span></div><div class=\"fee\" title=\"fees\" style=\"flex-grow:0\"><span>fees</span></div></div>\n" ∷
    codes "<div class=\"ctl\"><input type=\"range\" id=\"range\" min=\"0\" max=\"3\" value=\"3\" " ∷
    codes "aria-label=\"event\"><output id=\"said\"></output></div>\n" ∷
    codes "<div class=\"now\"><b>can now:</b> <p class=\"off\" data-at=\"0:on 1:off\">advertise; waits for A, " ∷
    codes "B</p>\n" ∷
    codes "<p class=\"off\" data-at=\"0:off 1:on 3:off\">A shows a; waits for A</p>\n" ∷
    codes "<p class=\"on\" data-at=\"0:off 3:on\">nothing, the run is halted</p>\n" ∷
    codes "</div>\n" ∷
    codes "<div class=\"scroll\">" ∷
    [])

-- the rows
abbrev table : List ℕ
table =
    pieces (
    codes "<table class=\"few\"><tbody><tr class=\"head\"><th></th><th>the contract</th><th class=\"name " ∷
    codes "p0\">A</th><th class=\"name p1\">B</th><th></th><th></th></tr>\n" ∷
    codes "<tr class=\"way d0 taken\" data-at=\"0:open 1:taken\"><td class=\"path\"><bdi>init</bdi></td><td " ∷
    codes "class=\"what\">all sign; each puts in</td><td class=\"sum p0\" data-of=\"A\"><i class=\"taken\" " ∷
    codes "data-at=\"0:open 1:taken\">1</i> </td><td class=\"sum p1\" data-of=\"B\"><i class=\"taken\" " ∷
    codes "data-at=\"0:open 1:taken\">0</i> </td><td></td><td></td></tr>\n" ∷
    codes "<tr class=\"fork d0\"><td></td><td class=\"what\"><b>one of</b></td><td></td><td></td><td></td><td></td>" ∷
    codes "</tr>\n" ∷
    codes "<tr class=\"way d1 open\" data-at=\"0:open\"><td class=\"path\"><bdi>r.0</bdi></td><td class=\"what\">" ∷
    codes "<span class=\"chip open\" data-at=\"0:open\">A shows a</span> </td><td class=\"sum p0\" data-of=\"A\">" ∷
    codes "<i class=\"open\" data-at=\"0:open\">1</i> </td><td></td><td></td><td></td></tr>\n" ∷
    codes "<tr class=\"way d1 open\" data-at=\"0:open\"><td class=\"path\"><bdi>r.1</bdi></td><td class=\"what\">" ∷
    codes "<span class=\"chip open\" data-at=\"0:open\">block 100</span> </td><td></td><td class=\"sum p1\" " ∷
    codes "data-of=\"B\"><i class=\"open\" data-at=\"0:open\">1</i> </td><td></td><td></td></tr>\n" ∷
    codes "</tbody><tbody><tr class=\"head\"><th></th><th>the run</th><th class=\"name p0\">A</th><th class=\"name " ∷
    codes "p1\">B</th><th>contract</th><th>fees</th></tr>\n" ∷
    codes "<tr class=\"ev start\" id=\"start\" data-first=\"0\" data-money=\"1 5 0 0 0\" data-said=\"before the " ∷
    codes "run, height 0\"><td class=\"path\"><bdi></bdi></td><td class=\"what\" title=\"\">the deposits</td><td " ∷
    codes "class=\"sum p0\" data-of=\"A\">1</td><td class=\"sum p1\" data-of=\"B\">5</td><td class=\"sum\" " ∷
    codes "data-of=\"contract\">0</td><td class=\"sum\" data-of=\"fees\">0</td></tr>\n" ∷
    codes "<tr class=\"ev accepted\" id=\"event-1\" data-first=\"1\" data-money=\"0 5 1 0 0\" data-said=\"event " ∷
    codes "1-8 of 10, height 0\"><td class=\"path\"><bdi>1-8</bdi></td><td class=\"what\" title=\"advertise 0 x=#0 " ∷
    codes "y=#1\n" ∷
    codes "done\n" ∷
    codes "commit 0 A\n" ∷
    codes "done\n" ∷
    codes "commit 0 B\n" ∷
    codes "done\n" ∷
    codes "endorse 0 A\n" ∷
    codes "done\n" ∷
    codes "endorse 0 B\n" ∷
    codes "done\n" ∷
    codes "init 0 A\n" ∷
    codes "done\n" ∷
    codes "init 0 B\n" ∷
    codes "done\n" ∷
    codes "fire init 0\n" ∷
    codes "accepted spends #0 #1 makes #3 1 lock 0\">advertise, commit, endorse, init, fire init</td><td " ∷
    codes "class=\"sum p0\" data-of=\"A\">0</td><td></td><td class=\"sum\" data-of=\"contract\">1</td><td></td>" ∷
    codes "</tr>\n" ∷
    codes "<tr class=\"ev done\" id=\"event-9\" data-first=\"9\" data-money=\"0 5 1 0 0\" data-said=\"event 9 of " ∷
    codes "10, height 0\"><td class=\"path\"><bdi>9</bdi></td><td class=\"what\" title=\"post " ∷
    codes "636f727265637420686f727365206261747465727920737461626c65\n" ∷
    codes "done\">post 28 bytes</td><td></td><td></td><td></td><td></td></tr>\n" ∷
    codes "<tr class=\"ev halt\" id=\"halt\" data-first=\"10\" data-money=\"0 5 1 0 0\" data-said=\"the halt, " ∷
    codes "height 0\"><td class=\"path\"><bdi></bdi></td><td class=\"what\" title=\"post " ∷
    codes "636f727265637420686f727365206261747465727920737461706c65\">post 28 bytes <em>guesses secret a of A</em>" ∷
    codes "</td><td></td><td></td><td></td><td></td></tr>\n" ∷
    codes "<tr class=\"total\"><td></td><td class=\"what\">at the end</td><td class=\"sum p0\" data-of=\"A\">0</td>" ∷
    codes "<td class=\"sum p1\" data-of=\"B\">5</td><td class=\"sum\" data-of=\"contract\">1</td><td class=\"sum\" " ∷
    codes "data-of=\"fees\">0</td></tr>\n" ∷
    codes "</tbody></table></div>\n" ∷
    codes "<details><summary>the contract's text</summary><pre>{A:! 1 @ x | B:! 0 @ y | A: secret a} (reveal a . " ∷
    codes "withdraw A + after 100 : withdraw B)</pre></details>\n" ∷
    codes "<script>" ∷
    [])

-- behind the script
abbrev after_script : List ℕ
after_script =
    pieces (
    codes "</script>\n" ∷
    codes "</body>\n" ∷
    codes "</html>\n" ∷
    [])

whole_page : page_text (codes "guessed") setup played
    ≡ before_style ++ (style_text ++ (before_table ++ (table ++ (script_text ++ after_script))))
unfolding digits label_text stripped marked compact places_list sequences_list outputs_list preimage position_script script_meaning
    ops_of number_of_item signed_bytes item_of_number attribute_text style_text script_text contract_elements run_elements outlook_part
    bar_part slider_part table_part text_part head_part body_part page_of page_text
whole_page = refl
