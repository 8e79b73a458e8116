-- The whole SVG of the run of an escrow, as it was written by a second program, apart from these definitions.
use Rattle.std.proofs.Common.{◌≡◌, ℕ, List, [], ◌∷◌, ◌++◌, refl}
use Rattle.std.specs.Prelude.{codes}
use Rattle.std.specs.Fmt.{digits}
use Rattle.spec_bitcoin.specs.Keys.{label_text}
use Rattle.spec_bitcoin.specs.Digests.{places_list, sequences_list, outputs_list, preimage}
use Rattle.spec_bitcoin.specs.Spelling.{stripped, marked, compact}
use Rattle.spec_bitcoin.specs.Meaning.{script_meaning}
use Rattle.spec_bitcoin.specs.Numbers.{number_of_item, signed_bytes, item_of_number}
use Rattle.spec_bitcoin.specs.Scripts.{ops_of}
use Rattle.spec_compiler.specs.Keyed.Instance.{position_script}
use Rattle.spec_page.specs.Html.{attribute_text}
use Rattle.spec_page.specs.SvgStyle.{svg_style}
use Rattle.spec_page.specs.Svg.{svg_of, svg_text}
use Rattle.spec_page.proofs.Escrow.{pieces, setup, mediated}

-- before the style
abbrev svg_before_style : List ℕ
svg_before_style =
    pieces (
    codes "<svg xmlns=\"http://www.w3.org/2000/svg\" viewBox=\"0 0 656 496\" width=\"656\" height=\"496\" role=\"img\">" ∷
    codes "<title>escrow</title>\n" ∷
    codes "<style>" ∷
    [])

-- behind it, as far as the rows of the contract go
abbrev svg_contract : List ℕ
svg_contract =
    pieces (
    codes "</style>\n" ∷
    codes "<rect class=\"paper\" width=\"656\" height=\"496\"></rect>\n" ∷
    codes "<g class=\"head\"><rect class=\"head\" x=\"0\" y=\"8\" width=\"656\" height=\"20\"></rect><text " ∷
    codes "class=\"strong\" x=\"88\" y=\"22\" textLength=\"24\">the</text><text class=\"strong\" x=\"120\" y=\"22\" " ∷
    codes "textLength=\"64\">contract</text><text class=\"name p0\" x=\"360\" y=\"22\" textLength=\"40\">Buyer</text>" ∷
    codes "<text class=\"name p1\" x=\"408\" y=\"22\" textLength=\"48\">Seller</text><text class=\"name p2\" x=\"464\" " ∷
    codes "y=\"22\" textLength=\"64\">Mediator</text></g>\n" ∷
    codes "<g class=\"way taken\" id=\"way-init\"><rect class=\"way taken\" x=\"0\" y=\"28\" width=\"656\" height=\"20\">" ∷
    codes "</rect><path class=\"tick\" d=\"M11 38l3 3 5-7\"></path><text class=\"path taken\" x=\"24\" y=\"42\" " ∷
    codes "textLength=\"32\">init</text><text class=\"word\" x=\"88\" y=\"42\" textLength=\"24\">all</text><text " ∷
    codes "class=\"word\" x=\"120\" y=\"42\" textLength=\"40\">sign;</text><text class=\"word\" x=\"168\" y=\"42\" " ∷
    codes "textLength=\"32\">each</text><text class=\"word\" x=\"208\" y=\"42\" textLength=\"32\">puts</text><text " ∷
    codes "class=\"word\" x=\"248\" y=\"42\" textLength=\"16\">in</text><path class=\"tick\" d=\"M363 38l3 3 5-7\">" ∷
    codes "</path><text class=\"sum taken\" x=\"376\" y=\"42\" textLength=\"24\">100</text><path class=\"tick\" " ∷
    codes "d=\"M435 38l3 3 5-7\"></path><text class=\"sum taken\" x=\"448\" y=\"42\" textLength=\"8\">0</text><path " ∷
    codes "class=\"tick\" d=\"M507 38l3 3 5-7\"></path><text class=\"sum taken\" x=\"520\" y=\"42\" textLength=\"8\">" ∷
    codes "0</text></g>\n" ∷
    codes "<g class=\"fork\"><rect class=\"fork\" x=\"0\" y=\"48\" width=\"656\" height=\"20\"></rect><text " ∷
    codes "class=\"strong\" x=\"88\" y=\"62\" textLength=\"24\">one</text><text class=\"strong\" x=\"120\" y=\"62\" " ∷
    codes "textLength=\"16\">of</text></g>\n" ∷
    codes "<g class=\"way gone\" id=\"way-r.0\"><rect class=\"way gone\" x=\"0\" y=\"68\" width=\"656\" height=\"20\">" ∷
    codes "</rect><path class=\"cross\" d=\"M11 78m0-3l6 6m0-6l-6 6\"></path><text class=\"path gone\" x=\"24\" " ∷
    codes "y=\"82\" textLength=\"24\">r.0</text><rect class=\"chip open\" x=\"104\" y=\"70\" width=\"116\" height=\"16\" " ∷
    codes "rx=\"8\"></rect><path class=\"ring\" d=\"M107 78a3 3 0 1 0 6 0a3 3 0 1 0-6 0\"></path><text class=\"chip " ∷
    codes "open\" x=\"120\" y=\"82\" textLength=\"96\">Buyer agrees</text><path class=\"cross\" d=\"M419 78m0-3l6 " ∷
    codes "6m0-6l-6 6\"></path><text class=\"sum gone\" x=\"432\" y=\"82\" textLength=\"24\">100</text></g>\n" ∷
    codes "<g class=\"way gone\" id=\"way-r.1\"><rect class=\"way gone\" x=\"0\" y=\"88\" width=\"656\" height=\"20\">" ∷
    codes "</rect><path class=\"cross\" d=\"M11 98m0-3l6 6m0-6l-6 6\"></path><text class=\"path gone\" x=\"24\" " ∷
    codes "y=\"102\" textLength=\"24\">r.1</text><rect class=\"chip open\" x=\"104\" y=\"90\" width=\"124\" height=\"16\" " ∷
    codes "rx=\"8\"></rect><path class=\"ring\" d=\"M107 98a3 3 0 1 0 6 0a3 3 0 1 0-6 0\"></path><text class=\"chip " ∷
    codes "open\" x=\"120\" y=\"102\" textLength=\"104\">Seller agrees</text><path class=\"cross\" d=\"M363 98m0-3l6 " ∷
    codes "6m0-6l-6 6\"></path><text class=\"sum gone\" x=\"376\" y=\"102\" textLength=\"24\">100</text></g>\n" ∷
    codes "<g class=\"way taken\" id=\"way-r.2\"><rect class=\"way taken\" x=\"0\" y=\"108\" width=\"656\" height=\"20\">" ∷
    codes "</rect><path class=\"tick\" d=\"M11 118l3 3 5-7\"></path><text class=\"path taken\" x=\"24\" y=\"122\" " ∷
    codes "textLength=\"24\">r.2</text><rect class=\"chip met\" x=\"104\" y=\"110\" width=\"140\" height=\"16\" rx=\"8\">" ∷
    codes "</rect><path class=\"tick\" d=\"M107 118l3 3 5-7\"></path><text class=\"chip met\" x=\"120\" y=\"122\" " ∷
    codes "textLength=\"120\">Mediator agrees</text><rect class=\"chip met\" x=\"248\" y=\"110\" width=\"108\" " ∷
    codes "height=\"16\" rx=\"8\"></rect><path class=\"tick\" d=\"M251 118l3 3 5-7\"></path><text class=\"chip met\" " ∷
    codes "x=\"264\" y=\"122\" textLength=\"88\">block 1,000</text><path class=\"tick\" d=\"M507 118l3 3 5-7\"></path>" ∷
    codes "<text class=\"sum taken\" x=\"520\" y=\"122\" textLength=\"8\">3</text></g>\n" ∷
    codes "<g class=\"fork\"><rect class=\"fork\" x=\"0\" y=\"128\" width=\"656\" height=\"20\"></rect><text " ∷
    codes "class=\"note\" x=\"120\" y=\"142\" textLength=\"24\">97:</text><text class=\"strong\" x=\"152\" y=\"142\" " ∷
    codes "textLength=\"24\">one</text><text class=\"strong\" x=\"184\" y=\"142\" textLength=\"16\">of</text></g>\n" ∷
    codes "<g class=\"way gone\" id=\"way-r.2/1.0\"><rect class=\"way gone\" x=\"0\" y=\"148\" width=\"656\" height=\"20\">" ∷
    codes "</rect><path class=\"cross\" d=\"M11 158m0-3l6 6m0-6l-6 6\"></path><text class=\"path gone\" x=\"24\" " ∷
    codes "y=\"162\" textLength=\"56\">r.2/1.0</text><rect class=\"chip open\" x=\"136\" y=\"150\" width=\"140\" " ∷
    codes "height=\"16\" rx=\"8\"></rect><path class=\"ring\" d=\"M139 158a3 3 0 1 0 6 0a3 3 0 1 0-6 0\"></path>" ∷
    codes "<text class=\"chip open\" x=\"152\" y=\"162\" textLength=\"120\">Mediator agrees</text><path " ∷
    codes "class=\"cross\" d=\"M427 158m0-3l6 6m0-6l-6 6\"></path><text class=\"sum gone\" x=\"440\" y=\"162\" " ∷
    codes "textLength=\"16\">97</text></g>\n" ∷
    codes "<g class=\"way taken\" id=\"way-r.2/1.1\"><rect class=\"way taken\" x=\"0\" y=\"168\" width=\"656\" " ∷
    codes "height=\"20\"></rect><path class=\"tick\" d=\"M11 178l3 3 5-7\"></path><text class=\"path taken\" x=\"24\" " ∷
    codes "y=\"182\" textLength=\"56\">r.2/1.1</text><rect class=\"chip met\" x=\"136\" y=\"170\" width=\"140\" " ∷
    codes "height=\"16\" rx=\"8\"></rect><path class=\"tick\" d=\"M139 178l3 3 5-7\"></path><text class=\"chip met\" " ∷
    codes "x=\"152\" y=\"182\" textLength=\"120\">Mediator agrees</text><path class=\"tick\" d=\"M371 178l3 3 5-7\">" ∷
    codes "</path><text class=\"sum taken\" x=\"384\" y=\"182\" textLength=\"16\">97</text></g>\n" ∷
    [])

-- the rows of the run, and what can be done at the end
abbrev svg_run : List ℕ
svg_run =
    pieces (
    codes "<g class=\"head\"><rect class=\"head\" x=\"0\" y=\"188\" width=\"656\" height=\"20\"></rect><text " ∷
    codes "class=\"strong\" x=\"88\" y=\"202\" textLength=\"24\">the</text><text class=\"strong\" x=\"120\" y=\"202\" " ∷
    codes "textLength=\"24\">run</text><text class=\"name p0\" x=\"360\" y=\"202\" textLength=\"40\">Buyer</text><text " ∷
    codes "class=\"name p1\" x=\"408\" y=\"202\" textLength=\"48\">Seller</text><text class=\"name p2\" x=\"464\" " ∷
    codes "y=\"202\" textLength=\"64\">Mediator</text><text class=\"strong\" x=\"536\" y=\"202\" textLength=\"64\">" ∷
    codes "contract</text><text class=\"strong\" x=\"608\" y=\"202\" textLength=\"32\">fees</text></g>\n" ∷
    codes "<g class=\"ev start\" id=\"start\"><rect class=\"ev start\" x=\"0\" y=\"208\" width=\"656\" height=\"20\">" ∷
    codes "</rect><text class=\"word\" x=\"88\" y=\"222\" textLength=\"24\">the</text><text class=\"word\" x=\"120\" " ∷
    codes "y=\"222\" textLength=\"64\">deposits</text><text class=\"sum\" x=\"376\" y=\"222\" textLength=\"24\">" ∷
    codes "100</text><text class=\"sum\" x=\"448\" y=\"222\" textLength=\"8\">0</text><text class=\"sum\" x=\"520\" " ∷
    codes "y=\"222\" textLength=\"8\">0</text><text class=\"sum\" x=\"592\" y=\"222\" textLength=\"8\">0</text><text " ∷
    codes "class=\"sum\" x=\"632\" y=\"222\" textLength=\"8\">0</text></g>\n" ∷
    codes "<g class=\"ev accepted\" id=\"event-1\"><rect class=\"ev accepted\" x=\"0\" y=\"228\" width=\"656\" " ∷
    codes "height=\"40\"></rect><text class=\"path\" x=\"24\" y=\"242\" textLength=\"32\">1-11</text><text " ∷
    codes "class=\"word\" x=\"88\" y=\"242\" textLength=\"80\">advertise,</text><text class=\"word\" x=\"176\" y=\"242\" " ∷
    codes "textLength=\"56\">commit,</text><text class=\"word\" x=\"240\" y=\"242\" textLength=\"64\">endorse,</text>" ∷
    codes "<text class=\"word\" x=\"312\" y=\"242\" textLength=\"40\">init,</text><text class=\"word\" x=\"88\" y=\"262\" " ∷
    codes "textLength=\"32\">fire</text><text class=\"word\" x=\"128\" y=\"262\" textLength=\"32\">init</text><text " ∷
    codes "class=\"sum\" x=\"392\" y=\"242\" textLength=\"8\">0</text><text class=\"sum\" x=\"576\" y=\"242\" " ∷
    codes "textLength=\"24\">100</text></g>\n" ∷
    codes "<g class=\"ev blocks\" id=\"event-12\"><rect class=\"ev blocks\" x=\"0\" y=\"268\" width=\"656\" height=\"20\">" ∷
    codes "</rect><text class=\"path\" x=\"24\" y=\"282\" textLength=\"16\">12</text><text class=\"word\" x=\"88\" " ∷
    codes "y=\"282\" textLength=\"40\">1,000</text><text class=\"word\" x=\"136\" y=\"282\" textLength=\"48\">" ∷
    codes "blocks</text><text class=\"note\" x=\"192\" y=\"282\" textLength=\"48\">height</text><text class=\"note\" " ∷
    codes "x=\"248\" y=\"282\" textLength=\"40\">1,000</text></g>\n" ∷
    codes "<g class=\"ev done\" id=\"event-13\"><rect class=\"ev done\" x=\"0\" y=\"288\" width=\"656\" height=\"20\">" ∷
    codes "</rect><text class=\"path\" x=\"24\" y=\"302\" textLength=\"16\">13</text><text class=\"word\" x=\"88\" " ∷
    codes "y=\"302\" textLength=\"64\">Mediator</text><text class=\"word\" x=\"160\" y=\"302\" textLength=\"48\">" ∷
    codes "agrees</text><text class=\"word\" x=\"216\" y=\"302\" textLength=\"16\">to</text><text class=\"word\" " ∷
    codes "x=\"240\" y=\"302\" textLength=\"24\">r.2</text></g>\n" ∷
    codes "<g class=\"ev accepted\" id=\"event-14\"><rect class=\"ev accepted\" x=\"0\" y=\"308\" width=\"656\" " ∷
    codes "height=\"20\"></rect><text class=\"path\" x=\"24\" y=\"322\" textLength=\"16\">14</text><text class=\"word\" " ∷
    codes "x=\"88\" y=\"322\" textLength=\"32\">fire</text><text class=\"word\" x=\"128\" y=\"322\" textLength=\"24\">" ∷
    codes "r.2</text></g>\n" ∷
    codes "<g class=\"ev accepted\" id=\"event-15\"><rect class=\"ev accepted\" x=\"0\" y=\"328\" width=\"656\" " ∷
    codes "height=\"20\"></rect><text class=\"path\" x=\"24\" y=\"342\" textLength=\"16\">15</text><text class=\"word\" " ∷
    codes "x=\"88\" y=\"342\" textLength=\"32\">fire</text><text class=\"word\" x=\"128\" y=\"342\" textLength=\"56\">" ∷
    codes "r.2/0.0</text><text class=\"sum\" x=\"520\" y=\"342\" textLength=\"8\">3</text><text class=\"sum\" x=\"584\" " ∷
    codes "y=\"342\" textLength=\"16\">97</text></g>\n" ∷
    codes "<g class=\"ev done\" id=\"event-16\"><rect class=\"ev done\" x=\"0\" y=\"348\" width=\"656\" height=\"20\">" ∷
    codes "</rect><text class=\"path\" x=\"24\" y=\"362\" textLength=\"16\">16</text><text class=\"word\" x=\"88\" " ∷
    codes "y=\"362\" textLength=\"64\">Mediator</text><text class=\"word\" x=\"160\" y=\"362\" textLength=\"48\">" ∷
    codes "agrees</text><text class=\"word\" x=\"216\" y=\"362\" textLength=\"16\">to</text><text class=\"word\" " ∷
    codes "x=\"240\" y=\"362\" textLength=\"56\">r.2/1.1</text></g>\n" ∷
    codes "<g class=\"ev refused\" id=\"event-17\"><rect class=\"ev refused\" x=\"0\" y=\"368\" width=\"656\" " ∷
    codes "height=\"60\"></rect><text class=\"path\" x=\"24\" y=\"382\" textLength=\"16\">17</text><text class=\"word\" " ∷
    codes "x=\"88\" y=\"382\" textLength=\"32\">fire</text><text class=\"word\" x=\"128\" y=\"382\" textLength=\"56\">" ∷
    codes "r.2/1.0</text><text class=\"bad\" x=\"192\" y=\"382\" textLength=\"64\">refused,</text><text class=\"bad\" " ∷
    codes "x=\"264\" y=\"382\" textLength=\"88\">ScriptFalse</text><text class=\"bad\" x=\"88\" y=\"402\" " ∷
    codes "textLength=\"16\">0:</text><text class=\"bad\" x=\"112\" y=\"402\" textLength=\"8\">a</text><text " ∷
    codes "class=\"bad\" x=\"128\" y=\"402\" textLength=\"72\">signature</text><text class=\"bad\" x=\"208\" y=\"402\" " ∷
    codes "textLength=\"16\">or</text><text class=\"bad\" x=\"232\" y=\"402\" textLength=\"8\">a</text><text " ∷
    codes "class=\"bad\" x=\"248\" y=\"402\" textLength=\"48\">secret</text><text class=\"bad\" x=\"304\" y=\"402\" " ∷
    codes "textLength=\"16\">is</text><text class=\"bad\" x=\"88\" y=\"422\" textLength=\"56\">missing</text></g>\n" ∷
    codes "<g class=\"ev accepted\" id=\"event-18\"><rect class=\"ev accepted\" x=\"0\" y=\"428\" width=\"656\" " ∷
    codes "height=\"20\"></rect><text class=\"path\" x=\"24\" y=\"442\" textLength=\"16\">18</text><text class=\"word\" " ∷
    codes "x=\"88\" y=\"442\" textLength=\"32\">fire</text><text class=\"word\" x=\"128\" y=\"442\" textLength=\"56\">" ∷
    codes "r.2/1.1</text><text class=\"sum\" x=\"384\" y=\"442\" textLength=\"16\">97</text><text class=\"sum\" " ∷
    codes "x=\"592\" y=\"442\" textLength=\"8\">0</text></g>\n" ∷
    codes "<g class=\"total\"><rect class=\"total\" x=\"0\" y=\"448\" width=\"656\" height=\"20\"></rect><text " ∷
    codes "class=\"strong\" x=\"88\" y=\"462\" textLength=\"16\">at</text><text class=\"strong\" x=\"112\" y=\"462\" " ∷
    codes "textLength=\"24\">the</text><text class=\"strong\" x=\"144\" y=\"462\" textLength=\"24\">end</text><text " ∷
    codes "class=\"sum\" x=\"384\" y=\"462\" textLength=\"16\">97</text><text class=\"sum\" x=\"448\" y=\"462\" " ∷
    codes "textLength=\"8\">0</text><text class=\"sum\" x=\"520\" y=\"462\" textLength=\"8\">3</text><text class=\"sum\" " ∷
    codes "x=\"592\" y=\"462\" textLength=\"8\">0</text><text class=\"sum\" x=\"632\" y=\"462\" textLength=\"8\">0</text>" ∷
    codes "</g>\n" ∷
    codes "<g class=\"now\"><rect class=\"now\" x=\"0\" y=\"468\" width=\"656\" height=\"20\"></rect><text " ∷
    codes "class=\"strong\" x=\"8\" y=\"482\" textLength=\"24\">can</text><text class=\"strong\" x=\"40\" y=\"482\" " ∷
    codes "textLength=\"32\">now:</text><text class=\"word\" x=\"80\" y=\"482\" textLength=\"56\">nothing</text></g>\n" ∷
    codes "</svg>\n" ∷
    [])

svg_of_escrow : svg_text (codes "escrow") setup mediated ≡ svg_before_style ++ (svg_style ++ (svg_contract ++ svg_run))
unfolding digits label_text stripped marked compact places_list sequences_list outputs_list preimage position_script script_meaning
    ops_of number_of_item signed_bytes item_of_number attribute_text svg_style svg_of svg_text
svg_of_escrow = refl
