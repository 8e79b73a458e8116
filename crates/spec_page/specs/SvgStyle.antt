-- How an SVG looks, by CSS of the W3C: on light paper and on dark. Nothing is told by colour alone: what was taken or met has a tick,
-- what is offered an arrow, a condition that is open a ring, and what is gone a cross, and is struck out.
use Rattle.std.specs.Prelude.{ℕ, List, ◌++◌, codes}

abbrev pub svg_style_0 : List ℕ
svg_style_0 =
    codes "text{fill:#1f2328;font:13px ui-monospace,'DejaVu Sans Mono',Menlo,Consolas,monospace}rect{fill:none}.paper{fill:#fff}"
    ++ (codes ".strong,.name,.total text{font-weight:bold}.note,.path,.fork .strong,.gone text,text.gone,.refused .word{fill:#59636e}"
    ++ (codes "text.bad{fill:#cf222e}.path.taken,.accepted .path{fill:#1a7f37;font-weight:bold}"
    ++ (codes ".path.offered{fill:#0969da;font-weight:bold}.gone .path,text.gone{text-decoration:line-through}"
    ++ (codes "rect.taken{fill:#dafbe1}rect.offered,rect.now{fill:#ddf4ff}rect.head,rect.total,rect.blocks{fill:#f6f8fa}"
    ++ (codes "rect.chip{fill:none;stroke:#818b98;stroke-dasharray:3 2}"
    ++ (codes "rect.chip.met{fill:#dafbe1;stroke:#1a7f37;stroke-dasharray:none}path{fill:none;stroke:#59636e;stroke-width:1.5}"
    ++ (codes ".tick{stroke:#1a7f37;stroke-width:2}.arrow{fill:#0969da;stroke:none}"
    ++ codes ".p0{fill:#0969da}.p1{fill:#b84a00}.p2{fill:#7c4fdb}.p3{fill:#1a737a}.p4{fill:#ba3686}.p5{fill:#7d4e00}.p6{fill:#59636e}")))))))

abbrev pub svg_style_1 : List ℕ
svg_style_1 =
    codes "@media(prefers-color-scheme:dark){text{fill:#e6edf3}.paper{fill:#0d1117}"
    ++ (codes ".note,.path,.fork .strong,.gone text,text.gone,.refused .word{fill:#9198a1}text.bad{fill:#ff7b72}"
    ++ (codes ".path.taken,.accepted .path{fill:#3fb950}.path.offered{fill:#58a6ff}rect.taken{fill:#12321f}"
    ++ (codes "rect.offered,rect.now{fill:#121d2f}rect.head,rect.total,rect.blocks{fill:#151b23}rect.chip{fill:none;stroke:#707983}"
    ++ (codes "rect.chip.met{fill:#12321f;stroke:#3fb950}path{stroke:#9198a1}.tick{stroke:#3fb950}.arrow{fill:#58a6ff}"
    ++ codes ".p0{fill:#58a6ff}.p1{fill:#f0883e}.p2{fill:#bc8cff}.p3{fill:#39c5cf}.p4{fill:#f778ba}.p5{fill:#d4a72c}.p6{fill:#9198a1}}"))))

-- the style of every SVG
unfoldable pub svg_style : List ℕ
svg_style = svg_style_0 ++ svg_style_1
