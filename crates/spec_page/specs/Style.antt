-- How a page looks, by CSS of the W3C: on light paper and on dark, and on narrow paper. Nothing is told by colour alone: what was taken or
-- met has a tick, what is offered an arrow, and what is gone is struck out.
use Rattle.std.specs.Prelude.{ℕ, List, ◌++◌, codes}

abbrev pub style_0 : List ℕ
style_0 =
    codes ":root{--fg:#1f2328;--mut:#59636e;--bg:#fff;--line:#d1d9e0;--edge:#818b98;--soft:#f6f8fa;--ok:#1a7f37;--okbg:#dafbe1;"
    ++ (codes "--now:#0969da;--nowbg:#ddf4ff;--bad:#cf222e;--on:#fff;--c0:#0969da;--c1:#b84a00;--c2:#7c4fdb;--c3:#1a737a;--c4:#ba3686;"
    ++ (codes "--c5:#7d4e00;--c6:#59636e;color-scheme:light dark}"
    ++ (codes "@media(prefers-color-scheme:dark){:root{--fg:#e6edf3;--mut:#9198a1;--bg:#0d1117;--line:#30363d;--edge:#707983;--soft:#151b23;"
    ++ (codes "--ok:#3fb950;--okbg:#12321f;--now:#58a6ff;--nowbg:#121d2f;--bad:#ff7b72;--on:#0d1117;--c0:#58a6ff;--c1:#f0883e;--c2:#bc8cff;"
    ++ (codes "--c3:#39c5cf;--c4:#f778ba;--c5:#d4a72c;--c6:#9198a1}}"
    ++ (codes "*{box-sizing:border-box}"
    ++ (codes "body{margin:0 auto;max-width:1180px;padding:20px;font:14px/1.45 system-ui,'DejaVu Sans',sans-serif;color:var(--fg);"
    ++ (codes "background:var(--bg)}body:has(.wide){max-width:1700px}"
    ++ (codes "h1{font-size:19px;margin:0;overflow-wrap:anywhere}h1 small{font-weight:normal;white-space:nowrap;color:var(--mut);font-size:13px;margin-left:8px}"
    ++ (codes ".p0{--c:var(--c0)}.p1{--c:var(--c1)}.p2{--c:var(--c2)}.p3{--c:var(--c3)}.p4{--c:var(--c4)}.p5{--c:var(--c5)}.p6{--c:var(--c6)}"
    ++ codes ".bar{display:flex;height:26px;border:1px solid var(--edge);border-radius:6px;overflow:hidden;margin:14px 0 4px;"))))))))))

abbrev pub style_1 : List ℕ
style_1 =
    codes "background:var(--edge)}"
    ++ (codes ".bar div{flex:0 1 0;display:flex;align-items:center;justify-content:center;min-width:0;overflow:hidden;white-space:nowrap;"
    ++ (codes "font-size:12px;background:var(--c);color:var(--on);box-shadow:inset -1px 0 var(--bg);container-type:inline-size}"
    ++ (codes ".bar .in{--c:var(--mut)}.bar .out,.bar .fee{background:var(--bg);color:var(--fg);box-shadow:inset -1px 0 var(--edge)}"
    ++ (codes "@container(max-width:64px){.bar span{display:none}}"
    ++ (codes ".ctl{display:none;position:sticky;top:0;z-index:2;gap:12px;align-items:center;padding:8px 0;background:var(--bg);"
    ++ (codes "border-bottom:1px solid var(--line)}.live .ctl{display:flex}"
    ++ (codes ".ctl input{flex:1;min-width:0;accent-color:var(--now)}.ctl output{color:var(--mut);font-variant-numeric:tabular-nums}"
    ++ (codes ".now{min-height:34px;margin:10px 0;padding:6px 12px;background:var(--nowbg);border-left:3px solid var(--now)}"
    ++ (codes ".now p{display:inline;overflow-wrap:anywhere}.now .off{display:none}"
    ++ (codes "table{width:100%;border-collapse:collapse;font-variant-numeric:tabular-nums}h2{font-size:14px;margin:18px 0 2px}"
    ++ codes "th{padding:14px 8px 5px;text-align:right;font-weight:600;white-space:nowrap;color:var(--c);border-bottom:2px solid var(--edge)}"))))))))))

abbrev pub style_2 : List ℕ
style_2 =
    codes "th:nth-child(-n+2){text-align:left}th.name{max-width:150px;white-space:normal;overflow-wrap:anywhere}.scroll{overflow-x:auto}"
    ++ (codes "td{padding:3px 8px;border-bottom:1px solid var(--line)}"
    ++ (codes ".path{width:70px;max-width:110px;overflow:hidden;text-overflow:ellipsis;direction:rtl;text-align:left;white-space:nowrap;"
    ++ (codes "color:var(--mut);font:12px ui-monospace,'DejaVu Sans Mono',monospace}"
    ++ (codes ".what{min-width:260px;overflow-wrap:anywhere}.sum{width:96px;text-align:right;white-space:nowrap}.few .sum i:last-child{margin-right:-7px}"
    ++ (codes ".d1 .what{padding-left:24px}.d2 .what{padding-left:40px}.d3 .what{padding-left:56px}.d4 .what{padding-left:72px}"
    ++ (codes ".d5 .what{padding-left:88px}.d6 .what{padding-left:104px}.d7 .what{padding-left:120px}.d8 .what{padding-left:136px}"
    ++ (codes "i{display:inline-block;padding:1px 6px;font-style:normal;border:1px solid transparent;border-radius:5px}"
    ++ (codes ".chip{display:inline-block;border:1px dashed var(--edge);border-radius:10px;padding:0 8px;font-size:12.5px}"
    ++ (codes ".chip.met{border-style:solid;border-color:var(--ok);background:var(--okbg)}.chip.met:before{content:'\\2713\\a0';color:var(--ok)}"
    ++ (codes ".fork td{padding-top:6px;border-bottom:0;color:var(--mut)}.part,.any,.note,.brings{color:var(--mut)}"
    ++ codes ".taken{background:var(--okbg)}i.taken{border-color:var(--ok)}i.taken:before{content:'\\2713\\a0'}.taken .path{color:var(--ok);"))))))))))

abbrev pub style_3 : List ℕ
style_3 =
    codes "font-weight:bold}.taken .path bdi:before{content:'\\2713\\a0'}"
    ++ (codes ".offered{background:var(--nowbg)}i.offered{border:2px solid var(--now)}.offered .path{color:var(--now);font-weight:bold}"
    ++ (codes ".offered .path bdi:before{content:'\\25B8\\a0'}"
    ++ (codes ".gone{color:var(--mut)}.gone .path,.chip.gone,i.gone{text-decoration:line-through}"
    ++ (codes ".ev{cursor:pointer}.ev.blocks{background:var(--soft)}.ev.refused .what{color:var(--mut)}.ev em{color:var(--bad);"
    ++ (codes "font-style:normal}.ev.accepted .path{color:var(--ok);font-weight:bold}"
    ++ (codes ".ev.later td{color:var(--mut)}.ev.later .sum{visibility:hidden}.ev.here{outline:2px solid var(--now);outline-offset:-2px}"
    ++ (codes ".dot:before{content:'\\25CF';margin-left:4px;font-size:10px;color:var(--c)}"
    ++ (codes ".wide th{padding:14px 2px 5px;font-size:12px}.wide th.name{max-width:84px}.wide td{padding:3px 2px}.wide .sum{width:auto;"
    ++ (codes "font-size:11.5px}.wide .what{min-width:140px}.wide th:nth-child(2){white-space:normal}.wide i{padding:1px 2px}"
    ++ (codes ".turned th.name{writing-mode:vertical-rl;text-align:left;vertical-align:bottom;padding-left:calc(100% - 20px);max-width:none;white-space:nowrap}"
    ++ codes "table .total td{border-top:2px solid var(--edge);border-bottom:0;font-weight:600}summary{margin-top:14px;cursor:pointer;"))))))))))

abbrev pub style_4 : List ℕ
style_4 =
    codes "color:var(--mut)}pre{padding:10px;white-space:pre-wrap;overflow-wrap:anywhere;font-size:12px;background:var(--soft)}"
    ++ (codes "@media(max-width:640px){body{padding:12px}h1 small{display:block;margin:0}table,tbody{display:block}th,.wide th{padding:5px 0;"
    ++ (codes "border:0}th:empty{display:none}th.name,.wide th.name,.turned th.name{max-width:none;writing-mode:horizontal-tb}"
    ++ (codes ".wide .what{min-width:0}.scroll{overflow-x:visible}"
    ++ (codes "tr{display:flex;flex-wrap:wrap;justify-content:flex-end;align-items:baseline;gap:2px 8px;padding:3px 6px;border-bottom:1px solid var(--line)}"
    ++ (codes ".head th:nth-child(n+3){display:none}.head{gap:0 10px;border-bottom:2px solid var(--edge)}td,.wide td{padding:0;border:0}td:empty{display:none}"
    ++ (codes ".path{width:auto;min-width:26px}.what,th:nth-child(2){min-width:0;flex:1 1 70%}.sum,.wide .sum{width:auto;font-size:14px}.sum:before{content:attr(data-of) ' ';"
    ++ (codes "font-size:12px;color:var(--c)}.ev.later .sum{display:none}.sum i{padding:0 4px}.few .sum i:last-child{margin-right:0}table .total td{border:0}"
    ++ (codes ".total{border-top:2px solid var(--edge)}"
    ++ (codes ".d1 .what{padding-left:8px}.d2 .what{padding-left:16px}.d3 .what{padding-left:24px}.d4 .what{padding-left:32px}"
    ++ codes ".d5 .what{padding-left:40px}.d6 .what{padding-left:48px}.d7 .what{padding-left:56px}.d8 .what{padding-left:64px}}")))))))))

-- the style of every page
unfoldable pub style_text : List ℕ
style_text = style_0 ++ (style_1 ++ (style_2 ++ (style_3 ++ style_4)))
