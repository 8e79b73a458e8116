-- The script of every page. It goes from row to row: what has a look that changes is told by `data-at`, where the money is by `data-money`.
use Rattle.std.specs.Prelude.{ℕ, List, ◌++◌, codes}

abbrev pub script_0 : List ℕ
script_0 =
    codes "const all=s=>[...document.querySelectorAll(s)],rows=all('.ev'),bar=all('.bar div'),range=all('#range')[0],said=all('#said')[0],"
    ++ (codes "looks=['open','offered','taken','met','gone','on','off'];"
    ++ (codes "function go(n){"
    ++ (codes "n=Math.max(0,Math.min(rows.length-1,n));range.value=n;"
    ++ (codes "all('[data-at]').forEach(e=>{let look='';e.dataset.at.split(' ').forEach(x=>{const[k,w]=x.split(':');if(n>=k)look=w});"
    ++ (codes "e.classList.remove(...looks);e.classList.add(look)});"
    ++ (codes "rows.forEach((e,k)=>{e.classList.toggle('later',k>n);e.classList.toggle('here',k==n)});"
    ++ (codes "rows[n].dataset.money.split(' ').forEach((v,k)=>{bar[k].style.flexGrow=v});"
    ++ (codes "said.textContent=rows[n].dataset.said}"
    ++ (codes "function named(){const h=/^#event-(\\d+)$/.exec(location.hash);if(h){let n=0;rows.forEach((e,k)=>{if(+h[1]>=+e.dataset.first)n=k}"
    ++ (codes ");go(n);rows[n].scrollIntoView({block:'center'})}}"
    ++ codes "range.oninput=()=>go(+range.value);"))))))))))

abbrev pub script_1 : List ℕ
script_1 =
    codes "rows.forEach((e,k)=>{e.onclick=()=>go(k)});"
    ++ (codes "onkeydown=e=>{const d={ArrowLeft:-1,ArrowRight:1}[e.key];if(d&&e.target!=range){go(+range.value+d);e.preventDefault()}};"
    ++ (codes "onhashchange=named;"
    ++ codes "document.body.classList.add('live');go(rows.length-1);named()"))

-- the script, of at most 2,048 bytes
unfoldable pub script_text : List ℕ
script_text = script_0 ++ script_1

-- its digest by SHA-256 in base 64: the page lets no other script run
abbrev pub script_digest : List ℕ
script_digest = codes "YSnz3cepIaNsEgDAZDGUHftFt71mf1FVI8IVEsoNAK8="

-- what a browser is to allow the page: its style and this script, and nothing else
abbrev pub policy_text : List ℕ
policy_text =
    codes "default-src 'none';style-src 'unsafe-inline';script-src 'sha256-" ++ (script_digest ++ codes "';base-uri 'none';form-action 'none'")
