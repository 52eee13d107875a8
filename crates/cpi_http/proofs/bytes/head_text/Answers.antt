use Rattle.std.proofs.Common.{◌≡◌, ◌++◌, ℕ, List, IfOk, sym, subst, append_assoc, codes}
use Rattle.std.specs.Prelude.{decimal}
use Rattle.std.specs.String.{string_bytes}
use Rattle.cpi_http.proofs.bytes.head_text.Goals as goal

-- lines that end in e, as one text nested to the right
regroup : (e a b c d f g h i j k : List ℕ)
    → (a ++ b ++ c ++ d ++ e) ++ (f ++ g ++ e) ++ (h ++ i ++ e) ++ (j ++ e) ++ k ++ e
    ≡ a ++ (b ++ (c ++ (d ++ (e ++ (f ++ (g ++ (e ++ (h ++ (i ++ (e ++ (j ++ (e ++ (k ++ e)))))))))))))
regroup e a b c d f g h i j k = simp append_assoc

pub returns : goal.returns
returns c =
    subst (λ t. IfOk c.format.result (λ s. string_bytes s ≡ t))
    (sym (regroup (codes "\r\n") (codes "HTTP/1.1 ") (decimal c.args.code) (codes " ") c.args.reason.now
    (codes "Content-Type: ") c.args.media.now
    (codes "Content-Length: ") (decimal c.args.size) (codes "Connection: close") c.args.more.now))
    c.format.ensures.ok
