use Rattle.std.proofs.Common.{◌≡◌, ◌+◌, ◌-◌, ◌≤◌, ℕ, List, ◌++◌, length, take, drop, sym, ap, ◌∙◌, arith}
use Rattle.std.proofs.Common.{length-take-le, length-append}
use Rattle.std.proofs.Math.Seq.{take-append-add}
use Rattle.std.proofs.lemmas.List.{take-append-le}
use borrow.Rule.Slice.PartMut.{put_mid}
use Rattle.std.proofs.KnownBytes.{Consumes-trans}
use Rattle.cpi_http.proofs.body.read_body.Goals as goal

-- the front of a buffer whose part from a on was written
put_front : (a k n : ℕ) (xs ys : List ℕ) → a ≤ length xs → n ≤ length ys
    → take (a + n) (put_mid a k xs ys) ≡ take a xs ++ take n ys
put_front a k n xs ys le few =
    ap (λ m. take (m + n) (put_mid a k xs ys)) (sym (length-take-le a xs le))
    ∙ take-append-add (take a xs) (ys ++ drop k (drop a xs)) n
    ∙ ap (λ l. take a xs ++ l) (take-append-le n ys (drop k (drop a xs)) few)

put_length : (a k : ℕ) (xs ys : List ℕ) → a ≤ length xs → a + length ys ≤ length (put_mid a k xs ys)
put_length a k xs ys le =
    let p = length-append (take a xs) (ys ++ drop k (drop a xs)) in let q = length-append ys (drop k (drop a xs)) in
    let r = length-take-le a xs le in omega (arith, p, q, r)

pub loop-at-preserved : goal.loop-at-preserved
loop-at-preserved g c =
    let inv = c.loop-at.invariant in
    let within = c.in_ok-n.ensures.within in
    let room = put_length c.loop-at.at (length c.loop-at.body - c.loop-at.at) c.loop-at.body c.read_some.new.buf
    inv.in_range in
    record {
      in_range = omega (arith, within, room);
      taken = rw (put_front _ _ _ _ c.read_some.new.buf inv.in_range within)
          (Consumes-trans _ _ _ _ _ inv.taken c.in_ok-n.ensures.bytes);
    }
