use Rattle.std.proofs.Common.{◌≡◌, [], ◌∷◌, ◌++◌, sym, subst, arith, rules}
use Rattle.std.proofs.KnownBytes.{Consumes-nil, Consumes-trans}
use Rattle.httparse.specs.Grammar.{HasNoRequest}
use Rattle.cpi_http.proofs.Front.{no_request_nil, no_request_more, too_long, whole, goes_on_nil, goes_on_more}
use Rattle.cpi_http.proofs.Front.{goes_on_lines}
use Rattle.cpi_http.specs.Head.{MayGoOn}
use Rattle.cpi_http.proofs.head.read_head.Goals as goal

pub bytes-init : goal.bytes-init
bytes-init g c =
    record {
      bytes = rw c.requires.empty (Consumes-nil _);
      none = subst HasNoRequest (sym c.requires.empty) no_request_nil;
      goes_on = subst MayGoOn (sym c.requires.empty) goes_on_nil;
      room = c.requires.room;
    }

pub returns-in-Ok-Complete-clause-head : goal.returns-in-Ok-Complete-clause-head
returns-in-Ok-Complete-clause-head g c =
    let inv = c.bytes.invariant in
    let pushed : c.push_byte.new.buf.items ≡ c.bytes.buf.items ++ c.in-Some.byte ∷ [] = search rules in
    let said = rw (c.in-Ok-Complete.field-0-is, c.deref.ensures.value) at c.in-Ok-Complete.ensures.complete in
    let within = rw (c.in-Ok-Complete.field-0-is, c.deref.ensures.value) at c.in-Ok-Complete.ensures.within in
    let test = c.bytes-test.true in let l = c.len.ensures in let ok = c.bytes.buf.ok in
    let room = c.parse_request.auto.headers in (
      said.0,
      rw pushed (whole _ _ c.parse_request.new.headers c.in-Ok-Complete.spans said.0 inv.none (omega (
        arith,
        test,
        l,
        ok.0,
      )) (omega (arith, room, inv.room)) (rw pushed at said.1)),
      said.1,
      within,
    )

pub bytes-preserved : goal.bytes-preserved
bytes-preserved g c =
    let inv = c.bytes.invariant in
    let pushed : c.push_byte.new.buf.items ≡ c.bytes.buf.items ++ c.in-Some.byte ∷ [] = search rules in
    record {
      bytes = rw pushed (Consumes-trans _ _ _ _ _ inv.bytes (search rules));
      none = rw pushed (no_request_more _ _ inv.none c.if-byte-eq10.false);
      goes_on = rw pushed (goes_on_more _ _ inv.goes_on c.if-byte-eq10.false);
      room = inv.room;
    }

pub returns-clause-head : goal.returns-clause-head
returns-clause-head g c =
    let test = c.bytes-test.false in let l = c.len.ensures in let ok = c.bytes.buf.ok in
    too_long c.bytes.buf.items c.bytes.invariant.none (omega (arith, test, l, ok.0))

pub bytes-preserved-in-Ok-Partial : goal.bytes-preserved-in-Ok-Partial
bytes-preserved-in-Ok-Partial g c =
    let inv = c.bytes.invariant in
    let pushed : c.push_byte.new.buf.items ≡ c.bytes.buf.items ++ c.in-Some.byte ∷ [] = search rules in
    let unfinished = rw (c.in-Ok-Partial.field-0-is, c.deref.ensures.value) at c.in-Ok-Partial.ensures.unfinished in
    let none = rw (c.in-Ok-Partial.field-0-is, c.deref.ensures.value) at c.in-Ok-Partial.ensures.partial in
    record {
      bytes = rw pushed (Consumes-trans _ _ _ _ _ inv.bytes (search rules));
      none = none;
      goes_on = goes_on_lines _ unfinished;
      room = omega (arith, c.parse_request.auto.headers, inv.room);
    }
