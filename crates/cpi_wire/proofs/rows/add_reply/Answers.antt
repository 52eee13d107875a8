use Rattle.std.proofs.Common.{refl, append_assoc}
use Rattle.cpi_wire.proofs.rows.add_reply.Goals as goal
use Rattle.cpi_wire.proofs.rows.add_reply.Goals.{then-not-is_first+in_ok-push, else-not-is_first}

pub returns : goal.returns
returns c =
    elim c.if-not-is_first.branch [
      | then-not-is_first+in_ok-push w ↦
          rw (
            c.in_ok-extend_from_slice.ensures.items,
            w.line-is,
            w.in_ok-push.ensures.items,
            w.if-not-is_first.true,
            append_assoc,
            c.deref.ensures.value,
            c.in_ok-text.ensures,
          ) refl
      | else-not-is_first w ↦
          rw (
            c.in_ok-extend_from_slice.ensures.items,
            w.line-is,
            w.if-not-is_first.false,
            c.deref.ensures.value,
            c.in_ok-text.ensures,
          ) refl
    ]
