use Rattle.std.proofs.Common.{refl}
use Rattle.std.specs.Io.KnownBytes.{append_known}
use Rattle.cpi_app.specs.LostBytes.{lost_bytes}
use Rattle.cpi_app.proofs.Losing.{known_whole, failed_or_none}
use Rattle.cpi_app.proofs.peer.serve_peer.Goals as goal

pub returns : goal.returns
returns g c =
    let after = c.serve-outcome.new.writer in (
      _,
      record {
        lost = lost_bytes after.lost.items;
        moment_is = refl;
        sent_is = rw c.new-reader.ensures.inner (refl {a = g.R.Read.remaining c.args.peer.reader});
        written = rw (c.new-writer.ensures.lost, c.new-writer.ensures.writer, c.new.ensures.inner) (known_whole _);
        writing = rw (c.into_inner-2.ensures, c.into_parts-writer.ensures.writer)
            (refl {a = append_known (g.W.Write.contents after.writer.inner) (lost_bytes after.lost.items)});
        noted = rw c.into_parts-writer.ensures.note (failed_or_none after.note.has_failed after.lost.items after.noted);
      },
      c.serve-outcome.ensures.served,
    )
