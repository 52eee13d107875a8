use Rattle.cpi_http.specs.Bytes.{head_of}
use Rattle.cpi_http.proofs.bytes.head_of.Goals as goal

pub returns : goal.returns
unfolding head_of
returns c = rw (
  c.as_u16.ensures.value,
  c.phrase.ensures,
  c.media_type.ensures,
  c.challenge.ensures,
) at c.head_text.ensures
