-- A replay that ends before its first record.
use Rattle.std.proofs.Common.{refl, ℕ, List, [], Option, Some, None, IfSome, arith}
use Rattle.std.proofs.KnownBytes.{Appends-nil}
use Rattle.cpi_release.specs.State.{State}
use Rattle.cpi_store.specs.Office.{Office}
use Rattle.cpi_codes.specs.Zone.{ZoneRule}
use Rattle.cpi_wire.specs.Input.{AreFirst, records_of}
use Rattle.cpi_wire.specs.declared.fault.WireFault.TheVariants.{NoMemory}
use Rattle.cpi_wire.specs.Records.{GaveUp}

-- no records are the first of any input
none_first : (input : Option (List ℕ)) → IfSome input (AreFirst [])
none_first None = tt
none_first (Some text) = (records_of text, refl)

-- without memory nothing is answered and nothing is written
pub gave_up_at_once : {B : Type 0} (state : B → State Office) (rule : ZoneRule) (input was : Option (List ℕ)) (book : B)
    → GaveUp rule state input book book was was NoMemory
gave_up_at_once state rule input was book = record {
  rows = [];
  replies = [];
  mid = book;
  next = None;
  first = none_first input;
  few = omega arith;
  answers = refl;
  begun = refl;
  written = Appends-nil was;
}
