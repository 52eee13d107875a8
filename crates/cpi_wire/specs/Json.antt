-- JSON data, in few words.
use Rattle.std.specs.Prelude.{ℕ, List, ◌++◌, Bool, not}
use Rattle.serde_json.specs.Data.{Data, number, unsigned, string, array, object, no_members, member}
use Rattle.serde_json.specs.View.{items_of}
use Rattle.serde_json.specs.Written.{comma_if, compact_text}

abbrev pub int : ℕ → Data
int n = number (unsigned n)

abbrev pub text_value : List ℕ → Data
text_value s = string s

abbrev pub list : List Data → Data
list ds = array (items_of ds)

-- an object of one member
abbrev pub object_of_one : List ℕ → Data → Data
object_of_one key d = object (member key d no_members)

-- what an item adds to the text of a list: its own text, after a comma if it isn't the first
abbrev pub added_item : Bool → Data → List ℕ
added_item is_first d = comma_if (not is_first) ++ compact_text d
