-- The command line of the program: its subcommands, and the job that words give.
use Rattle.std.specs.Prelude.{◌≡◌, ◌≤◌, ◌⊎◌, ℕ, List, [], Option, Some, None, Ok}
use Rattle.std.specs.Prelude.{unwrap_or, option_map, codes, true, false}
use Rattle.std.specs.Str.Parse.{ParsesUnsigned}
use Rattle.clap.specs.Words.{App, Row, Rule, Text, first_of, one_of, new_app, new_rule, with_rule}
use Rattle.clap.specs.Words.{takes, with_subcommand, subcommand_of}
use Rattle.clap.specs.declared.builder.value_parser.ValueParser.TheVariants as parser
use Rattle.cpi_codes.specs.declared.limits.TheConstants.{LAST_MOMENT}
use Rattle.cpi_app.specs.declared.job.DeskKey.{DeskKey}
use Rattle.cpi_app.specs.declared.job.DeskKey.TheVariants.{Word, File}
use Rattle.cpi_app.specs.declared.job.Job.{Job}
use Rattle.cpi_app.specs.declared.job.Job.TheVariants.{Replay, Serve, Table}
use Rattle.cpi_app.specs.declared.limits.TheConstants.{MOST_CONNECTIONS}

-- an option --name VALUE
abbrev pub option : Text → Rule
option name = record (new_rule name) { long = Some name }

-- an option that has to be given
abbrev pub required_option : Text → Rule
required_option name = record (option name) { required = true }

-- a number in a range
abbrev pub optional_number : Text → ℕ → ℕ → Rule
optional_number name low high = record (option name) { parser = Some (parser.Unsigned low high) }

-- a number in a range, which has to be given
abbrev pub number_option : Text → ℕ → ℕ → Rule
number_option name low high = record (required_option name) { parser = Some (parser.Unsigned low high) }

-- the subcommands
abbrev pub replay : App
replay = with_rule (with_rule (new_app (codes "replay")) (option (codes "zone"))) (option (codes "db"))

abbrev pub serve : App
serve = with_rule (with_rule (with_rule (with_rule (with_rule (with_rule (new_app (codes "serve"))
    (required_option (codes "db"))) (number_option (codes "port") 1 65535)) (option (codes "desk-key")))
    (option (codes "desk-key-file"))) (number_option (codes "limit") 1 MOST_CONNECTIONS)) (option (codes "zone"))

abbrev pub table : App
table = with_rule (with_rule (with_rule (with_rule (with_rule (new_app (codes "table"))
    (required_option (codes "db"))) (required_option (codes "month"))) (required_option (codes "form")))
    (number_option (codes "at") 0 LAST_MOMENT)) (optional_number (codes "revision") 1 9)

-- the program: the words begin with a subcommand, or ask for help or the version
abbrev pub bare : App
bare = record {
  top = record (new_app (codes "cpi")).top {
    no_binary_name = true;
    has_version = true;
    subcommand_required = true;
  };
  subs = [];
}

abbrev pub cpi : App
cpi = with_subcommand (with_subcommand (with_subcommand bare replay.top) serve.top) table.top

-- the option has this value
abbrev pub HasText : List Row → Text → Text → Type 0
HasText rows name text = first_of name rows ≡ Some text

-- the option's one value is this number, of at most that many bits
abbrev pub HasNumber : ℕ → List Row → Text → ℕ → Type 0
HasNumber bits rows name n =
    (text : Text) × (one_of name rows ≡ Some text) × ParsesUnsigned {E = Unit {0}} bits 10 text (Ok n)

-- the option's one value is this revision, or the option wasn't given
abbrev pub HasRevision : List Row → Option ℕ → Type 0
HasRevision rows None = first_of (codes "revision") rows ≡ None
HasRevision rows (Some n) = HasNumber 8 rows (codes "revision") n × (1 ≤ n) × (n ≤ 9)

-- the zone that was given, or UTC0
abbrev pub HasZone : List Row → Text → Type 0
HasZone rows zone = zone ≡ unwrap_or (first_of (codes "zone") rows) (codes "UTC0")

-- the key is the value of --desk-key, or in the file that --desk-key-file names, and the other one wasn't given
abbrev pub HasDeskKey : List Row → DeskKey → Type 0
HasDeskKey rows (Word key) = HasText rows (codes "desk-key") key.now × (first_of (codes "desk-key-file") rows ≡ None)
HasDeskKey rows (File path) = HasText rows (codes "desk-key-file") path.now × (first_of (codes "desk-key") rows ≡ None)

-- the job is that subcommand, with the values of its options
abbrev pub IsJob : Text × List Row → Job → Type 0
IsJob sub (Replay zone db) = (sub.0 ≡ codes "replay") × HasZone sub.1 zone.now
    × (option_map (λ t. t.now) db ≡ first_of (codes "db") sub.1)
IsJob sub (Serve db port key limit zone) = (sub.0 ≡ codes "serve") × HasText sub.1 (codes "db") db.now
    × HasNumber 16 sub.1 (codes "port") port × (1 ≤ port)
    × HasDeskKey sub.1 key
    × HasNumber 32 sub.1 (codes "limit") limit × (1 ≤ limit) × (limit ≤ MOST_CONNECTIONS)
    × HasZone sub.1 zone.now
IsJob sub (Table db month revision form at) = (sub.0 ≡ codes "table") × HasText sub.1 (codes "db") db.now
    × HasText sub.1 (codes "month") month.now
    × HasRevision sub.1 revision
    × HasText sub.1 (codes "form") form.now × ((form.now ≡ codes "text") ⊎ (form.now ≡ codes "csv"))
    × HasNumber 64 sub.1 (codes "at") at × (at ≤ LAST_MOMENT)

-- the words name a subcommand, and the job is that one
abbrev pub GivesJob : List Text → Job → Type 0
GivesJob words job = (sub : Text × List Row) × (subcommand_of cpi words ≡ Some sub) × IsJob sub job

-- the words are refused: they don't follow the rules of the command line, or they give no job
abbrev pub AreRefused : List Text → Type 0
AreRefused words = takes cpi words ≡ true → (job : Job) → GivesJob words job → ⊥
