-- Command lines, and what they give, computed.
use Rattle.std.specs.Prelude.{◌≡◌, List, [], ◌∷◌, Option, Some, None, option_map, option_and_then, codes, true, false}
use Rattle.clap.specs.Words.{Text, first_of, subcommand_of, takes}
use Rattle.cpi_app.specs.Command.{cpi}

-- the subcommand that the words name
abbrev pub job : List Text → Option Text
job words = option_map (λ sub. sub.0) (subcommand_of cpi words)

-- the value that they give an option of it
abbrev pub value : List Text → Text → Option Text
value words name = option_and_then (λ sub. first_of name sub.1) (subcommand_of cpi words)

-- a replay in memory, by a zone; one in a file, by none
abbrev pub zoned : List Text
zoned = codes "replay" ∷ codes "--zone" ∷ codes "EST5" ∷ []

abbrev pub filed : List Text
filed = codes "replay" ∷ codes "--db=office.db" ∷ []

abbrev pub Replays : Type 0
Replays = (job zoned ≡ Some (codes "replay")) × (value zoned (codes "zone") ≡ Some (codes "EST5"))
    × (value zoned (codes "db") ≡ None)
    × (job filed ≡ Some (codes "replay")) × (value filed (codes "zone") ≡ None)
    × (value filed (codes "db") ≡ Some (codes "office.db"))

abbrev pub served : List Text
served = codes "serve" ∷ codes "--port" ∷ codes "8080" ∷ codes "--db" ∷ codes "F" ∷ codes "--limit" ∷ codes "1"
    ∷ codes "--desk-key" ∷ codes "K" ∷ []

abbrev pub Serves : Type 0
Serves = (job served ≡ Some (codes "serve")) × (value served (codes "db") ≡ Some (codes "F"))
    × (value served (codes "port") ≡ Some (codes "8080")) × (value served (codes "desk-key") ≡ Some (codes "K"))
    × (value served (codes "limit") ≡ Some (codes "1")) × (value served (codes "zone") ≡ None)

-- the key in a file
abbrev pub by_key_file : List Text
by_key_file = codes "serve" ∷ codes "--db" ∷ codes "F" ∷ codes "--port" ∷ codes "8080" ∷ codes "--limit" ∷ codes "1"
    ∷ codes "--desk-key-file=K" ∷ []

abbrev pub ServesByKeyFile : Type 0
ServesByKeyFile = (job by_key_file ≡ Some (codes "serve"))
    × (value by_key_file (codes "desk-key-file") ≡ Some (codes "K")) × (value by_key_file (codes "desk-key") ≡ None)

abbrev pub printed : List Text
printed = codes "table" ∷ codes "--db" ∷ codes "F" ∷ codes "--month" ∷ codes "2026-01" ∷ codes "--revision" ∷ codes "2"
    ∷ codes "--form" ∷ codes "csv" ∷ codes "--at" ∷ codes "9999999999" ∷ []

abbrev pub Prints : Type 0
Prints = (job printed ≡ Some (codes "table")) × (value printed (codes "db") ≡ Some (codes "F"))
    × (value printed (codes "month") ≡ Some (codes "2026-01")) × (value printed (codes "revision") ≡ Some (codes "2"))
    × (value printed (codes "form") ≡ Some (codes "csv")) × (value printed (codes "at") ≡ Some (codes "9999999999"))

-- no word, help or the version that is asked for, a word of no subcommand, and one in capital letters
abbrev pub NamesNone : Type 0
NamesNone = (job [] ≡ None) × (job (codes "--help" ∷ []) ≡ None) × (job (codes "--version" ∷ []) ≡ None)
    × (job (codes "play" ∷ []) ≡ None) × (job (codes "Replay" ∷ []) ≡ None)

-- each of these command lines follows the rules, so only a lack of memory refuses the job that it gives
abbrev pub FollowsRules : Type 0
FollowsRules = (takes cpi zoned ≡ true) × (takes cpi filed ≡ true) × (takes cpi served ≡ true)
    × (takes cpi by_key_file ≡ true) × (takes cpi printed ≡ true)

-- no subcommand, help, an option without its value, an unknown one, one that is missing, and a port above the last one
abbrev pub BreaksRules : Type 0
BreaksRules = (takes cpi [] ≡ false) × (takes cpi (codes "--help" ∷ []) ≡ false)
    × (takes cpi (codes "replay" ∷ codes "--zone" ∷ []) ≡ false)
    × (takes cpi (codes "replay" ∷ codes "--clock" ∷ codes "EST5" ∷ []) ≡ false)
    × (takes cpi (codes "table" ∷ codes "--db" ∷ codes "F" ∷ []) ≡ false)
    × (takes cpi (codes "serve" ∷ codes "--port" ∷ codes "65536" ∷ codes "--db" ∷ codes "F" ∷ codes "--limit"
    ∷ codes "1" ∷ codes "--desk-key" ∷ codes "K" ∷ []) ≡ false)
