-- What the fixed texts mean under the schema.
use Rattle.std.proofs.Common.{◌≡◌, ℕ, List, false, refl}
use Rattle.sqlite.specs.Command.{Command}
use Rattle.sqlite.specs.Listing.{understood, reads_listing}
use Rattle.sqlite_tied.specs.Compute.{everything}
use Rattle.sqlite.proofs.Callers.{IsPlain, command_of}
use Rattle.cpi_sql_rows.specs.Tables.{office_schema}
use Rattle.cpi_sql_rows.specs.Texts.{put_version_text, put_version_command}
use Rattle.cpi_sql_rows.specs.Texts.{put_collector_text, put_collector_command}
use Rattle.cpi_sql_rows.specs.Texts.{put_outlet_text, put_outlet_command, put_item_text}
use Rattle.cpi_sql_rows.specs.Texts.{put_item_command, put_calendar_text}
use Rattle.cpi_sql_rows.specs.Texts.{put_calendar_command}
use Rattle.cpi_sql_rows.specs.Texts.{put_assignment_text, put_assignment_command, replace_given_text}
use Rattle.cpi_sql_rows.specs.Texts.{replace_given_command}
use Rattle.cpi_sql_rows.specs.Texts.{put_quote_text, put_quote_command}
use Rattle.cpi_sql_rows.specs.Texts.{add_node_text, add_node_command, add_place_text}
use Rattle.cpi_sql_rows.specs.Texts.{add_place_command, drop_nodes_text, drop_nodes_command, drop_places_text}
use Rattle.cpi_sql_rows.specs.Texts.{drop_places_command, add_reference_text}
use Rattle.cpi_sql_rows.specs.Texts.{add_reference_command, drop_references_text, drop_references_command}
use Rattle.cpi_sql_rows.specs.Texts.{add_header_text, add_header_command, add_frozen_text, add_frozen_command}
use Rattle.cpi_sql_rows.specs.Texts.{add_carried_text, add_carried_command, add_level_text, add_level_command}
use Rattle.cpi_sql_rows.specs.Texts.{drop_frozen_text, drop_frozen_command, drop_carried_text, drop_carried_command}
use Rattle.cpi_sql_rows.specs.Texts.{drop_level_text, drop_level_command}

-- the text is a query that means this
abbrev pub Asks : List ℕ → Command → Type 0
Asks text command = (command_of (understood office_schema text) ≡ command)
    × (reads_listing office_schema text ≡ false) × IsPlain (understood office_schema text)

-- the text is a change that means this
abbrev pub Makes : List ℕ → Command → Type 0
Makes text command = (command_of (understood office_schema text) ≡ command) × IsPlain (understood office_schema text)

pub put_collector_is : Makes put_collector_text put_collector_command
unfolding understood everything
put_collector_is = (refl, (refl, refl))

pub put_outlet_is : Makes put_outlet_text put_outlet_command
unfolding understood everything
put_outlet_is = (refl, (refl, refl))

pub put_item_is : Makes put_item_text put_item_command
unfolding understood everything
put_item_is = (refl, (refl, refl))

pub put_calendar_is : Makes put_calendar_text put_calendar_command
unfolding understood everything
put_calendar_is = (refl, (refl, refl))

pub put_assignment_is : Makes put_assignment_text put_assignment_command
unfolding understood everything
put_assignment_is = (refl, (refl, refl))

pub replace_given_is : Makes replace_given_text replace_given_command
unfolding understood everything
replace_given_is = (refl, (refl, refl))

pub put_quote_is : Makes put_quote_text put_quote_command
unfolding understood everything
put_quote_is = (refl, (refl, refl))

pub add_node_is : Makes (add_node_text 1) (add_node_command 1)
unfolding understood everything
add_node_is = (refl, (refl, refl))

pub add_nodes_is : Makes (add_node_text 32) (add_node_command 32)
unfolding understood everything
add_nodes_is = (refl, (refl, refl))

pub add_place_is : Makes (add_place_text 1) (add_place_command 1)
unfolding understood everything
add_place_is = (refl, (refl, refl))

pub add_places_is : Makes (add_place_text 32) (add_place_command 32)
unfolding understood everything
add_places_is = (refl, (refl, refl))

pub drop_nodes_is : Makes drop_nodes_text drop_nodes_command
unfolding understood everything
drop_nodes_is = (refl, (refl, refl))

pub drop_places_is : Makes drop_places_text drop_places_command
unfolding understood everything
drop_places_is = (refl, (refl, refl))

pub put_version_is : Makes put_version_text put_version_command
unfolding understood everything
put_version_is = (refl, (refl, refl))

-- ---- releases

pub add_header_is : Makes add_header_text add_header_command
unfolding understood everything
add_header_is = (refl, (refl, refl))

pub add_frozen_is : Makes (add_frozen_text 1) (add_frozen_command 1)
unfolding understood everything
add_frozen_is = (refl, (refl, refl))

pub add_frozen_quotes_is : Makes (add_frozen_text 32) (add_frozen_command 32)
unfolding understood everything
add_frozen_quotes_is = (refl, (refl, refl))

pub add_carried_is : Makes (add_carried_text 1) (add_carried_command 1)
unfolding understood everything
add_carried_is = (refl, (refl, refl))

pub add_carried_prices_is : Makes (add_carried_text 32) (add_carried_command 32)
unfolding understood everything
add_carried_prices_is = (refl, (refl, refl))

pub add_level_is : Makes (add_level_text 1) (add_level_command 1)
unfolding understood everything
add_level_is = (refl, (refl, refl))

pub add_levels_is : Makes (add_level_text 32) (add_level_command 32)
unfolding understood everything
add_levels_is = (refl, (refl, refl))

pub drop_frozen_is : Makes drop_frozen_text drop_frozen_command
unfolding understood everything
drop_frozen_is = (refl, (refl, refl))

pub drop_carried_is : Makes drop_carried_text drop_carried_command
unfolding understood everything
drop_carried_is = (refl, (refl, refl))

pub drop_level_is : Makes drop_level_text drop_level_command
unfolding understood everything
drop_level_is = (refl, (refl, refl))

pub add_reference_is : Makes add_reference_text add_reference_command
unfolding understood everything
add_reference_is = (refl, (refl, refl))

pub drop_references_is : Makes drop_references_text drop_references_command
unfolding understood everything
drop_references_is = (refl, (refl, refl))
