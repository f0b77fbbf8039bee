-- The lists with an area, by name: the number of each.
use Rattle.std.specs.Prelude.{ℕ}
use Rattle.format.specs.Area as area
use Rattle.format.specs.declared.list.List as list
use Rattle.format.specs.declared.list.List.TheVariants.{Providers, Descriptors, Unknown2, Tables, Definitions, Events, Maps, Entries, Templates, Unknown, Items}

abbrev pub number_of : list.List → ℕ
number_of Providers = area.PROVIDERS
number_of Descriptors = area.DESCRIPTORS
number_of Unknown2 = area.UNKNOWN2
number_of Tables = area.TABLES
number_of Definitions = area.DEFINITIONS
number_of Events = area.EVENTS
number_of Maps = area.MAPS
number_of Entries = area.ENTRIES
number_of Templates = area.TEMPLATES
number_of Unknown = area.UNKNOWN
number_of Items = area.ITEMS
