-- Where the words of an entry stand that lookups and programs ask for; `Lists` has the entries themselves (theorem `Words`).
use Rattle.std.specs.Prelude.{ℕ}

-- a table's provider number, kind, first entry and count
abbrev pub TABLE_PROVIDER : ℕ
TABLE_PROVIDER = 0

abbrev pub TABLE_KIND : ℕ
TABLE_KIND = 1

abbrev pub TABLE_FIRST : ℕ
TABLE_FIRST = 5

abbrev pub TABLE_COUNT : ℕ
TABLE_COUNT = 6

-- the words of a GUID, and of an event's key, with which its entry starts
abbrev pub GUID : ℕ
GUID = 4

abbrev pub KEY : ℕ
KEY = 8

-- an event's template offset
abbrev pub EVENT_TEMPLATE : ℕ
EVENT_TEMPLATE = 9

-- a template's provider number, offset, size, GUID, and where its BinXML starts and how long it is
abbrev pub TEMPLATE_PROVIDER : ℕ
TEMPLATE_PROVIDER = 0

abbrev pub TEMPLATE_OFFSET : ℕ
TEMPLATE_OFFSET = 1

abbrev pub TEMPLATE_SIZE : ℕ
TEMPLATE_SIZE = 2

abbrev pub TEMPLATE_GUID : ℕ
TEMPLATE_GUID = 7

abbrev pub TEMPLATE_START : ℕ
TEMPLATE_START = 11

abbrev pub TEMPLATE_LENGTH : ℕ
TEMPLATE_LENGTH = 12
