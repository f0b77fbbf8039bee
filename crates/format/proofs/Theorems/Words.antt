-- The words that lookups and programs ask for stand where the lists have them.
use Rattle.std.specs.Prelude.{◌≡◌, refl, List, [], ◌∷◌, ℕ, take, drop}
use Rattle.format.specs.Entry.{TABLE_PROVIDER, TABLE_KIND, TABLE_FIRST, TABLE_COUNT, GUID, KEY, EVENT_TEMPLATE, TEMPLATE_PROVIDER, TEMPLATE_OFFSET, TEMPLATE_SIZE, TEMPLATE_GUID, TEMPLATE_START, TEMPLATE_LENGTH}
use Rattle.format.specs.Area.{of}
use Rattle.format.specs.Provider.{Provider}
use Rattle.format.specs.Lists.{guid_words, provider_words, Owned, list_of, row_count, table_words, event_words, template_words}
use Rattle.format.specs.Lookup.{word_of}
use Rattle.format.specs.declared.Event.{Event}
use Rattle.format.specs.Template.{Template}

provider-guid : (p : Provider) → take GUID (provider_words p) ≡ guid_words p.guid
provider-guid p = refl

table-words : (before : List ℕ) (o : Owned) → word_of TABLE_PROVIDER (table_words before o) ∷ word_of TABLE_KIND (table_words before o)
    ∷ word_of TABLE_FIRST (table_words before o) ∷ word_of TABLE_COUNT (table_words before o) ∷ []
    ≡ o.provider ∷ o.table.kind ∷ of (list_of o.table.rows) before ∷ row_count o.table.rows ∷ []
table-words before o = refl

event-key : (e : Event) → take KEY (event_words e) ≡ e.identifier ∷ e.version ∷ e.channel ∷ e.level ∷ e.opcode ∷ e.task ∷ e.low ∷ e.high ∷ []
event-key e = refl

event-template : (e : Event) → word_of EVENT_TEMPLATE (event_words e) ≡ e.template
event-template e = refl

template_words_lem : (p : ℕ) (t : Template) → word_of TEMPLATE_PROVIDER (template_words p t) ∷ word_of TEMPLATE_OFFSET (template_words p t)
    ∷ word_of TEMPLATE_SIZE (template_words p t) ∷ word_of TEMPLATE_START (template_words p t) ∷ word_of TEMPLATE_LENGTH (template_words p t) ∷ []
    ≡ p ∷ t.offset ∷ t.size ∷ t.start ∷ t.length ∷ []
template_words_lem p t = refl

template_guid_lem : (p : ℕ) (t : Template) → take GUID (drop TEMPLATE_GUID (template_words p t)) ≡ guid_words t.guid
template_guid_lem p t = refl
