-- No refusal of the definition has code 0: each fault that one of its readings may tell has a code. It holds of each reading by itself,
-- also of a fault that no block leads to.
use Rattle.std.specs.Prelude.{ℕ, zero, suc, ◌+◌, ◌≤◌, Bool}
use Rattle.std.proofs.Common.{arith}
use Rattle.blob.specs.Reading.{Fault, Reading}
use Rattle.blob.proofs.Coded.{HasCode, Coded, coded_got, coded_stop, coded_room, coded_demand, coded}
use Rattle.format.specs.Refuse.{truncated, wrong_signature, size_out, count_out, offset_out, not_utf16, whole, within}
use Rattle.format.specs.Region.{Region, blob_end, until, end, against, inside, bounded, region_at}
use Rattle.format.specs.Name.{text, sized, name_at}
use Rattle.format.specs.Table.{header_at, table_end}
use Rattle.format.specs.Definition.{guid_at, channel_fields, keyword_fields, task_fields, plain_fields, fields_at, definition_at, definitions_at}
use Rattle.format.specs.Event.{event_at}
use Rattle.format.specs.Item.{item_name_at, item_at, items_from}
use Rattle.format.specs.Template.{items_at, template_fields, template_at, templates_at}
use Rattle.format.specs.Map.{few, entry_at, value_map_at, map_at, maps_at}
use Rattle.format.specs.Provider.{events_at, table_at, unknown_at, element_of, element_at, descriptor_at, elements_from, wevt_at, provider_at}
use Rattle.format.specs.Crim.{header, described_at, providers_of}
use Rattle.format.specs.declared.Header.{Header}
use Rattle.format.specs.declared.Guid.{Guid}
use Rattle.format.specs.declared.CrimHeader.{CrimHeader}
use Rattle.format.specs.declared.Descriptor.{Descriptor}
use Rattle.format.specs.declared.Items.{Items}
use Rattle.format.specs.declared.Items.TheVariants as items

-- a code is not 0
pub a_code : {n : ℕ} → 1 ≤ suc n
a_code = omega arith

-- the faults
pub truncated-coded : (f at needed : ℕ) → HasCode (truncated f at needed)
truncated-coded f at needed = record { code = λ n. a_code }

pub wrong_signature-coded : (at expected found : ℕ) → HasCode (wrong_signature at expected found)
wrong_signature-coded at expected found = record { code = λ n. a_code }

pub size_out-coded : (f at size : ℕ) → HasCode (size_out f at size)
size_out-coded f at size = record { code = λ n. a_code }

pub count_out-coded : (f at count : ℕ) → HasCode (count_out f at count)
count_out-coded f at count = record { code = λ n. a_code }

pub offset_out-coded : (f at : ℕ) → HasCode (offset_out f at)
offset_out-coded f at = record { code = λ n. a_code }

pub not_utf16-coded : (f at : ℕ) → HasCode (not_utf16 f at)
not_utf16-coded f at = record { code = λ n. a_code }

pub few-coded : (at size : ℕ) → HasCode (few at size)
few-coded at size = record { code = λ n. a_code }

pub against-coded : (region : Region) {r : Fault} → HasCode r → HasCode (against region r)
against-coded region h = record { code = λ n. h.code (end n region) }

pub few-against-coded : (region : Region) (at size : ℕ) → HasCode (against region (few at size))
few-against-coded region at size = against-coded region (few-coded at size)

ruleset faults = (truncated-coded, wrong_signature-coded, size_out-coded, count_out-coded, offset_out-coded, not_utf16-coded, few-coded, few-against-coded, coded)

-- the readings, those first that others are made of
pub whole-coded : {A : Type 0} (f at needed : ℕ) {k : Reading A} → Coded k → Coded (whole f at needed k)
whole-coded f at needed h = search faults

pub within-coded : {A : Type 0} (f at : ℕ) {k : Reading A} → Coded k → Coded (within f at k)
within-coded f at h = search faults

pub inside-coded : {A : Type 0} (region : Region) (p : ℕ) (r : Fault) {k : Reading A} → HasCode r → Coded k → Coded (inside region p r k)
unfolding inside
inside-coded blob_end p r h g = coded_room h g
inside-coded (until e) p r h g = coded_demand _ (against-coded (until e) h) g

pub bounded-coded : (f at size least : ℕ) → Coded (bounded f at size least)
unfolding bounded
bounded-coded f at size least = search faults

pub region_at-coded : (f at size least : ℕ) → Coded (region_at f at size least)
unfolding region_at
region_at-coded f at size least = search (faults, bounded-coded)

pub text-coded : (f o left at k : ℕ) (waits : Bool) → Coded (text f o left at k waits)
unfolding text
text-coded f o zero at k waits = search faults
text-coded f o (suc left) at k waits = search (faults, text-coded f o left (at + 2) (k + 1))

pub sized-coded : (region : Region) (f o : ℕ) → Coded (sized region f o)
unfolding sized
sized-coded region f o = search (faults, inside-coded, text-coded) depth 16

pub name_at-coded : (region : Region) (f o : ℕ) → Coded (name_at region f o)
unfolding name_at
name_at-coded region f o = search (faults, sized-coded)

pub header_at-coded : (k at : ℕ) → Coded (header_at k at)
unfolding header_at
header_at-coded k at = search faults depth 16

pub table_end-coded : (k at : ℕ) (h : Header) → Coded (table_end k at h)
unfolding table_end
table_end-coded k at h = search (faults, bounded-coded)

pub guid_at-coded : (at : ℕ) → Coded (guid_at at)
unfolding guid_at
guid_at-coded at = search faults

pub channel_fields-coded : (at : ℕ) → Coded (channel_fields at)
unfolding channel_fields
channel_fields-coded at = search faults

pub keyword_fields-coded : (at : ℕ) → Coded (keyword_fields at)
unfolding keyword_fields
keyword_fields-coded at = search faults

pub task_fields-coded : (at : ℕ) → Coded (task_fields at)
unfolding task_fields
task_fields-coded at = search (faults, guid_at-coded)

pub plain_fields-coded : (k at : ℕ) → Coded (plain_fields k at)
unfolding plain_fields
plain_fields-coded k at = search faults

pub fields_at-coded : (k at : ℕ) → Coded (fields_at k at)
unfolding fields_at
fields_at-coded k at = search (faults, channel_fields-coded, keyword_fields-coded, task_fields-coded, plain_fields-coded)

pub definition_at-coded : (k at : ℕ) → Coded (definition_at k at)
unfolding definition_at
definition_at-coded k at = search (faults, fields_at-coded, name_at-coded)

pub definitions_at-coded : (k at : ℕ) (h : Header) → Coded (definitions_at k at h)
unfolding definitions_at
definitions_at-coded k at h = search (faults, table_end-coded, definition_at-coded)

pub event_at-coded : (at : ℕ) → Coded (event_at at)
unfolding event_at
event_at-coded at = search faults depth 24

pub item_name_at-coded : (temp e offset : ℕ) → Coded (item_name_at temp e offset)
unfolding item_name_at
item_name_at-coded temp e offset = search (faults, name_at-coded)

pub item_at-coded : (temp e at : ℕ) → Coded (item_at temp e at)
unfolding item_at
item_at-coded temp e at = search (faults, item_name_at-coded) depth 16

pub items_from-coded : (temp e n offset : ℕ) → Coded (items_from temp e n offset)
unfolding items_from
items_from-coded temp e n offset = search (faults, inside-coded, item_at-coded)

pub items_at-coded : (size : ℕ) (place : Items) → Coded (items_at size place)
unfolding items_at
items_at-coded size (items.At t) = coded_got
items_at-coded size (items.Before b) = coded_stop (offset_out-coded _ _)
items_at-coded size (items.Past t) = coded_stop (record { code = λ n. a_code })

pub template_fields-coded : (at size : ℕ) → Coded (template_fields at size)
template_fields-coded at size = search (faults, guid_at-coded, items_at-coded, items_from-coded) depth 16

pub template_at-coded : (region : Region) (at : ℕ) → Coded (template_at region at)
unfolding template_at
template_at-coded region at = search (faults, inside-coded, template_fields-coded) depth 16

pub templates_at-coded : (at : ℕ) (h : Header) → Coded (templates_at at h)
unfolding templates_at
templates_at-coded at h = search (faults, region_at-coded, template_at-coded)

pub entry_at-coded : (at : ℕ) → Coded (entry_at at)
unfolding entry_at
entry_at-coded at = search faults

pub value_map_at-coded : (region : Region) (at : ℕ) → Coded (value_map_at region at)
unfolding value_map_at
value_map_at-coded region at = search (faults, inside-coded, entry_at-coded, name_at-coded) depth 16

pub map_at-coded : (region : Region) (at : ℕ) → Coded (map_at region at)
unfolding map_at
map_at-coded region at = search (faults, value_map_at-coded)

pub maps_at-coded : (at : ℕ) (h : Header) → Coded (maps_at at h)
unfolding maps_at
maps_at-coded at h = search (faults, region_at-coded, map_at-coded) depth 16

pub events_at-coded : (at : ℕ) (h : Header) → Coded (events_at at h)
unfolding events_at
events_at-coded at h = search (faults, table_end-coded, event_at-coded)

pub table_at-coded : (k at : ℕ) (h : Header) → Coded (table_at k at h)
unfolding table_at
table_at-coded k at h = search (faults, events_at-coded, maps_at-coded, templates_at-coded, definitions_at-coded)

pub unknown_at-coded : (at : ℕ) → Coded (unknown_at at)
unfolding unknown_at
unknown_at-coded at = search faults depth 16

pub element_of-coded : (k at : ℕ) → Coded (element_of k at)
unfolding element_of
element_of-coded k at = search (faults, unknown_at-coded, header_at-coded, table_at-coded)

pub element_at-coded : (d : Descriptor) → Coded (element_at d)
unfolding element_at
element_at-coded d = search element_of-coded

pub descriptor_at-coded : (at : ℕ) → Coded (descriptor_at at)
unfolding descriptor_at
descriptor_at-coded at = search faults depth 16

pub elements_from-coded : (n at : ℕ) → Coded (elements_from n at)
elements_from-coded n at = search (faults, descriptor_at-coded, element_at-coded)

pub wevt_at-coded : (at : ℕ) → Coded (wevt_at at)
unfolding wevt_at
wevt_at-coded at = search faults depth 16

pub provider_at-coded : (guid : Guid) (at : ℕ) → Coded (provider_at guid at)
unfolding provider_at
provider_at-coded guid at = search (faults, wevt_at-coded, descriptor_at-coded, element_at-coded) depth 16

pub described_at-coded : (at : ℕ) → Coded (described_at at)
unfolding described_at
described_at-coded at = search (faults, guid_at-coded, provider_at-coded)

pub header-coded : Coded header
unfolding header
header-coded = search faults depth 16

pub providers_of-coded : (h : CrimHeader) → Coded (providers_of h)
unfolding providers_of
providers_of-coded h = search (faults, described_at-coded)
