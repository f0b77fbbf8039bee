-- The field codes: each `what` text of the original has its own, and docs/FIELDS.md lists them with their texts.
-- "docs/FIELDS.md gives each distinct `what` text its own field code" (the answer).
use Rattle.std.specs.Prelude.{ℕ, ◌+◌, ◌*◌}

-- CRIM
abbrev pub CRIM_signature : ℕ
CRIM_signature = 1

abbrev pub CRIM_size : ℕ
CRIM_size = 2

abbrev pub CRIM_major_version : ℕ
CRIM_major_version = 3

abbrev pub CRIM_minor_version : ℕ
CRIM_minor_version = 4

abbrev pub CRIM_provider_count : ℕ
CRIM_provider_count = 5

abbrev pub CRIM_provider_descriptor_array : ℕ
CRIM_provider_descriptor_array = 6

abbrev pub CRIM_provider_guid : ℕ
CRIM_provider_guid = 7

abbrev pub CRIM_provider_offset : ℕ
CRIM_provider_offset = 8

-- WEVT, its descriptors and its unknown elements
abbrev pub WEVT_provider_offset : ℕ
WEVT_provider_offset = 9

abbrev pub WEVT_header : ℕ
WEVT_header = 10

abbrev pub WEVT_signature : ℕ
WEVT_signature = 11

abbrev pub WEVT_size : ℕ
WEVT_size = 12

abbrev pub WEVT_message_identifier : ℕ
WEVT_message_identifier = 13

abbrev pub WEVT_number_of_descriptors : ℕ
WEVT_number_of_descriptors = 14

abbrev pub WEVT_number_of_unknown2 : ℕ
WEVT_number_of_unknown2 = 15

abbrev pub WEVT_descriptor_array : ℕ
WEVT_descriptor_array = 16

abbrev pub WEVT_descriptor_element_offset : ℕ
WEVT_descriptor_element_offset = 17

abbrev pub WEVT_descriptor_unknown : ℕ
WEVT_descriptor_unknown = 18

abbrev pub WEVT_element_offset : ℕ
WEVT_element_offset = 19

abbrev pub WEVT_element_signature : ℕ
WEVT_element_signature = 20

abbrev pub WEVT_unknown2_array : ℕ
WEVT_unknown2_array = 21

abbrev pub WEVT_unknown2 : ℕ
WEVT_unknown2 = 22

abbrev pub provider_element_offset : ℕ
provider_element_offset = 23

abbrev pub unknown_element_header : ℕ
unknown_element_header = 24

abbrev pub provider_element_size : ℕ
provider_element_size = 25

abbrev pub unknown_element_end : ℕ
unknown_element_end = 26

-- the six texts of a table, by its kind: 27 to 74
abbrev pub table_offset : ℕ → ℕ
table_offset kind = 21 + 6 * kind

abbrev pub table_header : ℕ → ℕ
table_header kind = 22 + 6 * kind

abbrev pub table_signature : ℕ → ℕ
table_signature kind = 23 + 6 * kind

abbrev pub table_size : ℕ → ℕ
table_size kind = 24 + 6 * kind

abbrev pub table_count : ℕ → ℕ
table_count kind = 25 + 6 * kind

abbrev pub table_array : ℕ → ℕ
table_array kind = 26 + 6 * kind

-- names
abbrev pub CHAN_name : ℕ
CHAN_name = 75

abbrev pub KEYW_data : ℕ
KEYW_data = 76

abbrev pub LEVL_data : ℕ
LEVL_data = 77

abbrev pub OPCO_data : ℕ
OPCO_data = 78

abbrev pub TASK_data : ℕ
TASK_data = 79

-- TEMP
abbrev pub TEMP_header : ℕ
TEMP_header = 80

abbrev pub TEMP_signature : ℕ
TEMP_signature = 81

abbrev pub TEMP_size : ℕ
TEMP_size = 82

abbrev pub TEMP_item_descriptor_count : ℕ
TEMP_item_descriptor_count = 83

abbrev pub TEMP_item_name_count : ℕ
TEMP_item_name_count = 84

abbrev pub TEMP_template_items_offset : ℕ
TEMP_template_items_offset = 85

abbrev pub TEMP_event_type : ℕ
TEMP_event_type = 86

abbrev pub TEMP_guid : ℕ
TEMP_guid = 87

abbrev pub TEMP_item_name_count_expected_0 : ℕ
TEMP_item_name_count_expected_0 = 88

abbrev pub TEMP_template_items_offset_relative : ℕ
TEMP_template_items_offset_relative = 89

-- MAPS and its maps
abbrev pub MAPS_offsets_array : ℕ
MAPS_offsets_array = 90

abbrev pub MAPS_map_offset_word : ℕ
MAPS_map_offset_word = 91

abbrev pub MAPS_map_offset : ℕ
MAPS_map_offset = 92

abbrev pub MAPS_map_signature : ℕ
MAPS_map_signature = 93

abbrev pub VMAP_size_field : ℕ
VMAP_size_field = 94

abbrev pub VMAP_header : ℕ
VMAP_header = 95

abbrev pub VMAP_size : ℕ
VMAP_size = 96

abbrev pub VMAP_map_string_offset : ℕ
VMAP_map_string_offset = 97

abbrev pub VMAP_entry_count : ℕ
VMAP_entry_count = 98

abbrev pub VMAP_entries_array : ℕ
VMAP_entries_array = 99

abbrev pub VMAP_entry_identifier : ℕ
VMAP_entry_identifier = 100

abbrev pub VMAP_entry_message_identifier : ℕ
VMAP_entry_message_identifier = 101

abbrev pub VMAP_map_string : ℕ
VMAP_map_string = 102

-- fields of a record, which no refusal names: a record is never read before its whole length is tested
abbrev pub CHAN_identifier : ℕ
CHAN_identifier = 103

abbrev pub CHAN_name_offset : ℕ
CHAN_name_offset = 104

abbrev pub CHAN_unknown : ℕ
CHAN_unknown = 105

abbrev pub CHAN_message_identifier : ℕ
CHAN_message_identifier = 106

abbrev pub EVNT_unknown : ℕ
EVNT_unknown = 107

abbrev pub EVNT_event_identifier : ℕ
EVNT_event_identifier = 108

abbrev pub EVNT_event_version : ℕ
EVNT_event_version = 109

abbrev pub EVNT_event_channel : ℕ
EVNT_event_channel = 110

abbrev pub EVNT_event_level : ℕ
EVNT_event_level = 111

abbrev pub EVNT_event_opcode : ℕ
EVNT_event_opcode = 112

abbrev pub EVNT_event_task : ℕ
EVNT_event_task = 113

abbrev pub EVNT_event_keywords : ℕ
EVNT_event_keywords = 114

abbrev pub EVNT_event_message_identifier : ℕ
EVNT_event_message_identifier = 115

abbrev pub EVNT_event_template_offset : ℕ
EVNT_event_template_offset = 116

abbrev pub EVNT_event_opcode_offset : ℕ
EVNT_event_opcode_offset = 117

abbrev pub EVNT_event_level_offset : ℕ
EVNT_event_level_offset = 118

abbrev pub EVNT_event_task_offset : ℕ
EVNT_event_task_offset = 119

abbrev pub EVNT_event_unknown_count : ℕ
EVNT_event_unknown_count = 120

abbrev pub EVNT_event_unknown_offset : ℕ
EVNT_event_unknown_offset = 121

abbrev pub EVNT_event_flags : ℕ
EVNT_event_flags = 122

abbrev pub KEYW_identifier : ℕ
KEYW_identifier = 123

abbrev pub KEYW_message_identifier : ℕ
KEYW_message_identifier = 124

abbrev pub KEYW_data_offset : ℕ
KEYW_data_offset = 125

abbrev pub LEVL_identifier : ℕ
LEVL_identifier = 126

abbrev pub LEVL_message_identifier : ℕ
LEVL_message_identifier = 127

abbrev pub LEVL_data_offset : ℕ
LEVL_data_offset = 128

abbrev pub OPCO_identifier : ℕ
OPCO_identifier = 129

abbrev pub OPCO_message_identifier : ℕ
OPCO_message_identifier = 130

abbrev pub OPCO_data_offset : ℕ
OPCO_data_offset = 131

abbrev pub TASK_identifier : ℕ
TASK_identifier = 132

abbrev pub TASK_message_identifier : ℕ
TASK_message_identifier = 133

abbrev pub TASK_mui_identifier : ℕ
TASK_mui_identifier = 134

abbrev pub TASK_data_offset : ℕ
TASK_data_offset = 135

-- template items: of these the array, a name before the TEMP, and a name otherwise are refused
abbrev pub TEMP_template_items_offset_expected_end : ℕ
TEMP_template_items_offset_expected_end = 136

abbrev pub template_item_descriptors : ℕ
template_item_descriptors = 137

abbrev pub TEMP_item_unknown1 : ℕ
TEMP_item_unknown1 = 138

abbrev pub TEMP_item_input_type : ℕ
TEMP_item_input_type = 139

abbrev pub TEMP_item_output_type : ℕ
TEMP_item_output_type = 140

abbrev pub TEMP_item_unknown3 : ℕ
TEMP_item_unknown3 = 141

abbrev pub TEMP_item_unknown4 : ℕ
TEMP_item_unknown4 = 142

abbrev pub TEMP_item_count : ℕ
TEMP_item_count = 143

abbrev pub TEMP_item_length : ℕ
TEMP_item_length = 144

abbrev pub TEMP_item_name_offset : ℕ
TEMP_item_name_offset = 145

abbrev pub template_item_name_offset : ℕ
template_item_name_offset = 146

abbrev pub template_item_name_offset_relative : ℕ
template_item_name_offset_relative = 147

abbrev pub template_item_name_offset_overlaps_descriptor_table : ℕ
template_item_name_offset_overlaps_descriptor_table = 148

abbrev pub template_item_name : ℕ
template_item_name = 149
