use Rattle.std.proofs.Common.{◌≡◌, ◌+◌, ◌++◌, ◌≤◌, length, map, drop}
use Rattle.std.specs.Prelude.{filter_map, vec_capacity, vec_len}
use Rattle.dwc_read.specs.ValuesSeen.{attribute_view}
use Rattle.dwc_kept.specs.ReadEntries.{attribute_offset}
use Rattle.dwc_kept.proofs.references.put_offsets.Given as goal

-- the offsets so far, and those of the attributes that are left, are all, and there is room for them
abbrev pub invariant-loop-attribute : goal.invariant-loop-attribute
invariant-loop-attribute l = record {
  put : l.offsets.items ++ filter_map (attribute_offset l.unit l.end) (map attribute_view (drop l.attribute-index l.attributes)) ≡ l.initial.offsets.items ++ filter_map (attribute_offset l.unit l.end) (map attribute_view l.attributes);
  room : vec_len l.offsets + length (drop l.attribute-index l.attributes) ≤ vec_capacity l.offsets;
}
