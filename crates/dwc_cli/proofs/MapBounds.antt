-- What a map that is read tells is bounded.
use Rattle.std.proofs.Common.{◌≡◌, ℕ, ◌^◌, ◌<◌, List, Option, Some, None, Bool, true, false, refl, ◌∙◌, ap, subst}
use Rattle.std.specs.Prelude.{All, codes, option_map, ◌&&◌, if◌then◌else◌}
use Rattle.std.specs.FinMap as finite
use Rattle.std.specs.Str.{is_utf8, bytes_eq}
use Rattle.serde_json.specs.Data.{Data, null, boolean, number, string, array, object, no_items, item, Members}
use Rattle.serde_json.specs.Read.{read}
use Rattle.serde_json.specs.Find.{get_member}
use Rattle.dwc_base.specs.declared.records.OutputFor.TheVariants.{Default}
use Rattle.dwc_native.specs.Compiled as told
use Rattle.dwc_native.specs.Compiled.{Place, in_register, at_frame_offset, LabelRange, Memory, no_memory}
use Rattle.dwc_native.specs.BuiltExpressions.{IsBoundedPlace, IsBoundedMemory}
use Rattle.dwc_map.specs.MapFile.{Target, MapFunction, MapModule, MapFile, register_numbers_of, target_of, places, place_of, label_range_of, labels_of, entries_of, map_function_of, imported_of, memory_by, memory_of, path_of, functions_of, map_module_of, modules_of, have_counts, is_countable, map_in, map_in_bytes, map_for, map_of_bytes, architecture_of, pointer_bytes_of, version_of, output_of}
use Rattle.dwc_map.specs.MapValues.{◌>>=◌, only_if, u16_of, u32_of, i64_of, nullable, source_of, truth_of, text_of, list_of, pair_of, four_of, members_of, required, with_default, named_in}
use Rattle.dwc_map.specs.MapFrames.{cie_in, frame_in}
use Rattle.dwc_cli.proofs.Options.{same_some, map-some, then-some, bind-some, only_if-some}
use Rattle.dwc_cli.proofs.ReadNumbers.{Fits, FitMembers, fits-member, fits-read}
use Rattle.dwc_cli.proofs.ReadKinds.{Holds, list-holds, required-holds, default-holds, members-fit, pair-holds, below, signed, HoldsIn, empty-holds, table-holds}

-- ---- places

-- where a label lies in a range is bounded
abbrev pub IsBoundedRange : LabelRange → Type 0
IsBoundedRange r = IsBoundedPlace r.place

register-bounded : (d : Data) (p : Place) → option_map in_register (u32_of d) ≡ Some p → IsBoundedPlace p
register-bounded d p e = let n = map-some in_register (u32_of d) p e in subst IsBoundedPlace n.2 tt

offset-bounded : (d : Data) (p : Place) → Fits d → option_map at_frame_offset (i64_of d) ≡ Some p → IsBoundedPlace p
offset-bounded d p fit e = let z = map-some at_frame_offset (i64_of d) p e in subst IsBoundedPlace z.2 (signed d z.0 fit z.1)

place-bounded : (name d : Data) (p : Place) → Fits d → place_of name d ≡ Some p → IsBoundedPlace p
place-bounded name d p fit e =
    let kind = bind-some (text_of name >>= named_in places) (λ k. k d) p e in
    let text = bind-some (text_of name) (named_in places) kind.0 kind.1 in
    go kind.0 (bytes_eq (codes "reg") text.0) (bytes_eq (codes "cfa") text.0) text.2 kind.2
  where
    go : (k : Data → Option Place) (a b : Bool) → (if a then Some (λ x. option_map in_register (u32_of x)) else (if b then Some (λ x. option_map at_frame_offset (i64_of x)) else None)) ≡ Some k → k d ≡ Some p → IsBoundedPlace p
    go k true b is e = register-bounded d p (ap (λ f. f d) (same_some (λ x. option_map in_register (u32_of x)) k is) ∙ e)
    go k false true is e = offset-bounded d p fit (ap (λ f. f d) (same_some (λ x. option_map at_frame_offset (i64_of x)) k is) ∙ e)
    go k false false is e = absurd (cc)

four-fit : Holds (λ (p : Data × Data × Data × Data). Fits p.3) four_of
four-fit null p fit e = absurd (cc)
four-fit (boolean b) p fit e = absurd (cc)
four-fit (number n) p fit e = absurd (cc)
four-fit (string s) p fit e = absurd (cc)
four-fit (array no_items) p fit e = absurd (cc)
four-fit (array (item a no_items)) p fit e = absurd (cc)
four-fit (array (item a (item b no_items))) p fit e = absurd (cc)
four-fit (array (item a (item b (item c no_items)))) p fit e = absurd (cc)
four-fit (array (item a (item b (item c (item d no_items))))) p fit e = subst (λ (q : Data × Data × Data × Data). Fits q.3) (same_some (a, b, c, d) p e) (((fit.1).1).1).0
four-fit (array (item a (item b (item c (item d (item f ds)))))) p fit e = absurd (cc)
four-fit (object ms) p fit e = absurd (cc)

range-bounded : Holds IsBoundedRange label_range_of
unfolding label_range_of
range-bounded d r fit e =
    let parts = bind-some (four_of d) _ r e in
    let start = bind-some (u32_of (parts.0).0) _ r parts.2 in
    let end = bind-some (u32_of (parts.0).1) _ r start.2 in
    let place = bind-some (place_of (parts.0).2 (parts.0).3) _ r end.2 in
    let is : place.0 ≡ r.place = ap (λ (x : LabelRange). x.place) (same_some _ r place.2) in
    subst IsBoundedPlace is (place-bounded (parts.0).2 (parts.0).3 place.0 (four-fit d parts.0 fit parts.1) place.1)

-- ---- functions and modules

abbrev pub IsBoundedFunction : MapFunction → Type 0
IsBoundedFunction f = HoldsIn (All IsBoundedRange) f.labels

labels-bounded : Holds (HoldsIn (All IsBoundedRange)) labels_of
unfolding labels_of
labels-bounded d t fit e = table-holds (All IsBoundedRange) (list_of label_range_of) (list-holds IsBoundedRange label_range_of range-bounded) d t fit e

function-bounded : Holds IsBoundedFunction map_function_of
unfolding map_function_of
function-bounded d f fit e =
    let ms = bind-some (members_of d) _ f e in
    let fields = members-fit d ms.0 fit ms.1 in
    let entries = bind-some (required (codes "map") entries_of ms.0) _ f ms.2 in
    let symbol = bind-some (required (codes "symbol") (nullable u32_of) ms.0) _ f entries.2 in
    let start = bind-some (required (codes "start") source_of ms.0) _ f symbol.2 in
    let end = bind-some (required (codes "end") source_of ms.0) _ f start.2 in
    let body_offset = bind-some (with_default (codes "body_offset") 0 u32_of ms.0) _ f end.2 in
    let body_len = bind-some (required (codes "body_len") u32_of ms.0) _ f body_offset.2 in
    let labels = bind-some (with_default (codes "labels") finite.empty labels_of ms.0) _ f body_len.2 in
    let frame = bind-some (frame_in ms.0) _ f labels.2 in
    let is : labels.0 ≡ f.labels = ap (λ (x : MapFunction). x.labels) (same_some _ f frame.2) in
    subst (HoldsIn (All IsBoundedRange)) is (default-holds (HoldsIn (All IsBoundedRange)) labels_of labels-bounded (codes "labels") finite.empty ms.0 labels.0 (empty-holds (All IsBoundedRange)) fields labels.1)

defined-bounded : (d : Data) (m : Memory) → Fits d → option_map told.defined (u32_of d) ≡ Some m → IsBoundedMemory m
defined-bounded d m fit e = let n = map-some told.defined (u32_of d) m e in subst IsBoundedMemory n.2 (below (2 ^ 32) d n.0 fit n.1)

imported-bounded : (d : Data) (m : Memory) → Fits d → imported_of d ≡ Some m → IsBoundedMemory m
imported-bounded d m fit e =
    let p = map-some (λ (q : ℕ × ℕ). told.imported q.0 q.1) (pair_of u32_of u32_of d) m e in
    subst IsBoundedMemory p.2 (pair-holds (λ n. n < 2 ^ 32) (λ n. n < 2 ^ 32) u32_of u32_of (below (2 ^ 32)) (below (2 ^ 32)) d p.0 fit p.1)

memory-by : (ms : Members) (m : Memory) → FitMembers ms → memory_by (get_member (codes "defined") ms) (get_member (codes "imported") ms) ≡ Some m → IsBoundedMemory m
memory-by ms m fit e = go (get_member (codes "defined") ms) (get_member (codes "imported") ms) refl refl e
  where
    go : (own other : Option Data) → get_member (codes "defined") ms ≡ own → get_member (codes "imported") ms ≡ other → memory_by own other ≡ Some m → IsBoundedMemory m
    go (Some d) None own other e = defined-bounded d m (fits-member (codes "defined") ms d fit own) e
    go None (Some d) own other e = imported-bounded d m (fits-member (codes "imported") ms d fit other) e
    go None None own other e = absurd (cc)
    go (Some d) (Some x) own other e = absurd (cc)

memory-bounded : Holds IsBoundedMemory memory_of
unfolding memory_of
memory-bounded null m fit e = subst IsBoundedMemory (same_some no_memory m e) tt
memory-bounded (boolean b) m fit e = absurd (cc)
memory-bounded (number n) m fit e = absurd (cc)
memory-bounded (string s) m fit e = absurd (cc)
memory-bounded (array ds) m fit e = absurd (cc)
memory-bounded (object ms) m fit e = memory-by ms m fit e

pub record IsBoundedModule (m : MapModule) : Type 0 where
  pub functions : All IsBoundedFunction m.functions
  pub memory : IsBoundedMemory m.memory

module-bounded : Holds IsBoundedModule map_module_of
unfolding map_module_of
module-bounded d m fit e =
    let ms = bind-some (members_of d) _ m e in
    let fields = members-fit d ms.0 fit ms.1 in
    let functions = bind-some (required (codes "functions") functions_of ms.0) _ m ms.2 in
    let memory = bind-some (with_default (codes "memory") no_memory memory_of ms.0) _ m functions.2 in
    let path = bind-some (with_default (codes "path") None path_of ms.0) _ m memory.2 in
    let whole : MapModule = record { functions = functions.0; memory = memory.0; path = path.0 } in
    subst IsBoundedModule (same_some whole m path.2) (record {
      functions = required-holds (All IsBoundedFunction) functions_of (list-holds IsBoundedFunction map_function_of function-bounded) (codes "functions") ms.0 functions.0 fields functions.1;
      memory = default-holds IsBoundedMemory memory_of memory-bounded (codes "memory") no_memory ms.0 memory.0 tt fields memory.1;
    })

-- ---- the map

abbrev pub IsRegister : ℕ → Type 0
IsRegister n = n < 2 ^ 16

registers-bounded : Holds (HoldsIn IsRegister) register_numbers_of
unfolding register_numbers_of
registers-bounded d t fit e = table-holds IsRegister u16_of (below (2 ^ 16)) d t fit e

target-bounded : Holds (λ (t : Target). HoldsIn IsRegister t.registers) target_of
unfolding target_of
target-bounded d t fit e =
    let ms = bind-some (members_of d) _ t e in
    let fields = members-fit d ms.0 fit ms.1 in
    let architecture = bind-some (required (codes "arch") architecture_of ms.0) _ t ms.2 in
    let big_endian = bind-some (with_default (codes "big_endian") false truth_of ms.0) _ t architecture.2 in
    let pointer_bytes = bind-some (with_default (codes "pointer_bytes") 8 pointer_bytes_of ms.0) _ t big_endian.2 in
    let version = bind-some (with_default (codes "version") 4 version_of ms.0) _ t pointer_bytes.2 in
    let output = bind-some (with_default (codes "debugger") Default output_of ms.0) _ t version.2 in
    let registers = bind-some (with_default (codes "registers") finite.empty register_numbers_of ms.0) _ t output.2 in
    let common_entry = bind-some (cie_in ms.0) _ t registers.2 in
    let is : registers.0 ≡ t.registers = ap (λ (x : Target). x.registers) (same_some _ t common_entry.2) in
    subst (HoldsIn IsRegister) is (default-holds (HoldsIn IsRegister) register_numbers_of registers-bounded (codes "registers") finite.empty ms.0 registers.0 (empty-holds IsRegister) fields registers.1)

pub record IsBoundedMap (m : MapFile) : Type 0 where
  pub registers : HoldsIn IsRegister m.target.registers
  pub modules : All IsBoundedModule m.modules

value-bounded : Holds IsBoundedMap map_in
unfolding map_in
value-bounded d m fit e =
    let ms = bind-some (members_of d) _ m e in
    let fields = members-fit d ms.0 fit ms.1 in
    let modules = bind-some (required (codes "modules") modules_of ms.0) _ m ms.2 in
    let target = bind-some (required (codes "target") target_of ms.0) _ m modules.2 in
    let names = bind-some (required (codes "names") (pair_of text_of text_of) ms.0) _ m target.2 in
    let next_id = bind-some (with_default (codes "next_id") 0 u32_of ms.0) _ m names.2 in
    let whole : MapFile = record { target = target.0; set_memory = (names.0).0; resolve_memory = (names.0).1; modules = modules.0; next_id = next_id.0 } in
    subst IsBoundedMap (same_some whole m next_id.2) (record {
      registers = required-holds (λ (t : Target). HoldsIn IsRegister t.registers) target_of target-bounded (codes "target") ms.0 target.0 fields target.1;
      modules = required-holds (All IsBoundedModule) modules_of (list-holds IsBoundedModule map_module_of module-bounded) (codes "modules") ms.0 modules.0 fields modules.1;
    })

pub map-bounded : (defined bytes : List ℕ) (m : MapFile) → map_of_bytes defined bytes ≡ Some m → IsBoundedMap m
unfolding map_of_bytes map_in_bytes
map-bounded defined bytes m e =
    let whole = then-some (map_for defined) (map_in_bytes bytes) m e in
    let kept = only_if-some (have_counts defined (whole.0).modules && is_countable (whole.0).modules) whole.0 m whole.2 in
    let text = bind-some (only_if (is_utf8 bytes) bytes) _ whole.0 whole.1 in
    let d = bind-some (read text.0) _ whole.0 text.2 in
    subst IsBoundedMap kept.1 (value-bounded d.0 whole.0 (fits-read text.0 d.0 d.1) d.2)
